-- The records of an entity in a shard's list.
use Rattle.std.proofs.Common.{◌≡◌, ◌<◌, ℕ, ◌+◌, List, [], ◌∷◌, ◌++◌, length, map, take, drop, refl, sym, ◌∙◌, ap, append_assoc}
use Rattle.std.specs.Prelude.{Bool, true, false, IfSome, cond, filter, fold, Option, Some, None, if◌then◌else◌, slice_index_or}
use Rattle.std.proofs.lemmas.List.{append-nil, drop_more, take-append-drop}
use Rattle.std.proofs.lemmas.List.Elements.{filter-append}
use Rattle.std.proofs.lemmas.List.Concat.{flat_map-cons}
use Rattle.std.proofs.lemmas.Grind.{flat_map-append}
use Rattle.yard_model.specs.declared.entry.ShardEntry.{ShardEntry}
use Rattle.yard_model.specs.declared.entry.ShardEntry.TheVariants as shard
use Rattle.yard_model.specs.declared.event.Reply.{Reply}
use Rattle.yard_model.specs.declared.packet.Record.{Record}
use Rattle.yard_model.specs.Entry.{shard_fact}
use Rattle.yard_model.specs.Script.{is_name}
use Rattle.yard_model.specs.SlotReads.{journal, journal_step}
use Rattle.serve_laws.specs.Served.{is_record_of, reply_at}
use Rattle.serve_laws.proofs.OneLaws.{reply_stays}
use Rattle.serve_answers.specs.Records.{IsReplyIn, record_in, records_in}

-- They are the journal.

step_is : (s : ℕ) (e : List ℕ) (so_far : List Record) (x : ShardEntry) → journal_step e so_far (shard_fact s x) ≡ so_far ++ record_in e x
step_is s e so_far (shard.Granted n x) = sym (append-nil so_far)
step_is s e so_far (shard.Freed n why) = sym (append-nil so_far)
step_is s e so_far (shard.Wrote x r) = by (is_name x e)
  where
    by : (b : Bool) → (if b then so_far ++ r ∷ [] else so_far) ≡ so_far ++ (if b then r ∷ [] else [])
    by true = refl
    by false = sym (append-nil so_far)
step_is s e so_far (shard.Snapshot x n) = sym (append-nil so_far)
step_is s e so_far (shard.Remembered x) = sym (append-nil so_far)
step_is s e so_far (shard.Forgotten x) = sym (append-nil so_far)
step_is s e so_far (shard.Reshard n k) = sym (append-nil so_far)

folds : (s : ℕ) (e : List ℕ) (so_far : List Record) (list : List ShardEntry) → fold (journal_step e) so_far (map (shard_fact s) list) ≡ so_far ++ records_in e list
folds s e so_far [] = sym (append-nil so_far)
folds s e so_far (x ∷ xs) =
    ap (λ l. fold (journal_step e) l (map (shard_fact s) xs)) (step_is s e so_far x)
    ∙ (folds s e (so_far ++ record_in e x) xs
    ∙ (append_assoc so_far (record_in e x) (records_in e xs)
    ∙ ap (λ l. so_far ++ l) (sym (flat_map-cons (record_in e) x xs))))

pub journal_is : (s : ℕ) (e : List ℕ) (list : List ShardEntry) → journal e (map (shard_fact s) list) ≡ records_in e list
journal_is s e list = folds s e [] list

-- From a place on.

pub next_record : (e : List ℕ) (list : List ShardEntry) (i : ℕ) (x : ShardEntry) → i < length list → x ≡ slice_index_or list i x → records_in e (drop i list) ≡ record_in e x ++ records_in e (drop (i + 1) list)
next_record e list i x h is =
    ap (records_in e) (drop_more list i x h ∙ ap (λ y. y ∷ drop (i + 1) list) (sym is)) ∙ flat_map-cons (record_in e) x (drop (i + 1) list)

passes : (p n : ℕ) (xs ys : List Record) → reply_at p n xs ≡ None → reply_at p n (xs ++ ys) ≡ reply_at p n ys
passes p n [] ys h = refl
passes p n (x ∷ xs) ys h = by (is_record_of p n x) h (passes p n xs ys)
  where
    by : (b : Bool) → (if b then Some x.reply else reply_at p n xs) ≡ None → (reply_at p n xs ≡ None → reply_at p n (xs ++ ys) ≡ reply_at p n ys) → (if b then Some x.reply else reply_at p n (xs ++ ys)) ≡ reply_at p n ys
    by true e rest = cc
    by false e rest = rest e

-- the entry there is the record
pub found_at : (p : ℕ) (e : List ℕ) (n : ℕ) (list : List ShardEntry) (i : ℕ) (x : ShardEntry) (r : Reply) → i < length list → x ≡ slice_index_or list i x → reply_at p n (record_in e x) ≡ Some r
    → reply_at p n (records_in e (drop i list)) ≡ Some r
found_at p e n list i x r h is found = ap (reply_at p n) (next_record e list i x h is) ∙ reply_stays p n (record_in e x) (records_in e (drop (i + 1) list)) r found

-- or it isn't, and none behind it is
pub none_at : (p : ℕ) (e : List ℕ) (n : ℕ) (list : List ShardEntry) (i : ℕ) (x : ShardEntry) → i < length list → x ≡ slice_index_or list i x → reply_at p n (record_in e x) ≡ None
    → reply_at p n (records_in e (drop (i + 1) list)) ≡ None → reply_at p n (records_in e (drop i list)) ≡ None
none_at p e n list i x h is none rest = ap (reply_at p n) (next_record e list i x h is) ∙ (passes p n (record_in e x) (records_in e (drop (i + 1) list)) none ∙ rest)

-- Where there is one record, any that is found is that.

some_filtered : (p n : ℕ) (xs : List Record) (r : Reply) → reply_at p n xs ≡ Some r → (a : Record) × (more : List Record) × (filter (is_record_of p n) xs ≡ a ∷ more)
some_filtered p n [] r h = cc
some_filtered p n (x ∷ xs) r h = by (is_record_of p n x) h (some_filtered p n xs r)
  where
    by : (b : Bool) → (if b then Some x.reply else reply_at p n xs) ≡ Some r → (reply_at p n xs ≡ Some r → (a : Record) × (more : List Record) × (filter (is_record_of p n) xs ≡ a ∷ more))
        → (a : Record) × (more : List Record) × (cond b (x ∷ filter (is_record_of p n) xs) (filter (is_record_of p n) xs) ≡ a ∷ more)
    by true e rest = (x, filter (is_record_of p n) xs, refl)
    by false e rest = rest e

two_not_one : (a b it : Record) (xs ys : List Record) → (a ∷ xs) ++ b ∷ ys ≡ it ∷ [] → ⊥
two_not_one a b it [] ys h = cc
two_not_one a b it (x ∷ xs) ys h = cc

pub the_reply : (p : ℕ) (e : List ℕ) (n : ℕ) (list : List ShardEntry) (it : Record) (i : ℕ) (r : Reply) → filter (is_record_of p n) (records_in e list) ≡ it ∷ [] → reply_at p n (records_in e (drop i list)) ≡ Some r
    → reply_at p n (records_in e list) ≡ Some r
the_reply p e n list it i r alone found = by (reply_at p n front) refl
  where
    front : List Record
    front = records_in e (take i list)

    back : List Record
    back = records_in e (drop i list)

    parts : records_in e list ≡ front ++ back
    parts = ap (records_in e) (sym (take-append-drop i list)) ∙ flat_map-append (record_in e) (take i list) (drop i list)

    by : (o : Option Reply) → reply_at p n front ≡ o → reply_at p n (records_in e list) ≡ Some r
    by None is = ap (reply_at p n) parts ∙ (passes p n front back is ∙ found)
    by (Some q) is =
        let a = some_filtered p n front q is in
        let b = some_filtered p n back r found in
        let two : (a.0 ∷ a.1) ++ b.0 ∷ b.1 ≡ it ∷ [] =
        sym (filter-append (is_record_of p n) front back ∙ (ap (λ l. l ++ filter (is_record_of p n) back) a.2 ∙ ap (λ l. (a.0 ∷ a.1) ++ l) b.2)) ∙ (ap (filter (is_record_of p n)) (sym parts) ∙ alone) in
        absurd (two_not_one a.0 b.0 it a.1 b.1 two)

-- the entry at a place, if it is the record
pub there : (p : ℕ) (e : List ℕ) (n : ℕ) (list : List ShardEntry) (i : ℕ) (x : ShardEntry) (o : Option Reply) → i < length list → x ≡ slice_index_or list i x → o ≡ reply_at p n (record_in e x) → IfSome o (λ r. IsReplyIn p e n list r)
there p e n list i x None h is found = tt
there p e n list i x (Some r) h is found = (i, found_at p e n list i x r h is (sym found))
