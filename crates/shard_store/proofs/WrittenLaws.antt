-- Entries that wrote a record, and the journal of a name read off a list of them.
use Rattle.std.proofs.Common.{◌≡◌, ℕ, ◌+◌, ◌<◌, ◌≤◌, List, length, sym, ap, subst, ◌∙◌, refl, true, false, arith, length-append, take, drop, map}
use Rattle.std.specs.Prelude.{Bool, [], ◌∷◌, ◌++◌, cond, fold, slice_index_or}
use Rattle.std.proofs.lemmas.List.{append-nil, append_assoc, get_or_at, get_or-map, length-map, take-append-drop, take_all, take_more, length-take-le}
use Rattle.std.proofs.lemmas.List.Sums.{fold-append}
use Rattle.plain_laws.proofs.Booleans.{true_is_not_false}
use Rattle.yard_model.specs.declared.entry.ShardEntry.{ShardEntry}
use Rattle.yard_model.specs.declared.entry.ShardEntry.TheVariants as entry
use Rattle.yard_model.specs.declared.fact.Fact.{Fact}
use Rattle.yard_model.specs.declared.fact.Fact.TheVariants as fact
use Rattle.yard_model.specs.declared.packet.Record.{Record}
use Rattle.yard_model.specs.Entry.{shard_fact}
use Rattle.yard_model.specs.Script.{is_name}
use Rattle.yard_model.specs.SlotReads.{journal, journal_step}
use Rattle.entity_journal.specs.Journal.{AreNumbered, Journaled}
use Rattle.shard_store.specs.Shelved.{IsJournal}
use Rattle.shard_store.specs.Written.{is_wrote, is_record_of, wrote_in, IsNext, IsMore}
use Rattle.shard_store.proofs.NamesLaws.{same_name}
use Rattle.shard_store.proofs.KeptLaws.{journal_more, journal_wrote}
use Rattle.shard_store.proofs.PlacedLaws.{journal_still, journal_grows}
use Rattle.shard_store.proofs.ShelfLaws.{IsWritten}

-- An entry.

pub record_wrote : (e : List ℕ) (x : ShardEntry) → is_record_of e x ≡ true → is_wrote x ≡ true
record_wrote e (entry.Granted n w) h = absurd (true_is_not_false (sym h))
record_wrote e (entry.Freed n why) h = absurd (true_is_not_false (sym h))
record_wrote e (entry.Wrote y r) h = refl
record_wrote e (entry.Snapshot y m) h = absurd (true_is_not_false (sym h))
record_wrote e (entry.Remembered y) h = absurd (true_is_not_false (sym h))
record_wrote e (entry.Forgotten y) h = absurd (true_is_not_false (sym h))
record_wrote e (entry.Reshard n k) h = absurd (true_is_not_false (sym h))

-- what it wrote hangs on no other record
pub wrote_any : (x : ShardEntry) (a b : Record) → is_wrote x ≡ true → wrote_in x a ≡ wrote_in x b
wrote_any (entry.Granted n w) a b h = absurd (true_is_not_false (sym h))
wrote_any (entry.Freed n why) a b h = absurd (true_is_not_false (sym h))
wrote_any (entry.Wrote y r) a b h = refl
wrote_any (entry.Snapshot y m) a b h = absurd (true_is_not_false (sym h))
wrote_any (entry.Remembered y) a b h = absurd (true_is_not_false (sym h))
wrote_any (entry.Forgotten y) a b h = absurd (true_is_not_false (sym h))
wrote_any (entry.Reshard n k) a b h = absurd (true_is_not_false (sym h))

abbrev fact_wrote : Fact → Bool
fact_wrote (fact.Wrote e r) = true
fact_wrote f = false

abbrev fact_record : Record → Fact → Record
fact_record d (fact.Wrote e r) = r
fact_record d f = d

same_wrote : (s : ℕ) (x : ShardEntry) → is_wrote x ≡ fact_wrote (shard_fact s x)
same_wrote s (entry.Granted n w) = refl
same_wrote s (entry.Freed n why) = refl
same_wrote s (entry.Wrote y r) = refl
same_wrote s (entry.Snapshot y m) = refl
same_wrote s (entry.Remembered y) = refl
same_wrote s (entry.Forgotten y) = refl
same_wrote s (entry.Reshard n k) = refl

same_record : (s : ℕ) (x : ShardEntry) (d : Record) → wrote_in x d ≡ fact_record d (shard_fact s x)
same_record s (entry.Granted n w) d = refl
same_record s (entry.Freed n why) d = refl
same_record s (entry.Wrote y r) d = refl
same_record s (entry.Snapshot y m) d = refl
same_record s (entry.Remembered y) d = refl
same_record s (entry.Forgotten y) d = refl
same_record s (entry.Reshard n k) d = refl

-- the fact at a place
fact_at : (s : ℕ) (xs : List ShardEntry) (list : List Fact) (p : ℕ) (x : ShardEntry) → map (shard_fact s) xs ≡ list → p < length list → x ≡ slice_index_or xs p x → slice_index_or list p (shard_fact s x) ≡ shard_fact s x
fact_at s xs list p x are within is =
    let long : length (map (shard_fact s) xs) ≡ length xs = length-map xs (shard_fact s) in
    let same : length (map (shard_fact s) xs) ≡ length list = ap length are in
    ap (λ (l : List Fact). slice_index_or l p (shard_fact s x)) (sym are) ∙ (get_or-map (shard_fact s) xs p x (shard_fact s x) (omega (arith, within, long, same)) ∙ ap (shard_fact s) (sym is))

pub wrote_there : (s : ℕ) (xs : List ShardEntry) (list : List Fact) (p : ℕ) (x : ShardEntry) (e : List ℕ) (r : Record) → map (shard_fact s) xs ≡ list → x ≡ slice_index_or xs p x → IsWritten list p e r → is_wrote x ≡ true
wrote_there s xs list p x e r are is w = same_wrote s x ∙ ap fact_wrote (sym (fact_at s xs list p x are w.within is) ∙ w.it (shard_fact s x))

pub record_there : (s : ℕ) (xs : List ShardEntry) (list : List Fact) (p : ℕ) (x : ShardEntry) (e : List ℕ) (r d : Record) → map (shard_fact s) xs ≡ list → x ≡ slice_index_or xs p x → IsWritten list p e r → wrote_in x d ≡ r
record_there s xs list p x e r d are is w = same_record s x d ∙ ap (fact_record d) (sym (fact_at s xs list p x are w.within is) ∙ w.it (shard_fact s x))

-- The journal of a name, read off a list.

-- records of the entries behind come behind
journal_from : (e : List ℕ) (old : List Record) (list : List Fact) → fold (journal_step e) old list ≡ old ++ journal e list
journal_from e old [] = sym (append-nil old)
journal_from e old (f ∷ fs) =
    journal_from e (journal_step e old f) fs
    ∙ (ap (λ l. l ++ journal e fs) (one f)
    ∙ (append_assoc old (journal_step e [] f) (journal e fs)
    ∙ ap (λ l. old ++ l) (sym (journal_from e (journal_step e [] f) fs))))
  where
    one : (f : Fact) → journal_step e old f ≡ old ++ journal_step e [] f
    one (fact.Wrote x r) = by (is_name x e)
      where
        by : (b : Bool) → cond b (old ++ r ∷ []) old ≡ old ++ cond b ([] ++ r ∷ []) []
        by true = refl
        by false = sym (append-nil old)
    one f = sym (append-nil old)

-- a record that stands in a list is the next one of what was read before it
pub next_in_list : (e : List ℕ) (s : ℕ) (xs : List ShardEntry) (list : List Fact) (i room : ℕ) (x : ShardEntry) (j : Journaled) → map (shard_fact s) xs ≡ list → i < length list → x ≡ slice_index_or xs i x
    → AreNumbered (journal e list) → length (journal e list) ≤ room → IsJournal e (take i list) room j → (d : Record) → is_record_of e x ≡ true → IsNext (wrote_in x d) j
next_in_list e s xs list i room x j are within is numbered few k d h = by x h (fact_at s xs list i x are within is)
  where
    before : List Record
    before = journal e (take i list)

    after : List Record
    after = journal e (drop (i + 1) list)

    next : (y : List ℕ) (r : Record) → is_name y e ≡ true → slice_index_or list i (fact.Wrote y r) ≡ fact.Wrote y r → IsNext r j
    next y r own at =
        let all : journal e list ≡ before ++ (r ∷ after) =
        ap (journal e) (sym (take-append-drop (i + 1) list))
        ∙ (fold-append (journal_step e) [] (take (i + 1) list) (drop (i + 1) list)
        ∙ (ap (λ l. fold (journal_step e) (journal e l) (drop (i + 1) list)) (take_more list i (fact.Wrote y r) within ∙ ap (λ (f : Fact). take i list ++ f ∷ []) at)
        ∙ (ap (λ l. fold (journal_step e) l (drop (i + 1) list)) (journal_wrote y e (take i list) r true own)
        ∙ (journal_from e (before ++ r ∷ []) (drop (i + 1) list) ∙ append_assoc before (r ∷ []) after)))) in
        let long : length (journal e list) ≡ length before + length (r ∷ after) = ap length all ∙ length-append before (r ∷ after) in
        let room_is : room ≤ length before + j.spare = k.room_is in
        let same : length before ≡ length j.items = sym (ap length k.records_are) in
        let short : length before < length (journal e list) = omega (arith, long) in
        let here : slice_index_or (journal e list) (length before) r ≡ r = ap (λ l. slice_index_or l (length before) r) all ∙ get_or_at before r after r (length before) refl in
        record {
          room = omega (arith, long, room_is, few);
          number = ap (λ (y : Record). y.number) (sym here) ∙ (numbered.each (length before) r short ∙ ap (λ n. n + 1) same);
        }

    by : (x : ShardEntry) → is_record_of e x ≡ true → slice_index_or list i (shard_fact s x) ≡ shard_fact s x → IsNext (wrote_in x d) j
    by (entry.Granted n w) h at = absurd (true_is_not_false (sym h))
    by (entry.Freed n why) h at = absurd (true_is_not_false (sym h))
    by (entry.Wrote y r) h at = next y r h at
    by (entry.Snapshot y m) h at = absurd (true_is_not_false (sym h))
    by (entry.Remembered y) h at = absurd (true_is_not_false (sym h))
    by (entry.Forgotten y) h at = absurd (true_is_not_false (sym h))
    by (entry.Reshard n k) h at = absurd (true_is_not_false (sym h))

-- one entry more is read
journal_read : (e : List ℕ) (list : List Fact) (s room p : ℕ) (x : ShardEntry) (old new : Journaled) → p ≡ length list → ((d : Record) → is_record_of e x ≡ true → IsMore (wrote_in x d) p old new) → (is_record_of e x ≡ false → new ≡ old)
    → IsJournal e list room old → IsJournal e (list ++ shard_fact s x ∷ []) room new
journal_read e list s room p x old new at more none k = by x more none
  where
    stays : (f : Fact) → journal_step e (journal e list) f ≡ journal e list → new ≡ old → IsJournal e (list ++ f ∷ []) room new
    stays f same is = subst (IsJournal e (list ++ f ∷ []) room) (sym is) (journal_still e list f room old (journal_more e list f ∙ same) k)

    wrote : (y : List ℕ) (r : Record) (b : Bool) → is_name y e ≡ b → (is_name y e ≡ true → IsMore r p old new) → (is_name y e ≡ false → new ≡ old) → IsJournal e (list ++ fact.Wrote y r ∷ []) room new
    wrote y r true own more none =
        let m : IsMore r p old new = more own in
        let same : y ≡ e = same_name y e own in
        subst (λ n. IsJournal e (list ++ fact.Wrote n r ∷ []) room new) (sym same)
        (journal_grows e list r room old new (subst (λ n. journal e (list ++ fact.Wrote n r ∷ []) ≡ journal e list ++ r ∷ []) same (journal_wrote y e list r true own)) m.items (m.places ∙ ap (λ n. old.places ++ n ∷ []) at) m.spare k)
    wrote y r false other more none = subst (IsJournal e (list ++ fact.Wrote y r ∷ []) room) (sym (none other)) (journal_still e list (fact.Wrote y r) room old (journal_wrote y e list r false other) k)

    by : (x : ShardEntry) → ((d : Record) → is_record_of e x ≡ true → IsMore (wrote_in x d) p old new) → (is_record_of e x ≡ false → new ≡ old) → IsJournal e (list ++ shard_fact s x ∷ []) room new
    by (entry.Granted n w) more none = stays (shard_fact s (entry.Granted n w)) refl (none refl)
    by (entry.Freed n why) more none = stays (shard_fact s (entry.Freed n why)) refl (none refl)
    by (entry.Wrote y r) more none = wrote y r (is_name y e) refl (more r) none
    by (entry.Snapshot y m) more none = stays (fact.Snapshot y m) refl (none refl)
    by (entry.Remembered y) more none = stays (fact.Remembered y) refl (none refl)
    by (entry.Forgotten y) more none = stays (fact.Forgotten y) refl (none refl)
    by (entry.Reshard n k) more none = stays (shard_fact s (entry.Reshard n k)) refl (none refl)

pub journal_next : (e : List ℕ) (s : ℕ) (xs : List ShardEntry) (list : List Fact) (i room p : ℕ) (x : ShardEntry) (old new : Journaled) → map (shard_fact s) xs ≡ list → i < length list → x ≡ slice_index_or xs i x → p ≡ i
    → ((d : Record) → is_record_of e x ≡ true → IsMore (wrote_in x d) p old new) → (is_record_of e x ≡ false → new ≡ old) → IsJournal e (take i list) room old → IsJournal e (take (i + 1) list) room new
journal_next e s xs list i room p x old new are within is at more none k =
    let here : take (i + 1) list ≡ take i list ++ shard_fact s x ∷ [] = take_more list i (shard_fact s x) within ∙ ap (λ (f : Fact). take i list ++ f ∷ []) (fact_at s xs list i x are within is) in
    let long : length (take i list) ≡ i = length-take-le i list (omega (arith, within)) in
    subst (λ l. IsJournal e l room new) (sym here) (journal_read e (take i list) s room p x old new (at ∙ sym long) more none k)

pub places_within : (s : ℕ) (xs : List ShardEntry) (list : List Fact) (i : ℕ) → map (shard_fact s) xs ≡ list → i < length xs → i < length list
places_within s xs list i are h = let long : length (map (shard_fact s) xs) ≡ length xs = length-map xs (shard_fact s) in let same : length (map (shard_fact s) xs) ≡ length list = ap length are in omega (arith, h, long, same)

pub journal_whole : (e : List ℕ) (s : ℕ) (xs : List ShardEntry) (list : List Fact) (i room : ℕ) (j : Journaled) → map (shard_fact s) xs ≡ list → length xs ≤ i → IsJournal e (take i list) room j → IsJournal e list room j
journal_whole e s xs list i room j are past k =
    let long : length (map (shard_fact s) xs) ≡ length xs = length-map xs (shard_fact s) in
    let same : length (map (shard_fact s) xs) ≡ length list = ap length are in
    subst (λ l. IsJournal e l room j) (take_all i list (omega (arith, past, long, same))) k

pub entries_within : (s : ℕ) (xs : List ShardEntry) (list : List Fact) (i : ℕ) → map (shard_fact s) xs ≡ list → i < length list → i < length xs
entries_within s xs list i are h = let long : length (map (shard_fact s) xs) ≡ length xs = length-map xs (shard_fact s) in let same : length (map (shard_fact s) xs) ≡ length list = ap length are in omega (arith, h, long, same)
