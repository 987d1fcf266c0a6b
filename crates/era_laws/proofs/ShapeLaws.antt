-- What another number of shards keeps of each name.
use Rattle.std.proofs.Common.{◌≡◌, ◌<◌, ◌≤◌, ℕ, zero, suc, ◌+◌, sym, ap, ◌∙◌, refl, subst, arith, ◌%◌}
use Rattle.std.specs.Prelude.{Bool, true, false, ◌==◌, ◌&&◌, ◌||◌, not, cond, nat_le, List, [], ◌∷◌, ◌++◌, map, filter, fold, Option, Some, None, slice_index_or, if◌then◌else◌}
use Rattle.std.specs.List.{list_any, list_all, flat_map}
use Rattle.std.specs.List.Sorted.{IsStrictlySortedBy}
use Rattle.std.proofs.lemmas.List.Sums.{fold-append, fold_push}
use Rattle.yard_model.specs.declared.fact.Fact.{Fact}
use Rattle.yard_model.specs.declared.fact.Fact.TheVariants as fact
use Rattle.yard_model.specs.declared.charter.Line.{Line}
use Rattle.yard_model.specs.declared.incarnation.Slot.TheVariants as slot
use Rattle.yard_model.specs.Script.{Script, Setting, setting, is_name, brought, with_brought, with_name_of, names_in}
use Rattle.yard_model.specs.Setting.{shard_of, names_of, set_shards}
use Rattle.yard_model.specs.Shard.{shard, absolute, java_hash}
use Rattle.yard_model.specs.Words.{numbers}
use Rattle.yard_model.specs.Genuine.{is_brought, is_producer}
use Rattle.yard_model.specs.Behaviour.{is_in}
use Rattle.yard_model.specs.SlotLists.{SlotLists, shard_list}
use Rattle.yard_model.specs.SlotReads.{journal, journal_step}
use Rattle.yard_model.specs.Opening.{begins}
use Rattle.yard_model.specs.Lawful.{own, is_of_shard, is_folded_after, is_merged_after, is_shard_entry}
use Rattle.yard_model.specs.Era.{is_of_name, entries_of, base, reshaped}
use Rattle.plain_laws.specs.Names.{AllDiffer}
use Rattle.plain_laws.proofs.Booleans.{true_is_not_false, and_both, both, of_not, not_of, number_itself, same_name, at_most, all_filter}
use Rattle.plain_laws.proofs.Read.{journal_more}
use Rattle.plain_laws.proofs.Names.{name_cmp, inserted_sorted, sorted_differ, left_differ, name_itself}
use Rattle.yard_laws.specs.Guarded.{Owns}
use Rattle.yard_laws.proofs.Owned.{shard_to}
use Rattle.yard_laws.proofs.SafetyLaws.{owns_of}
use Rattle.era_laws.specs.Reshapes.{ReshapedKeepsJournals}
use Rattle.era_laws.proofs.OpenLaws.{first_of_three}

-- The names of a script are different.

names_sorted : (orders : List Line) (names : List (List ℕ)) → IsStrictlySortedBy name_cmp names → IsStrictlySortedBy name_cmp (fold with_name_of names orders)
names_sorted [] names h = h
names_sorted (l ∷ ls) names h = names_sorted ls (with_name_of names l) (by (brought l.order))
  where
    by : (o : Option (List ℕ)) → IsStrictlySortedBy name_cmp (with_brought names o)
    by None = h
    by (Some e) = inserted_sorted e names h

pub names_differ : (orders : List Line) → AllDiffer (names_in orders)
unfolding IsStrictlySortedBy
names_differ orders = sorted_differ (names_in orders) (names_sorted orders [] tt)

-- Tests of names.

name_turned : (a b : List ℕ) → is_name a b ≡ false → is_name b a ≡ false
name_turned a b e = at (is_name b a) refl
  where
    at : (t : Bool) → is_name b a ≡ t → is_name b a ≡ false
    at true t = absurd (true_is_not_false (sym (name_itself a) ∙ (ap (λ x. is_name a x) (sym (same_name b a t)) ∙ e)))
    at false t = t

-- an entry of one name is of no other
pub of_another : (x e : List ℕ) (f : Fact) → is_name x e ≡ false → is_of_name x f ≡ true → is_of_name e f ≡ false
of_another x e (fact.Wrote y r) other m = ap (λ z. is_name z e) (same_name y x m) ∙ other
of_another x e (fact.Snapshot y n) other m = ap (λ z. is_name z e) (same_name y x m) ∙ other
of_another x e (fact.Remembered y) other m = ap (λ z. is_name z e) (same_name y x m) ∙ other
of_another x e (fact.Forgotten y) other m = ap (λ z. is_name z e) (same_name y x m) ∙ other
of_another x e f other m = absurd (true_is_not_false (sym m))

-- What reads the entries of one name alone.

-- an entry of no other name changes it
abbrev pub Reads : {B : Type 0} → List ℕ → (B → Fact → B) → Type 0
Reads {B} e g = (old : B) (f : Fact) → is_of_name e f ≡ false → g old f ≡ old

pub journal_reads : (e : List ℕ) → Reads e (journal_step e)
journal_reads e old (fact.Wrote y r) m = ap (λ b. if b then old ++ r ∷ [] else old) m
journal_reads e old f m = refl

-- it is the same of the entries of that name
pub of_name_same : {B : Type 0} (e : List ℕ) (g : B → Fact → B) → Reads e g → (z : B) (list : List Fact) → fold g z (filter (is_of_name e) list) ≡ fold g z list
of_name_same e g reads z [] = refl
of_name_same {B} e g reads z (f ∷ fs) = at (λ y. of_name_same e g reads y fs) (is_of_name e f) refl
  where
    at : ((y : B) → fold g y (filter (is_of_name e) fs) ≡ fold g y fs) → (b : Bool) → is_of_name e f ≡ b → fold g z (cond b (f ∷ filter (is_of_name e) fs) (filter (is_of_name e) fs)) ≡ fold g (g z f) fs
    at rest true t = rest (g z f)
    at rest false t = rest z ∙ ap (λ y. fold g y fs) (sym (reads z f t))

-- no entry is of that name
abbrev pub none_of : List ℕ → List Fact → Bool
none_of e list = list_all (λ f. not (is_of_name e f)) list

-- it is as it was
pub none_same : {B : Type 0} (e : List ℕ) (g : B → Fact → B) → Reads e g → (z : B) (list : List Fact) → none_of e list ≡ true → fold g z list ≡ z
none_same e g reads z [] h = refl
none_same e g reads z (f ∷ fs) h =
    let m : (not (is_of_name e f) ≡ true) × (none_of e fs ≡ true) = and_both (not (is_of_name e f)) (none_of e fs) h in
    ap (λ y. fold g y fs) (reads z f (of_not (is_of_name e f) m.0)) ∙ none_same e g reads z fs m.1

-- the entries of one name are of no other
pub others_none : (x e : List ℕ) (list : List Fact) → is_name x e ≡ false → none_of e (filter (is_of_name x) list) ≡ true
others_none x e [] other = refl
others_none x e (f ∷ fs) other = at (is_of_name x f) refl (others_none x e fs other)
  where
    at : (b : Bool) → is_of_name x f ≡ b → none_of e (filter (is_of_name x) fs) ≡ true → none_of e (cond b (f ∷ filter (is_of_name x) fs) (filter (is_of_name x) fs)) ≡ true
    at true t rest = both (not (is_of_name e f)) (none_of e (filter (is_of_name x) fs)) (not_of (is_of_name e f) (of_another x e f other t)) rest
    at false t rest = rest

-- none of these names is that
abbrev pub is_absent : List ℕ → List (List ℕ) → Bool
is_absent e names = list_all (λ x. not (is_name x e)) names

-- what is read of the entries of names, one after the other: nothing of a name that is absent
pub absent_same : {B : Type 0} (set : Setting) (lists : SlotLists) (e : List ℕ) (g : B → Fact → B) → Reads e g → (z : B) (names : List (List ℕ)) → is_absent e names ≡ true → fold g z (flat_map (entries_of set lists) names) ≡ z
absent_same set lists e g reads z [] h = refl
absent_same set lists e g reads z (x ∷ xs) h =
    let m : (not (is_name x e) ≡ true) × (is_absent e xs ≡ true) = and_both (not (is_name x e)) (is_absent e xs) h in
    fold-append g z (entries_of set lists x) (flat_map (entries_of set lists) xs)
    ∙ (ap (λ y. fold g y (flat_map (entries_of set lists) xs)) (none_same e g reads z (entries_of set lists x) (others_none x e (shard_list lists (shard_of set x)) (of_not (is_name x e) m.0)))
    ∙ absent_same set lists e g reads z xs m.1)

-- of a name that is among them, what its shard's list says
pub present_same : {B : Type 0} (set : Setting) (lists : SlotLists) (e : List ℕ) (g : B → Fact → B) → Reads e g → (z : B) (names : List (List ℕ)) → AllDiffer names → list_any (is_name e) names ≡ true
    → fold g z (flat_map (entries_of set lists) names) ≡ fold g z (shard_list lists (shard_of set e))
present_same set lists e g reads z [] d h = absurd (true_is_not_false (sym h))
present_same {B} set lists e g reads z (x ∷ xs) d h = fold-append g z (entries_of set lists x) (flat_map (entries_of set lists) xs) ∙ at (is_name e x) refl h (λ k. present_same set lists e g reads z xs d.1 k)
  where
    more : List Fact
    more = flat_map (entries_of set lists) xs

    at : (b : Bool) → is_name e x ≡ b → (b || list_any (is_name e) xs) ≡ true → (list_any (is_name e) xs ≡ true → fold g z more ≡ fold g z (shard_list lists (shard_of set e)))
        → fold g (fold g z (entries_of set lists x)) more ≡ fold g z (shard_list lists (shard_of set e))
    at true t k rest =
        let same : e ≡ x = same_name e x t in
        let gone : is_absent e xs ≡ true = subst (λ y. is_absent y xs ≡ true) (sym same) (turned_all x xs d.0) in
        absent_same set lists e g reads (fold g z (entries_of set lists x)) xs gone
        ∙ (ap (λ y. fold g z (entries_of set lists y)) (sym same) ∙ of_name_same e g reads z (shard_list lists (shard_of set e)))
      where
        turned_all : (x : List ℕ) (ys : List (List ℕ)) → list_all (λ y. not (is_name x y)) ys ≡ true → is_absent x ys ≡ true
        turned_all x [] h = refl
        turned_all x (y ∷ ys) h =
            let m : (not (is_name x y) ≡ true) × (list_all (λ y. not (is_name x y)) ys ≡ true) = and_both (not (is_name x y)) (list_all (λ y. not (is_name x y)) ys) h in
            both (not (is_name y x)) (is_absent x ys) (not_of (is_name y x) (name_turned x y (of_not (is_name x y) m.0))) (turned_all x ys m.1)
    at false t k rest = ap (λ y. fold g y more) (none_same e g reads z (entries_of set lists x) (others_none x e (shard_list lists (shard_of set x)) (name_turned e x t))) ∙ rest k

-- The lists for so many shards.

number_at : {X : Type 0} (h : ℕ → X) (a n i : ℕ) (d : X) → i < n → slice_index_or (map h (numbers a n)) i d ≡ h (a + i)
number_at h a zero i d less = absurd (omega arith)
number_at h a (suc n) zero d less = ap h (let here : a ≡ a + 0 = omega arith in here)
number_at h a (suc n) (suc i) d less = number_at h (a + 1) n i d (omega arith) ∙ ap h (let next : (a + 1) + i ≡ a + suc i = omega arith in next)

-- the list of shard s
pub reshaped_list : (set : Setting) (n k : ℕ) (lists : SlotLists) (s : ℕ) → s < n → shard_list (reshaped set n k lists) s ≡ base set (set_shards n set) lists s ++ fact.Resharded s n k ∷ []
reshaped_list set n k lists s less =
    number_at (λ s. base set (set_shards n set) lists s ++ fact.Resharded s n k ∷ []) 0 n s [] less
    ∙ ap (λ t. base set (set_shards n set) lists t ++ fact.Resharded t n k ∷ []) (let here : 0 + s ≡ s = omega arith in here)

above_none : (n : ℕ) → is_in 1 128 n ≡ true → 0 < n
above_none n e = let low : 1 ≤ n = at_most 1 n (and_both (nat_le 1 n) (nat_le n 128) e).0 in omega arith

pub shard_below : (n : ℕ) (e : List ℕ) → 0 < n → shard n e < n
shard_below n e above = let h : ℕ = absolute (java_hash e) in below_itself h n above
  where
    below_itself : (h n : ℕ) → 0 < n → h % n < n
    below_itself h n above = omega arith

-- a name that isn't brought has no journal
not_brought : (c : Script) (s : ℕ) (e : List ℕ) (list : List Fact) → is_brought c e ≡ false → own c (slot.Shard s) list ≡ true → journal e list ≡ []
not_brought c s e list other o = shard_to c s (λ l. journal e l ≡ []) refl (λ l f h may. journal_more e l f ∙ step l f h may) list o
  where
    step : (l : List Fact) (f : Fact) → journal e l ≡ [] → (begins f || is_shard_entry c s l f) ≡ true → journal_step e (journal e l) f ≡ []
    step l (fact.Wrote x r) h may = at (is_name x e) refl
      where
        there : is_brought c x ≡ true
        there = first_of_three (is_brought c x) (shard_of (setting c) x == s) (is_producer c r.producer) (first_of_three (is_of_shard c s x && is_producer c r.producer) (is_folded_after c (journal x l) r) (is_merged_after c x (journal x l) r) may)

        at : (b : Bool) → is_name x e ≡ b → (if b then journal e l ++ r ∷ [] else journal e l) ≡ []
        at true t = absurd (true_is_not_false (sym there ∙ (ap (is_brought c) (same_name x e t) ∙ other)))
        at false t = h
    step l f h may = h

-- a name that isn't brought is absent
not_there : (e : List ℕ) (names : List (List ℕ)) → list_any (is_name e) names ≡ false → is_absent e names ≡ true
not_there e [] h = refl
not_there e (x ∷ xs) h = at (is_name e x) refl h (λ k. not_there e xs k)
  where
    at : (b : Bool) → is_name e x ≡ b → (b || list_any (is_name e) xs) ≡ false → (list_any (is_name e) xs ≡ false → is_absent e xs ≡ true) → (not (is_name x e) && is_absent e xs) ≡ true
    at true t k rest = absurd (true_is_not_false k)
    at false t k rest = both (not (is_name x e)) (is_absent e xs) (not_of (is_name x e) (name_turned e x t)) (rest k)

-- and a brought one is among those of its shard
there_still : (p : List ℕ → Bool) (e : List ℕ) (names : List (List ℕ)) → p e ≡ true → list_any (is_name e) names ≡ true → list_any (is_name e) (filter p names) ≡ true
there_still p e [] h k = k
there_still p e (x ∷ xs) h k = at (is_name e x) refl k (λ k. there_still p e xs h k) (p x) refl
  where
    at : (b : Bool) → is_name e x ≡ b → (b || list_any (is_name e) xs) ≡ true → (list_any (is_name e) xs ≡ true → list_any (is_name e) (filter p xs) ≡ true) → (t : Bool) → p x ≡ t → list_any (is_name e) (cond t (x ∷ filter p xs) (filter p xs)) ≡ true
    at true s k rest true t = ap (λ b. b || list_any (is_name e) (filter p xs)) s
    at true s k rest false t = absurd (true_is_not_false (sym h ∙ (ap p (same_name e x s) ∙ t)))
    at false s k rest true t = ap (λ b. b || list_any (is_name e) (filter p xs)) s ∙ rest k
    at false s k rest false t = rest k

-- what is read of a brought name stays
pub base_same : {B : Type 0} (c : Script) (n : ℕ) (lists : SlotLists) (e : List ℕ) (g : B → Fact → B) → Reads e g → (z : B) → is_brought c e ≡ true
    → fold g z (base (setting c) (set_shards n (setting c)) lists (shard n e)) ≡ fold g z (shard_list lists (shard_of (setting c) e))
base_same c n lists e g reads z there =
    let of_it : List ℕ → Bool = λ x. shard n x == shard n e in
    present_same (setting c) lists e g reads z (names_of (set_shards n (setting c)) (shard n e)) (left_differ of_it (names_in c.orders) (names_differ c.orders))
    (there_still of_it e (names_in c.orders) (number_itself (shard n e) (shard n e) refl) there)

-- Journals stay.

pub reshaped_keeps_journals : ReshapedKeepsJournals
reshaped_keeps_journals c n k lists range h e =
    let s : ℕ = shard n e in
    let b : List Fact = base (setting c) (set_shards n (setting c)) lists s in
    let o : Owns c lists = (owns_of c lists h).0 in
    ap (journal e) (reshaped_list (setting c) n k lists s (shard_below n e (above_none n range)))
    ∙ (fold_push (journal_step e) [] b (fact.Resharded s n k)
    ∙ at (is_brought c e) refl o)
  where
    at : (b : Bool) → is_brought c e ≡ b → Owns c lists → fold (journal_step e) [] (base (setting c) (set_shards n (setting c)) lists (shard n e)) ≡ journal e (shard_list lists (shard_of (setting c) e))
    at true t o = base_same c n lists e (journal_step e) (journal_reads e) [] t
    at false t o =
        absent_same (setting c) lists e (journal_step e) (journal_reads e) [] (names_of (set_shards n (setting c)) (shard n e))
        (all_filter (λ x. not (is_name x e)) (λ x. shard n x == shard n e) (names_in c.orders) (not_there e (names_in c.orders) t))
        ∙ sym (not_brought c (shard_of (setting c) e) e (shard_list lists (shard_of (setting c) e)) t (o.shard (shard_of (setting c) e)))
