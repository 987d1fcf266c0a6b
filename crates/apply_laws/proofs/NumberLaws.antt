-- The greatest number of node 1 in the lists of a settling.
use Rattle.std.proofs.Common.{◌≡◌, ◌<◌, ◌≤◌, ℕ, zero, suc, ◌+◌, ◌-◌, ap, subst, sym, ◌∙◌, refl, arith}
use Rattle.std.specs.Prelude.{Bool, true, false, ◌==◌, ◌&&◌, cond, max, nat_le, nat_lt, List, [], ◌∷◌, ◌++◌, fold, length, slice_index_or, slice_set, Option, Some, None, if◌then◌else◌}
use Rattle.std.specs.List.{flat_map, list_all}
use Rattle.std.proofs.lemmas.List.{length-set}
use Rattle.std.proofs.lemmas.List.Sums.{fold-append}
use Rattle.plain_laws.proofs.Booleans.{and_both, at_most, below, both, same_number, true_is_not_false}
use Rattle.yard_model.specs.declared.fact.Fact.{Fact}
use Rattle.yard_model.specs.declared.fact.Fact.TheVariants as fact
use Rattle.yard_model.specs.declared.incarnation.Slot.{Slot}
use Rattle.yard_model.specs.declared.incarnation.Slot.TheVariants as slot
use Rattle.yard_model.specs.Era.{opening_of}
use Rattle.yard_model.specs.Follow.{each_follows}
use Rattle.yard_model.specs.Genuine.{is_slot_of}
use Rattle.yard_model.specs.Lawful.{lawful}
use Rattle.yard_model.specs.Script.{Script, setting}
use Rattle.yard_model.specs.SlotLists.{SlotLists}
use Rattle.yard_model.specs.Trace.{lists_of, lists_step, no_lists, slot_of, with_entry}
use Rattle.yard_model.specs.World.{number_step, settled_from}
use Rattle.log_resume.specs.Restored.{has_slot, is_taken}
use Rattle.log_orders.specs.Orders.{belongs, listed}
use Rattle.apply_laws.specs.Applying.{SettledNumber}
use Rattle.apply_laws.proofs.AppliedLaws.{Laws, settle_behind}

-- Of facts.

abbrev number_of : Fact → ℕ
number_of (fact.Granted s n x) = if x.node == 1 then x.number else 0
number_of (fact.Registered x) = if x.node == 1 then x.number else 0
number_of f = 0

step_is : (m : ℕ) (f : Fact) → number_step m f ≡ max m (number_of f)
step_is m (fact.Granted s n x) = by (x.node == 1)
  where
    by : (b : Bool) → (if b then max m x.number else m) ≡ max m (if b then x.number else 0)
    by true = refl
    by false = omega arith
step_is m (fact.Registered x) = by (x.node == 1)
  where
    by : (b : Bool) → (if b then max m x.number else m) ≡ max m (if b then x.number else 0)
    by true = refl
    by false = omega arith
step_is m f = omega arith

abbrev most_in : List Fact → ℕ
most_in fs = fold number_step 0 fs

most_from : (m : ℕ) (fs : List Fact) → fold number_step m fs ≡ max m (most_in fs)
most_from m [] = omega arith
most_from m (f ∷ fs) =
    let here : fold number_step (number_step m f) fs ≡ max (number_step m f) (most_in fs) = most_from (number_step m f) fs in
    let first : number_step m f ≡ max m (number_of f) = step_is m f in
    let none : fold number_step (number_step 0 f) fs ≡ max (number_step 0 f) (most_in fs) = most_from (number_step 0 f) fs in
    let least : number_step 0 f ≡ max 0 (number_of f) = step_is 0 f in
    omega (arith, here, first, none, least)

most_both : (xs ys : List Fact) → most_in (xs ++ ys) ≡ max (most_in xs) (most_in ys)
most_both xs ys = fold-append number_step 0 xs ys ∙ most_from (most_in xs) ys

most_one : (fs : List Fact) (f : Fact) → most_in (fs ++ f ∷ []) ≡ max (most_in fs) (number_of f)
most_one fs f = fold-append number_step 0 fs (f ∷ []) ∙ step_is (most_in fs) f

-- Of lists.

abbrev joined : List (List Fact) → List Fact
joined ls = flat_map (λ l. l) ls

-- one entry more in the list at a place
most_set : (ls : List (List Fact)) (i : ℕ) (f : Fact) → i < length ls → most_in (joined (slice_set ls i (slice_index_or ls i [] ++ f ∷ []))) ≡ max (most_in (joined ls)) (number_of f)
most_set [] i f h = absurd (none i h)
  where
    none : (i : ℕ) → i < 0 → ⊥
    none i h = omega (arith, h)
most_set (l ∷ ls) zero f h =
    let new : most_in ((l ++ f ∷ []) ++ joined ls) ≡ max (most_in (l ++ f ∷ [])) (most_in (joined ls)) = most_both (l ++ f ∷ []) (joined ls) in
    let one : most_in (l ++ f ∷ []) ≡ max (most_in l) (number_of f) = most_one l f in
    let old : most_in (l ++ joined ls) ≡ max (most_in l) (most_in (joined ls)) = most_both l (joined ls) in
    omega (arith, new, one, old)
most_set (l ∷ ls) (suc i) f h =
    let after : List Fact = joined (slice_set ls i (slice_index_or ls i [] ++ f ∷ [])) in
    let new : most_in (l ++ after) ≡ max (most_in l) (most_in after) = most_both l after in
    let rest : most_in after ≡ max (most_in (joined ls)) (number_of f) = most_set ls i f (back i (length ls) h) in
    let old : most_in (l ++ joined ls) ≡ max (most_in l) (most_in (joined ls)) = most_both l (joined ls) in
    omega (arith, new, rest, old)
  where
    back : (i n : ℕ) → suc i < suc n → i < n
    back i n h = omega (arith, h)

most_of : (v : ℕ) (ls : SlotLists) → most_in (opening_of v ls) ≡ max (max (most_in (joined ls.shards)) (most_in ls.coordinator)) (most_in (joined ls.queues))
most_of v ls =
    let last : most_in (((joined ls.shards ++ ls.coordinator) ++ joined ls.queues) ++ fact.Upgrade v ∷ []) ≡ max (most_in ((joined ls.shards ++ ls.coordinator) ++ joined ls.queues)) 0 = most_one ((joined ls.shards ++ ls.coordinator) ++ joined ls.queues) (fact.Upgrade v) in
    let all : most_in ((joined ls.shards ++ ls.coordinator) ++ joined ls.queues) ≡ max (most_in (joined ls.shards ++ ls.coordinator)) (most_in (joined ls.queues)) = most_both (joined ls.shards ++ ls.coordinator) (joined ls.queues) in
    let two : most_in (joined ls.shards ++ ls.coordinator) ≡ max (most_in (joined ls.shards)) (most_in ls.coordinator) = most_both (joined ls.shards) ls.coordinator in
    omega (arith, last, all, two)

-- each slot has its list
record AreAll (c : Script) (ls : SlotLists) : Type 0 where
  shards : length ls.shards ≡ c.config.shards
  queues : length ls.queues ≡ c.config.producers

with_slot : (c : Script) (v : ℕ) (ls : SlotLists) (f : Fact) (s : Slot) → AreAll c ls → is_slot_of c s ≡ true → most_in (opening_of v (with_entry f ls (Some s))) ≡ max (most_in (opening_of v ls)) (number_of f)
with_slot c v ls f (slot.Shard s) all is =
    let long : length ls.shards ≡ c.config.shards = all.shards in
    let inside : s < c.config.shards = within s c.config.shards is in
    let old : most_in (opening_of v ls) ≡ max (max (most_in (joined ls.shards)) (most_in ls.coordinator)) (most_in (joined ls.queues)) = most_of v ls in
    let set : List (List Fact) = slice_set ls.shards s (slice_index_or ls.shards s [] ++ f ∷ []) in
    let new : most_in (opening_of v (with_entry f ls (Some (slot.Shard s)))) ≡ max (max (most_in (joined set)) (most_in ls.coordinator)) (most_in (joined ls.queues)) = most_of v (with_entry f ls (Some (slot.Shard s))) in
    let one : most_in (joined set) ≡ max (most_in (joined ls.shards)) (number_of f) = most_set ls.shards s f (omega (arith, long, inside)) in
    omega (arith, old, new, one)
  where
    within : (s n : ℕ) → nat_lt s n ≡ true → s < n
    within s n h = below s n h
with_slot c v ls f slot.Coordinator all is =
    let old : most_in (opening_of v ls) ≡ max (max (most_in (joined ls.shards)) (most_in ls.coordinator)) (most_in (joined ls.queues)) = most_of v ls in
    let new : most_in (opening_of v (with_entry f ls (Some slot.Coordinator))) ≡ max (max (most_in (joined ls.shards)) (most_in (ls.coordinator ++ f ∷ []))) (most_in (joined ls.queues)) = most_of v (with_entry f ls (Some slot.Coordinator)) in
    let one : most_in (ls.coordinator ++ f ∷ []) ≡ max (most_in ls.coordinator) (number_of f) = most_one ls.coordinator f in
    omega (arith, old, new, one)
with_slot c v ls f (slot.Queue p) all is =
    let long : length ls.queues ≡ c.config.producers = all.queues in
    let r : (nat_le 1 p ≡ true) × (nat_le p c.config.producers ≡ true) = and_both (nat_le 1 p) (nat_le p c.config.producers) is in
    let low : 1 ≤ p = at_most 1 p r.0 in
    let high : p ≤ c.config.producers = at_most p c.config.producers r.1 in
    let old : most_in (opening_of v ls) ≡ max (max (most_in (joined ls.shards)) (most_in ls.coordinator)) (most_in (joined ls.queues)) = most_of v ls in
    let set : List (List Fact) = slice_set ls.queues (p - 1) (slice_index_or ls.queues (p - 1) [] ++ f ∷ []) in
    let new : most_in (opening_of v (with_entry f ls (Some (slot.Queue p)))) ≡ max (max (most_in (joined ls.shards)) (most_in ls.coordinator)) (most_in (joined set)) = most_of v (with_entry f ls (Some (slot.Queue p))) in
    let one : most_in (joined set) ≡ max (most_in (joined ls.queues)) (number_of f) = most_set ls.queues (p - 1) f (omega (arith, long, low, high)) in
    omega (arith, old, new, one)

with_all : (c : Script) (ls : SlotLists) (f : Fact) (o : Option Slot) → AreAll c ls → AreAll c (with_entry f ls o)
with_all c ls f None all = all
with_all c ls f (Some (slot.Shard s)) all = record { shards = length-set ls.shards s (slice_index_or ls.shards s [] ++ f ∷ []) ∙ all.shards; queues = all.queues }
with_all c ls f (Some slot.Coordinator) all = record { shards = all.shards; queues = all.queues }
with_all c ls f (Some (slot.Queue p)) all = record { shards = all.shards; queues = length-set ls.queues (p - 1) (slice_index_or ls.queues (p - 1) [] ++ f ∷ []) ∙ all.queues }

abbrev has_its : Script → Fact → Bool
has_its c f = has_slot c (slot_of (setting c) f)

one_entry : (c : Script) (v : ℕ) (ls : SlotLists) (f : Fact) → AreAll c ls → has_its c f ≡ true → most_in (opening_of v (lists_step (setting c) ls f)) ≡ number_step (most_in (opening_of v ls)) f
one_entry c v ls f all h = by (slot_of (setting c) f) h ∙ sym (step_is (most_in (opening_of v ls)) f)
  where
    by : (o : Option Slot) → has_slot c o ≡ true → most_in (opening_of v (with_entry f ls o)) ≡ max (most_in (opening_of v ls)) (number_of f)
    by None h = absurd (true_is_not_false (sym h))
    by (Some s) h = with_slot c v ls f s all h

entries_more : (c : Script) (v : ℕ) (ls : SlotLists) (fs : List Fact) → AreAll c ls → list_all (has_its c) fs ≡ true → most_in (opening_of v (fold (lists_step (setting c)) ls fs)) ≡ fold number_step (most_in (opening_of v ls)) fs
entries_more c v ls [] all h = refl
entries_more c v ls (f ∷ fs) all h =
    let r : (has_its c f ≡ true) × (list_all (has_its c) fs ≡ true) = and_both (has_its c f) (list_all (has_its c) fs) h in
    entries_more c v (lists_step (setting c) ls f) fs (with_all c ls f (slot_of (setting c) f) all) r.1 ∙ ap (λ m. fold number_step m fs) (one_entry c v ls f all r.0)

-- Of a settling.

taken_slots : (c : Script) (before fs : List Fact) → each_follows (is_taken c) before fs ≡ true → list_all (has_its c) fs ≡ true
taken_slots c before [] h = refl
taken_slots c before (f ∷ fs) h =
    let r : (is_taken c before f ≡ true) × (each_follows (is_taken c) (before ++ f ∷ []) fs ≡ true) = and_both (is_taken c before f) (each_follows (is_taken c) (before ++ f ∷ []) fs) h in
    both (has_its c f) (list_all (has_its c) fs) (and_both (has_its c f) _ r.0).0 (taken_slots c (before ++ f ∷ []) fs r.1)

-- what belongs to no list has no number
unlisted : (m : ℕ) (f : Fact) → belongs f ≡ false → number_step m f ≡ m
unlisted m (fact.Granted s n x) h = absurd (true_is_not_false h)
unlisted m (fact.Registered x) h = absurd (true_is_not_false h)
unlisted m f h = refl

most_listed : (m : ℕ) (fs : List Fact) → fold number_step m (listed fs) ≡ fold number_step m fs
most_listed m [] = refl
most_listed m (f ∷ fs) = by (λ k. most_listed k fs) (belongs f) refl
  where
    by : ((k : ℕ) → fold number_step k (listed fs) ≡ fold number_step k fs) → (b : Bool) → belongs f ≡ b → fold number_step m (cond b (f ∷ listed fs) (listed fs)) ≡ fold number_step (number_step m f) fs
    by rest true e = rest (number_step m f)
    by rest false e = rest m ∙ ap (λ k. fold number_step k fs) (sym (unlisted m f e))

lengths_there : (a b d e f g : Bool) → (a && b && d && e && f && g) ≡ true → (a ≡ true) × (b ≡ true)
lengths_there a b d e f g h = and_both a b (and_both (a && b) d (and_both (a && b && d) e (and_both (a && b && d && e) f (and_both (a && b && d && e && f) g h).0).0).0).0

pub settled_number : Laws → SettledNumber
settled_number laws c v lists script law free =
    ap (λ l. most_in (opening_of v l)) (sym r.1 ∙ (fold-append (lists_step (setting c)) (no_lists (setting c)) o gs ∙ ap (λ l. fold (lists_step (setting c)) l gs) opening))
    ∙ (entries_more c v lists gs all (taken_slots c o gs r.0) ∙ most_listed (most_in (opening_of v lists)) (settled_from c 1 lists).facts)
  where
    o : List Fact
    o = opening_of 1 lists

    gs : List Fact
    gs = listed (settled_from c 1 lists).facts

    opening : lists_of (setting c) o ≡ lists
    opening = laws.opening c 1 lists law

    r : (each_follows (is_taken c) o gs ≡ true) × (lists_of (setting c) (o ++ gs) ≡ (settled_from c 1 lists).world.lists)
    r = settle_behind laws c lists o script law free opening

    there : ((length lists.shards == c.config.shards) ≡ true) × ((length lists.queues == c.config.producers) ≡ true)
    there = lengths_there (length lists.shards == c.config.shards) (length lists.queues == c.config.producers) _ _ _ _ law

    all : AreAll c lists
    all = record { shards = same_number (length lists.shards) c.config.shards there.0; queues = same_number (length lists.queues) c.config.producers there.1 }
