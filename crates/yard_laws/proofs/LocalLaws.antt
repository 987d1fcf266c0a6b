-- A fact changes the list of its slot, and who is live by its actor, alone.
use Rattle.std.proofs.Common.{◌≡◌, ◌≢◌, ◌<◌, ◌≤◌, ℕ, ◌-◌, sym, ap, ◌∙◌, refl, subst, arith}
use Rattle.std.specs.Prelude.{Bool, true, false, ◌==◌, ◌&&◌, ◌||◌, not, cond, List, [], ◌∷◌, ◌++◌, length, filter, fold, Option, Some, None, if◌then◌else◌}
use Rattle.std.specs.List.{list_all, list_any}
use Rattle.std.specs.Option.{option_map_or}
use Rattle.std.proofs.lemmas.List.{get_or-set_same, get_or-set_other, length-set, length-replicate}
use Rattle.std.proofs.lemmas.List.Folds.{list_any-append}
use Rattle.yard_model.specs.Era.{version_in}
use Rattle.yard_model.specs.Lawful.{is_decided}
use Rattle.yard_model.specs.declared.fact.Fact.{Fact}
use Rattle.yard_model.specs.declared.fact.Fact.TheVariants as fact
use Rattle.yard_model.specs.declared.incarnation.Incarnation.{Incarnation}
use Rattle.yard_model.specs.declared.incarnation.Slot.{Slot}
use Rattle.yard_model.specs.declared.incarnation.Slot.TheVariants as slot
use Rattle.yard_model.specs.Script.{Script, setting, is_name}
use Rattle.yard_model.specs.Setting.{shard_of, names_of}
use Rattle.yard_model.specs.Words.{is_same, is_at, is_among, is_empty, without}
use Rattle.yard_model.specs.Genuine.{is_slot_of, is_brought}
use Rattle.yard_model.specs.SlotLists.{SlotLists, shard_list, queue_list}
use Rattle.yard_model.specs.SlotReads.{holder, journal}
use Rattle.yard_model.specs.Trace.{slot_of, list_at, with_entry, lists_step, lists_of, no_lists}
use Rattle.yard_model.specs.Safe.{live_at, live_step, at_most_holder, one_live, shard_list_of}
use Rattle.yard_model.specs.Guards.{own_guard, cross_guard}
use Rattle.plain_laws.proofs.Booleans.{true_is_not_false, and_both, both, of_not, same_number, same_name, below}
use Rattle.plain_laws.proofs.Members.{among_fewer}
use Rattle.yard_laws.specs.Local.{ListGrows, OtherListsStay, starter, OthersLiveOn, GuardedByItsActor}
use Rattle.yard_laws.proofs.Owns.{lists_more, producer_above, producer_within}
use Rattle.yard_laws.proofs.Live.{both_held}
use Rattle.yard_laws.proofs.SafetyLaws.{live_more}

-- There is a list for each slot, whatever the facts.

record AreThere (c : Script) (lists : SlotLists) : Type 0 where
  shards : length lists.shards ≡ c.config.shards
  queues : length lists.queues ≡ c.config.producers

there_more : (c : Script) (lists : SlotLists) (f : Fact) (o : Option Slot) → AreThere c lists → AreThere c (with_entry f lists o)
there_more c lists f None k = k
there_more c lists f (Some (slot.Shard s)) k = record { shards = length-set lists.shards s (shard_list lists s ++ f ∷ []) ∙ k.shards; queues = k.queues }
there_more c lists f (Some slot.Coordinator) k = record { shards = k.shards; queues = k.queues }
there_more c lists f (Some (slot.Queue p)) k = record { shards = k.shards; queues = length-set lists.queues (p - 1) (queue_list lists p ++ f ∷ []) ∙ k.queues }

there_after : (c : Script) (lists : SlotLists) (fs : List Fact) → AreThere c lists → AreThere c (fold (lists_step (setting c)) lists fs)
there_after c lists [] k = k
there_after c lists (f ∷ fs) k = there_after c (lists_step (setting c) lists f) fs (there_more c lists f (slot_of (setting c) f) k)

are_there : (c : Script) (trace : List Fact) → AreThere c (lists_of (setting c) trace)
are_there c trace = there_after c (no_lists (setting c)) trace (record { shards = length-replicate c.config.shards []; queues = length-replicate c.config.producers [] })

-- One entry more.

grows : (c : Script) (lists : SlotLists) (f : Fact) (s : Slot) → AreThere c lists → is_slot_of c s ≡ true → list_at (with_entry f lists (Some s)) s ≡ list_at lists s ++ f ∷ []
grows c lists f (slot.Shard s) k h = get_or-set_same lists.shards s (shard_list lists s ++ f ∷ []) [] (subst (λ n. s < n) (sym k.shards) (below s c.config.shards h))
grows c lists f slot.Coordinator k h = refl
grows c lists f (slot.Queue p) k h =
    let above : 0 < p = producer_above c p h in
    let within : p ≤ c.config.producers = producer_within c p h in
    let inside : p - 1 < length lists.queues = omega (arith, k.queues) in
    get_or-set_same lists.queues (p - 1) (queue_list lists p ++ f ∷ []) [] inside

stays : (c : Script) (lists : SlotLists) (f : Fact) (o : Option Slot) (s : Slot) → o ≢ Some s → is_slot_of c s ≡ true → option_map_or (is_slot_of c) o true ≡ true → list_at (with_entry f lists o) s ≡ list_at lists s
stays c lists f None s other h g = refl
stays c lists f (Some (slot.Shard t)) (slot.Shard s) other h g = get_or-set_other lists.shards t s (shard_list lists t ++ f ∷ []) [] (λ same. other (ap (λ n. Some (slot.Shard n)) (sym same)))
stays c lists f (Some (slot.Shard t)) slot.Coordinator other h g = refl
stays c lists f (Some (slot.Shard t)) (slot.Queue p) other h g = refl
stays c lists f (Some slot.Coordinator) (slot.Shard s) other h g = refl
stays c lists f (Some slot.Coordinator) slot.Coordinator other h g = absurd (other refl)
stays c lists f (Some slot.Coordinator) (slot.Queue p) other h g = refl
stays c lists f (Some (slot.Queue q)) (slot.Shard s) other h g = refl
stays c lists f (Some (slot.Queue q)) slot.Coordinator other h g = refl
stays c lists f (Some (slot.Queue q)) (slot.Queue p) other h g =
    let above : 0 < p = producer_above c p h in
    let aboveq : 0 < q = producer_above c q g in
    get_or-set_other lists.queues (q - 1) (p - 1) (queue_list lists q ++ f ∷ []) [] (λ same. other (ap (λ n. Some (slot.Queue n)) (one_less q p aboveq above same)))
  where
    one_less : (q p : ℕ) → 0 < q → 0 < p → p - 1 ≡ q - 1 → q ≡ p
    one_less q p a b e = omega arith

pub list_grows : ListGrows
list_grows c trace f s e h =
    ap (λ l. list_at l s) (lists_more c trace f)
    ∙ (ap (λ o. list_at (with_entry f (lists_of (setting c) trace) o) s) e ∙ grows c (lists_of (setting c) trace) f s (are_there c trace) h)

pub other_lists_stay : OtherListsStay
other_lists_stay c trace f s other h g = ap (λ l. list_at l s) (lists_more c trace f) ∙ stays c (lists_of (setting c) trace) f (slot_of (setting c) f) s other h g

-- Who is live.

among_more : (x y : Incarnation) (live : List Incarnation) → is_same x y ≡ false → is_among x (live ++ y ∷ []) ≡ is_among x live
among_more x y live other = list_any-append (is_same x) live (y ∷ []) ∙ (ap (λ b. is_among x live || (b || false)) other ∙ or_none (is_among x live))
  where
    or_none : (b : Bool) → (b || false) ≡ b
    or_none true = refl
    or_none false = refl

among_if : (b : Bool) (x : Incarnation) (new old : List Incarnation) → is_among x new ≡ is_among x old → is_among x (if b then new else old) ≡ is_among x old
among_if true x new old e = e
among_if false x new old e = refl

live_on : (e : List ℕ) (f : Fact) (x : Incarnation) (live : List Incarnation) → is_at x (starter f) ≡ false → is_among x (live_step e live f) ≡ is_among x live
live_on e (fact.Start y n) x live other = among_if (is_name n e) x (without y live ++ y ∷ []) live (among_more x y (without y live) other ∙ among_fewer x y live other)
live_on e (fact.Stop y n) x live other = among_if (is_name n e) x (without y live) live (among_fewer x y live other)
live_on e (fact.WriteFailed y n) x live other = among_if (is_name n e) x (without y live) live (among_fewer x y live other)
live_on e (fact.Gone y) x live other = among_fewer x y live other
live_on e f x live other = refl

pub others_live_on : OthersLiveOn
others_live_on e trace f x other = ap (is_among x) (live_more e trace f) ∙ live_on e f x (live_at e trace) other

-- Guards by an actor.

not_empty : (x : Incarnation) (live : List Incarnation) → is_among x live ≡ true → not (is_empty live) ≡ true
not_empty x [] e = e
not_empty x (y ∷ ys) e = refl

-- where the holder isn't live, none is
none_else : (x : Incarnation) (h : Option Incarnation) (live : List Incarnation) → is_at x h ≡ true → at_most_holder h live ≡ true → not (is_among x live) ≡ true → is_empty live ≡ true
none_else x h [] at all none = refl
none_else x h (y ∷ []) at all none = absurd (true_is_not_false (sym (ap (λ b. b || false) (both_held x y h at all)) ∙ of_not (is_among x (y ∷ [])) none))
none_else x h (y ∷ z ∷ ys) at all none = absurd (true_is_not_false (sym all))

-- what holds of each name holds of one that is among them
of_brought : (p : List ℕ → Bool) (e : List ℕ) (names : List (List ℕ)) → list_all p names ≡ true → list_any (is_name e) names ≡ true → p e ≡ true
of_brought p e [] all any = absurd (true_is_not_false (sym any))
of_brought p e (n ∷ ns) all any = at (is_name e n) refl (λ m. of_brought p e ns (and_both (p n) (list_all p ns) all).1 m)
  where
    at : (b : Bool) → is_name e n ≡ b → (list_any (is_name e) ns ≡ true → p e ≡ true) → p e ≡ true
    at true it rest = ap p (same_name e n it) ∙ (and_both (p n) (list_all p ns) all).0
    at false it rest = rest (sym (ap (λ b. b || list_any (is_name e) ns) it) ∙ any)

-- of those that are picked, what follows of two tests
all_picked : {X : Type 0} (p r q pick : X → Bool) → ((x : X) → pick x ≡ true → p x ≡ true → r x ≡ true → q x ≡ true) → (xs : List X) → list_all p xs ≡ true → list_all r (filter pick xs) ≡ true → list_all q (filter pick xs) ≡ true
all_picked p r q pick h [] e f = refl
all_picked {X} p r q pick h (x ∷ xs) e f = step (pick x) refl f (λ g. all_picked p r q pick h xs (and_both (p x) (list_all p xs) e).1 g)
  where
    step : (b : Bool) → pick x ≡ b → list_all r (cond b (x ∷ filter pick xs) (filter pick xs)) ≡ true → (list_all r (filter pick xs) ≡ true → list_all q (filter pick xs) ≡ true) → list_all q (cond b (x ∷ filter pick xs) (filter pick xs)) ≡ true
    step true t g rest =
        let m : (r x ≡ true) × (list_all r (filter pick xs) ≡ true) = and_both (r x) (list_all r (filter pick xs)) g in
        both (q x) (list_all q (filter pick xs)) (h x t (and_both (p x) (list_all p xs) e).0 m.0) (rest m.1)
    step false t g rest = rest g

pub guarded_by_its_actor : GuardedByItsActor
guarded_by_its_actor x c trace (fact.Start y e) j o g =
    let h : Option Incarnation = holder (shard_list (lists_of (setting c) trace) (shard_of (setting c) e)) in
    let m : ((is_brought c e && is_at y h) ≡ true) × (not (is_among y (live_at e trace)) ≡ true) = and_both (is_brought c e && is_at y h) (not (is_among y (live_at e trace))) g in
    let n : (is_brought c e ≡ true) × (is_at y h ≡ true) = and_both (is_brought c e) (is_at y h) m.0 in
    both (is_brought c e && is_at y h) (is_empty (live_at e trace)) m.0 (none_else y h (live_at e trace) n.1 (of_brought (one_live c trace) e (setting c).names j n.0) m.1)
guarded_by_its_actor x c trace (fact.Wrote e r) j o g =
    let f : Fact = fact.Wrote e r in
    let decided : Bool = is_decided (version_in trace) c (journal e (shard_list_of c e trace)) r in
    let m : (is_among x (live_at e trace) ≡ true) × (decided ≡ true) = and_both (is_among x (live_at e trace)) decided g in
    both (own_guard c trace f (slot_of (setting c) f)) (cross_guard c trace f) o (both (not (is_empty (live_at e trace))) decided (not_empty x (live_at e trace) m.0) m.1)
guarded_by_its_actor x c trace (fact.Freed (slot.Shard s) n why) j o g =
    let f : Fact = fact.Freed (slot.Shard s) n why in
    let h : Option Incarnation = holder (shard_list (lists_of (setting c) trace) s) in
    let m : (is_at x h ≡ true) × (list_all (λ e. not (is_among x (live_at e trace))) (names_of (setting c) s) ≡ true) = and_both (is_at x h) (list_all (λ e. not (is_among x (live_at e trace))) (names_of (setting c) s)) g in
    let free : cross_guard c trace f ≡ true =
    all_picked (one_live c trace) (λ e. not (is_among x (live_at e trace))) (λ e. is_empty (live_at e trace)) (λ e. shard_of (setting c) e == s)
    (λ e t all none. none_else x h (live_at e trace) m.0 (subst (λ k. at_most_holder (holder (shard_list (lists_of (setting c) trace) k)) (live_at e trace) ≡ true) (same_number (shard_of (setting c) e) s t) all) none)
    (setting c).names j m.1 in
    both (own_guard c trace f (slot_of (setting c) f)) (cross_guard c trace f) o free
guarded_by_its_actor x c trace (fact.Freed s n why) j o g = both (own_guard c trace (fact.Freed s n why) (Some s)) true o refl
guarded_by_its_actor x c trace (fact.Active y e n st) j o g = g
guarded_by_its_actor x c trace (fact.Confirmed p e n) j o g =
    let f : Fact = fact.Confirmed p e n in
    both (own_guard c trace f (slot_of (setting c) f)) (cross_guard c trace f) o g
guarded_by_its_actor x c trace (fact.Upgrade v) j o g = absurd (true_is_not_false (sym g))
guarded_by_its_actor x c trace f j o g = both (own_guard c trace f (slot_of (setting c) f)) true o refl
