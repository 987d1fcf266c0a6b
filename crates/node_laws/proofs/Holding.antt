-- What acts keep of it that a node has the store of each slot that it holds.
use Rattle.std.proofs.Common.{◌≡◌, ◌<◌, ℕ, zero, suc, ◌+◌, ◌-◌, List, [], ◌∷◌, ◌++◌, length, map, sym, ap, subst, ◌∙◌, refl, true, false, true≢false}
use Rattle.std.specs.Prelude.{Bool, ◌==◌, ◌&&◌, not, fold, slice_set, slice_index_or, Option, Some, None, is_some, if◌then◌else◌}
use Rattle.std.specs.Option.{option_map}
use Rattle.std.specs.List.{list_all}
use Rattle.std.proofs.lemmas.List.{length-set, get_or-set_other}
use Rattle.std.proofs.lemmas.List.Sums.{fold-append}
use Rattle.yard_model.specs.declared.fact.Fact.{Fact}
use Rattle.yard_model.specs.declared.fact.Fact.TheVariants as fact
use Rattle.yard_model.specs.declared.out.Item.TheVariants as item
use Rattle.yard_model.specs.declared.incarnation.Incarnation.{Incarnation}
use Rattle.yard_model.specs.declared.incarnation.Slot.{Slot}
use Rattle.yard_model.specs.declared.incarnation.Slot.TheVariants as slot
use Rattle.yard_model.specs.Coordinator.{Coordinator}
use Rattle.yard_model.specs.Entities.{Hosted, hosted_step}
use Rattle.yard_model.specs.Genuine.{is_slot_of}
use Rattle.yard_model.specs.Move.{Move, made, took, handed_off, told, item_of}
use Rattle.yard_model.specs.Node.{Node, Act, Rule, by_region, by_entities, by_producer, by_coordinator, producer_by, coordinator_by, after, items_of, of_producer, of_coordinator, all_in_turn, acquire, acquire_by}
use Rattle.yard_model.specs.Producer.{Producer, producer_after, new_producer}
use Rattle.yard_model.specs.Script.{Script, Setting, setting}
use Rattle.yard_model.specs.Setting.{shard_of}
use Rattle.yard_model.specs.SlotLists.{SlotLists, shard_list, queue_list}
use Rattle.yard_model.specs.SlotReads.{holder, holder_step, epoch}
use Rattle.yard_model.specs.Trace.{slot_of, list_at, with_entry, lists_step}
use Rattle.yard_model.specs.Turns.{in_turn, for_each, where_some}
use Rattle.yard_model.specs.Words.{at, is_at}
use Rattle.plain_laws.proofs.Booleans.{and_both, of_not, below, same_number}
use Rattle.plain_laws.proofs.Lists.{by_place, of_write, placed_at, placed_beside}
use Rattle.actor_laws.specs.Held.{is_grant}
use Rattle.actor_laws.specs.Hands.{held_list}
use Rattle.actor_laws.specs.Owes.{Hand, facts_in, hand_after}
use Rattle.node_laws.specs.NodeHolds.{HoldsAll}
use Rattle.node_laws.proofs.NodeParts.{facts_both}
use Rattle.node_laws.proofs.NodeProducers.{above_zero}

-- A fact that isn't a grant gives nobody a slot.

gives_none : (w : Incarnation) (list : List Fact) (f : Fact) → is_grant f ≡ false → is_at w (holder (list ++ f ∷ [])) ≡ true → is_at w (holder list) ≡ true
gives_none w list f g e = by f g (sym (ap (is_at w) (fold-append holder_step None list (f ∷ []))) ∙ e)
  where
    by : (f : Fact) → is_grant f ≡ false → is_at w (holder_step (holder list) f) ≡ true → is_at w (holder list) ≡ true
    by (fact.Granted s n x) g e = absurd (true≢false g)
    by (fact.Freed s n why) g e = absurd (true≢false (sym e))
    by f g e = e

-- what holds of a slot's list with the entry and without it holds of the list after it
pub entered_at : (P : List Fact → Type 0) (lists : SlotLists) (f : Fact) (o : Option Slot) (s : Slot) → P (list_at lists s) → P (list_at lists s ++ f ∷ []) → P (list_at (with_entry f lists o) s)
entered_at P lists f None s old new = old
entered_at P lists f (Some (slot.Shard t)) (slot.Shard s) old new = of_write P lists.shards t s (shard_list lists t ++ f ∷ []) [] (λ e. subst (λ n. P (shard_list lists n ++ f ∷ [])) e new) old
entered_at P lists f (Some slot.Coordinator) slot.Coordinator old new = new
entered_at P lists f (Some (slot.Queue q)) (slot.Queue p) old new =
    of_write P lists.queues (q - 1) (p - 1) (queue_list lists q ++ f ∷ []) [] (λ e. subst (λ n. P (slice_index_or lists.queues n [] ++ f ∷ [])) e new) old
entered_at P lists f (Some t) s old new = old

pub fact_gives_none : (set : Setting) (lists : SlotLists) (f : Fact) (s : Slot) (w : Incarnation) → is_grant f ≡ false → is_at w (holder (list_at (lists_step set lists f) s)) ≡ true → is_at w (holder (list_at lists s)) ≡ true
fact_gives_none set lists f s w g = entered_at (λ l. is_at w (holder l) ≡ true → is_at w (holder (list_at lists s)) ≡ true) lists f (slot_of set f) s (λ e. e) (λ e. gives_none w (list_at lists s) f g e)

-- a slot that is freed nobody holds
pub freed_none : (w : Incarnation) (lists : List (List Fact)) (i : ℕ) (list : List Fact) (f : Fact) → ((o : Option Incarnation) → holder_step o f ≡ None) → is_at w (holder (slice_index_or (slice_set lists i (list ++ f ∷ [])) i [])) ≡ false
freed_none w [] i list f frees = refl
freed_none w (l ∷ ls) zero list f frees = ap (is_at w) (fold-append holder_step None list (f ∷ []) ∙ frees (holder list))
freed_none w (l ∷ ls) (suc i) list f frees = freed_none w ls i list f frees

-- Moves.

-- it grants no slot
abbrev pub grants_none : Move → Bool
grants_none (made (item.Fact f)) = not (is_grant f)
grants_none m = true

move_gives_none : (c : Script) (lists : SlotLists) (m : Move) (s : Slot) (w : Incarnation) → grants_none m ≡ true
    → is_at w (holder (list_at (fold (lists_step (setting c)) lists (facts_in (item_of m ++ []))) s)) ≡ true → is_at w (holder (list_at lists s)) ≡ true
move_gives_none c lists (made (item.Fact f)) s w g e = fact_gives_none (setting c) lists f s w (of_not (is_grant f) g) e
move_gives_none c lists m s w g e = e

-- The lists after acts, and what acts keep.

abbrev pub listed : Script → SlotLists → List Act → SlotLists
listed c lists acts = fold (lists_step (setting c)) lists (facts_in (items_of acts))

-- so are those in hand
pub lists_in_hand : (c : Script) (h : Hand) (fs : List Fact) → (fold (hand_after c) h fs).lists ≡ fold (lists_step (setting c)) h.lists fs
lists_in_hand c h [] = refl
lists_in_hand c h (f ∷ fs) = lists_in_hand c (hand_after c h f) fs

pub record Holding (c : Script) (lists : SlotLists) (st : Node) : Type 0 where
  pub shards_there : length st.entities.hosted ≡ c.config.shards
  pub queues_there : length st.producers ≡ c.config.producers
  pub all : HoldsAll c lists st

abbrev pub Holds : Script → Node → List Act → Type 0
Holds c st acts = (lists : SlotLists) → Holding c lists st → Holding c (listed c lists acts) (fold after st acts)

pub none_holds : (c : Script) (st : Node) → Holds c st []
none_holds c st lists h = h

pub both_hold : (c : Script) (st : Node) (xs ys : List Act) → Holds c st xs → Holds c (fold after st xs) ys → Holds c st (xs ++ ys)
both_hold c st xs ys f g lists h =
    subst (λ l. Holding c l (fold after st (xs ++ ys))) (sym (ap (fold (lists_step (setting c)) lists) (facts_both xs ys) ∙ fold-append (lists_step (setting c)) lists (facts_in (items_of xs)) (facts_in (items_of ys))))
    (subst (Holding c (listed c (listed c lists xs) ys)) (sym (fold-append after st xs ys)) (g (listed c lists xs) (f lists h)))

-- A move of the region.

one_region : (c : Script) (st : Node) (m : Move) → grants_none m ≡ true → Holds c st (by_region m ∷ [])
one_region c st m g lists h = record { shards_there = h.shards_there; queues_there = h.queues_there; all = λ s i e. same s (h.all s i (move_gives_none c lists m s st.who g e)) }
  where
    same : (s : Slot) → is_some (held_list s st) ≡ true → is_some (held_list s (after st (by_region m))) ≡ true
    same (slot.Shard n) e = e
    same slot.Coordinator e = e
    same (slot.Queue p) e = e

-- A move of the entities.

abbrev HasStore : Option Hosted → Type 0
HasStore o = is_some (option_map (λ (h : Hosted). h.entries) o) ≡ true

mapped_store : (g : Hosted → Hosted) (o : Option Hosted) → HasStore o → HasStore (option_map g o)
mapped_store g None e = absurd (true≢false (sym e))
mapped_store g (Some x) e = refl

rewritten_store : (old : List (Option Hosted)) (t i : ℕ) (g : Hosted → Hosted) → HasStore (at old i) → HasStore (at (slice_set old t (option_map g (at old t))) i)
rewritten_store old t i g e = of_write HasStore old t i (option_map g (at old t)) None (λ k. mapped_store g (at old t) (subst (λ n. HasStore (at old n)) k e)) e

placed_store : (old : List (Option Hosted)) (t i : ℕ) (x : Hosted) → HasStore (at old i) → HasStore (at (slice_set old t (Some x)) i)
placed_store old t i x e = of_write HasStore old t i (Some x) None (λ k. refl) e

abbrev with_fact : Fact → Hosted → Hosted
with_fact f h = record { entries = h.entries ++ f ∷ []; stopping = h.stopping }

abbrev frees_shard : Move → Bool
frees_shard (made (item.Fact (fact.Freed (slot.Shard s) n why))) = true
frees_shard m = false

hosted_stay : (set : Setting) (old : List (Option Hosted)) (m : Move) (i : ℕ) → frees_shard m ≡ false → HasStore (at old i) → HasStore (at (hosted_step set old m) i)
hosted_stay set old (took (slot.Shard t) list) i f e = placed_store old t i (record { entries = list; stopping = None }) e
hosted_stay set old (made (item.Fact (fact.Freed (slot.Shard t) n why))) i f e = absurd (true≢false f)
hosted_stay set old (made (item.Fact (fact.Wrote x r))) i f e = rewritten_store old (shard_of set x) i (with_fact (fact.Wrote x r)) e
hosted_stay set old (made (item.Fact (fact.Snapshot x n))) i f e = rewritten_store old (shard_of set x) i (with_fact (fact.Snapshot x n)) e
hosted_stay set old (made (item.Fact (fact.Remembered x))) i f e = rewritten_store old (shard_of set x) i (with_fact (fact.Remembered x)) e
hosted_stay set old (made (item.Fact (fact.Forgotten x))) i f e = rewritten_store old (shard_of set x) i (with_fact (fact.Forgotten x)) e
hosted_stay set old (handed_off t stamp to) i f e = rewritten_store old t i (λ h. record { entries = h.entries; stopping = Some (record { stamp = stamp; to = to }) }) e
hosted_stay set old m i f e = e

hosted_full : (set : Setting) (old : List (Option Hosted)) (m : Move) → length (hosted_step set old m) ≡ length old
hosted_full set old (took (slot.Shard t) list) = length-set old t (Some (record { entries = list; stopping = None }))
hosted_full set old (made (item.Fact (fact.Freed (slot.Shard t) n why))) = length-set old t None
hosted_full set old (made (item.Fact (fact.Wrote x r))) = length-set old (shard_of set x) (option_map (with_fact (fact.Wrote x r)) (at old (shard_of set x)))
hosted_full set old (made (item.Fact (fact.Snapshot x n))) = length-set old (shard_of set x) (option_map (with_fact (fact.Snapshot x n)) (at old (shard_of set x)))
hosted_full set old (made (item.Fact (fact.Remembered x))) = length-set old (shard_of set x) (option_map (with_fact (fact.Remembered x)) (at old (shard_of set x)))
hosted_full set old (made (item.Fact (fact.Forgotten x))) = length-set old (shard_of set x) (option_map (with_fact (fact.Forgotten x)) (at old (shard_of set x)))
hosted_full set old (handed_off t stamp to) = length-set old t (option_map (λ (h : Hosted). record { entries = h.entries; stopping = Some (record { stamp = stamp; to = to }) }) (at old t))
hosted_full set old m = refl

shard_stays : (c : Script) (st : Node) (m : Move) → grants_none m ≡ true → (lists : SlotLists) → HoldsAll c lists st → (k : ℕ) → is_slot_of c (slot.Shard k) ≡ true
    → is_at st.who (holder (shard_list (listed c lists (by_entities m ∷ [])) k)) ≡ true → HasStore (at (hosted_step st.entities.set st.entities.hosted m) k)
shard_stays c st (made (item.Fact (fact.Freed (slot.Shard t) n why))) g lists h k i e =
    let f : Fact = fact.Freed (slot.Shard t) n why in
    by_place (HasStore (at (slice_set st.entities.hosted t None) k)) k t
    (λ same. absurd (true≢false (sym (subst (λ j. is_at st.who (holder (slice_index_or (slice_set lists.shards t (shard_list lists t ++ f ∷ [])) j [])) ≡ true) same e) ∙ freed_none st.who lists.shards t (shard_list lists t) f (λ o. refl))))
    (λ other. subst HasStore (sym (placed_beside st.entities.hosted t k None other)) (h (slot.Shard k) i (ap (λ l. is_at st.who (holder l)) (sym (get_or-set_other lists.shards t k (shard_list lists t ++ f ∷ []) [] other)) ∙ e)))
shard_stays c st m g lists h k i e = hosted_stay st.entities.set st.entities.hosted m k refl (h (slot.Shard k) i (move_gives_none c lists m (slot.Shard k) st.who g e))

one_entities : (c : Script) (st : Node) (m : Move) → grants_none m ≡ true → Holds c st (by_entities m ∷ [])
one_entities c st m g lists h = record { shards_there = hosted_full st.entities.set st.entities.hosted m ∙ h.shards_there; queues_there = h.queues_there; all = λ s i e. by s i e }
  where
    by : (s : Slot) → is_slot_of c s ≡ true → is_at st.who (holder (list_at (listed c lists (by_entities m ∷ [])) s)) ≡ true → is_some (held_list s (after st (by_entities m))) ≡ true
    by (slot.Shard k) i e = shard_stays c st m g lists h.all k i e
    by slot.Coordinator i e = h.all slot.Coordinator i (move_gives_none c lists m slot.Coordinator st.who g e)
    by (slot.Queue p) i e = h.all (slot.Queue p) i (move_gives_none c lists m (slot.Queue p) st.who g e)

-- A move of the coordinator.

abbrev HasOffice : Option Coordinator → Type 0
HasOffice o = is_some (option_map (λ (k : Coordinator). k.entries) o) ≡ true

office_stays : (set : Setting) (who : Incarnation) (o : Option Coordinator) (m : Move) → HasOffice o → HasOffice (coordinator_by set who o m)
office_stays set who o (took s list) e = refl
office_stays set who None m e = absurd (true≢false (sym e))
office_stays set who (Some k) m e = refl

one_coordinator : (c : Script) (st : Node) (m : Move) → grants_none m ≡ true → Holds c st (by_coordinator m ∷ [])
one_coordinator c st m g lists h = record { shards_there = h.shards_there; queues_there = h.queues_there; all = λ s i e. by s (h.all s i (move_gives_none c lists m s st.who g e)) }
  where
    by : (s : Slot) → is_some (held_list s st) ≡ true → is_some (held_list s (after st (by_coordinator m))) ≡ true
    by (slot.Shard n) e = e
    by slot.Coordinator e = office_stays st.set st.who st.coordinator m e
    by (slot.Queue p) e = e

-- A move of a producer.

abbrev HasQueue : Option Producer → Type 0
HasQueue o = is_some (option_map (λ (k : Producer). k.entries) o) ≡ true

-- it frees no slot but the producer's queue
abbrev pub frees_own : ℕ → Move → Bool
frees_own p (made (item.Fact (fact.Freed (slot.Queue q) n why))) = q - 1 == p - 1
frees_own p (made (item.Fact (fact.Freed s n why))) = false
frees_own p m = true

abbrev frees_any : Move → Bool
frees_any (made (item.Fact (fact.Freed s n why))) = true
frees_any m = false

producer_stays : (set : Setting) (who : Incarnation) (p : ℕ) (o : Option Producer) (m : Move) → frees_any m ≡ false → HasQueue o → HasQueue (producer_by set who p o m)
producer_stays set who p o (took s list) f e = refl
producer_stays set who p o (made (item.Fact (fact.Freed s n why))) f e = absurd (true≢false f)
producer_stays set who p None m f e = absurd (true≢false (sym e))
producer_stays set who p (Some k) m f e = refl

producers_stay : (set : Setting) (who : Incarnation) (old : List (Option Producer)) (p : ℕ) (m : Move) (i : ℕ) → frees_any m ≡ false → HasQueue (at old i) → HasQueue (at (slice_set old (p - 1) (producer_by set who p (at old (p - 1)) m)) i)
producers_stay set who old p m i f e = of_write HasQueue old (p - 1) i (producer_by set who p (at old (p - 1)) m) None (λ k. producer_stays set who p (at old (p - 1)) m f (subst (λ n. HasQueue (at old n)) k e)) e

queue_stays : (c : Script) (st : Node) (p : ℕ) (m : Move) → grants_none m ≡ true → frees_own p m ≡ true → (lists : SlotLists) → HoldsAll c lists st → (q : ℕ) → is_slot_of c (slot.Queue q) ≡ true
    → is_at st.who (holder (queue_list (listed c lists (by_producer p m ∷ [])) q)) ≡ true → HasQueue (at (slice_set st.producers (p - 1) (producer_by st.set st.who p (at st.producers (p - 1)) m)) (q - 1))
queue_stays c st p (made (item.Fact (fact.Freed (slot.Queue t) n why))) g own lists h q i e =
    let f : Fact = fact.Freed (slot.Queue t) n why in
    let mine : t - 1 ≡ p - 1 = same_number (t - 1) (p - 1) own in
    by_place (HasQueue (at (slice_set st.producers (p - 1) None) (q - 1))) (q - 1) (t - 1)
    (λ same. absurd (true≢false (sym (subst (λ j. is_at st.who (holder (slice_index_or (slice_set lists.queues (t - 1) (queue_list lists t ++ f ∷ [])) j [])) ≡ true) same e) ∙ freed_none st.who lists.queues (t - 1) (queue_list lists t) f (λ o. refl))))
    (λ other. subst HasQueue (sym (placed_beside st.producers (p - 1) (q - 1) None (λ k. other (k ∙ sym mine))))
    (h (slot.Queue q) i (ap (λ l. is_at st.who (holder l)) (sym (get_or-set_other lists.queues (t - 1) (q - 1) (queue_list lists t ++ f ∷ []) [] other)) ∙ e)))
queue_stays c st p (made (item.Fact (fact.Freed s n why))) g own lists h q i e = absurd (true≢false (sym own))
queue_stays c st p m g own lists h q i e = producers_stay st.set st.who st.producers p m (q - 1) refl (h (slot.Queue q) i (move_gives_none c lists m (slot.Queue q) st.who g e))

one_producer : (c : Script) (st : Node) (p : ℕ) (m : Move) → grants_none m ≡ true → frees_own p m ≡ true → Holds c st (by_producer p m ∷ [])
one_producer c st p m g own lists h = record { shards_there = h.shards_there; queues_there = length-set st.producers (p - 1) (producer_by st.set st.who p (at st.producers (p - 1)) m) ∙ h.queues_there; all = λ s i e. by s i e }
  where
    by : (s : Slot) → is_slot_of c s ≡ true → is_at st.who (holder (list_at (listed c lists (by_producer p m ∷ [])) s)) ≡ true → is_some (held_list s (after st (by_producer p m))) ≡ true
    by (slot.Shard n) i e = h.all (slot.Shard n) i (move_gives_none c lists m (slot.Shard n) st.who g e)
    by slot.Coordinator i e = h.all slot.Coordinator i (move_gives_none c lists m slot.Coordinator st.who g e)
    by (slot.Queue q) i e = queue_stays c st p m g own lists h.all q i e

-- All moves of one of them.

pub region_holds : (c : Script) (st : Node) (ms : List Move) → list_all grants_none ms ≡ true → Holds c st (map by_region ms)
region_holds c st [] g = none_holds c st
region_holds c st (m ∷ ms) g =
    let n : (grants_none m ≡ true) × (list_all grants_none ms ≡ true) = and_both (grants_none m) (list_all grants_none ms) g in
    both_hold c st (by_region m ∷ []) (map by_region ms) (one_region c st m n.0) (region_holds c (after st (by_region m)) ms n.1)

pub entities_hold : (c : Script) (st : Node) (ms : List Move) → list_all grants_none ms ≡ true → Holds c st (map by_entities ms)
entities_hold c st [] g = none_holds c st
entities_hold c st (m ∷ ms) g =
    let n : (grants_none m ≡ true) × (list_all grants_none ms ≡ true) = and_both (grants_none m) (list_all grants_none ms) g in
    both_hold c st (by_entities m ∷ []) (map by_entities ms) (one_entities c st m n.0) (entities_hold c (after st (by_entities m)) ms n.1)

pub coordinator_holds : (c : Script) (st : Node) (ms : List Move) → list_all grants_none ms ≡ true → Holds c st (map by_coordinator ms)
coordinator_holds c st [] g = none_holds c st
coordinator_holds c st (m ∷ ms) g =
    let n : (grants_none m ≡ true) × (list_all grants_none ms ≡ true) = and_both (grants_none m) (list_all grants_none ms) g in
    both_hold c st (by_coordinator m ∷ []) (map by_coordinator ms) (one_coordinator c st m n.0) (coordinator_holds c (after st (by_coordinator m)) ms n.1)

-- it grants no slot, and frees its own queue at most
abbrev pub keeps_slots : ℕ → Move → Bool
keeps_slots p m = grants_none m && frees_own p m

pub producer_holds : (c : Script) (st : Node) (p : ℕ) (ms : List Move) → list_all (keeps_slots p) ms ≡ true → Holds c st (map (by_producer p) ms)
producer_holds c st p [] g = none_holds c st
producer_holds c st p (m ∷ ms) g =
    let n : (keeps_slots p m ≡ true) × (list_all (keeps_slots p) ms ≡ true) = and_both (keeps_slots p m) (list_all (keeps_slots p) ms) g in
    let o : (grants_none m ≡ true) × (frees_own p m ≡ true) = and_both (grants_none m) (frees_own p m) n.0 in
    both_hold c st (by_producer p m ∷ []) (map (by_producer p) ms) (one_producer c st p m o.0 o.1) (producer_holds c (after st (by_producer p m)) p ms n.1)

-- A slot that is granted: its store is taken at once.

shard_taken : (c : Script) (st : Node) (t : ℕ) (list : List Fact) (o : Option Incarnation) → Holds c st (map by_entities (acquire_by (slot.Shard t) st.who list o))
shard_taken c st t list (Some x) lists h = one_entities c st (told (fact.Held (slot.Shard t) st.who x.node)) refl lists h
shard_taken c st t list None lists h = record { shards_there = length-set st.entities.hosted t (Some new) ∙ h.shards_there; queues_there = h.queues_there; all = λ s i e. by s i e }
  where
    f : Fact
    f = fact.Granted (slot.Shard t) (epoch list + 1) st.who

    new : Hosted
    new = record { entries = list ++ f ∷ []; stopping = None }

    by : (s : Slot) → is_slot_of c s ≡ true → is_at st.who (holder (list_at (with_entry f lists (Some (slot.Shard t))) s)) ≡ true → is_some (held_list s (fold after st (map by_entities (acquire_by (slot.Shard t) st.who list None)))) ≡ true
    by (slot.Shard k) i e = by_place (HasStore (at (slice_set st.entities.hosted t (Some new)) k)) k t
        (λ same. subst (λ n. HasStore (at (slice_set st.entities.hosted t (Some new)) n)) (sym same)
        (subst HasStore (sym (placed_at st.entities.hosted t (Some new) (subst (λ n. n < length st.entities.hosted) same (subst (λ n. k < n) (sym h.shards_there) (below k c.config.shards i))))) refl))
        (λ other. placed_store st.entities.hosted t k new (h.all (slot.Shard k) i (ap (λ l. is_at st.who (holder l)) (sym (get_or-set_other lists.shards t k (shard_list lists t ++ f ∷ []) [] other)) ∙ e)))
    by slot.Coordinator i e = h.all slot.Coordinator i e
    by (slot.Queue p) i e = h.all (slot.Queue p) i e

office_taken : (c : Script) (st : Node) (list : List Fact) (o : Option Incarnation) → Holds c st (map by_coordinator (acquire_by slot.Coordinator st.who list o))
office_taken c st list (Some x) lists h = one_coordinator c st (told (fact.Held slot.Coordinator st.who x.node)) refl lists h
office_taken c st list None lists h = record { shards_there = h.shards_there; queues_there = h.queues_there; all = λ s i e. by s i e }
  where
    by : (s : Slot) → is_slot_of c s ≡ true → is_at st.who (holder (list_at (with_entry (fact.Granted slot.Coordinator (epoch list + 1) st.who) lists (Some slot.Coordinator)) s)) ≡ true
        → is_some (held_list s (fold after st (map by_coordinator (acquire_by slot.Coordinator st.who list None)))) ≡ true
    by (slot.Shard k) i e = h.all (slot.Shard k) i e
    by slot.Coordinator i e = refl
    by (slot.Queue p) i e = h.all (slot.Queue p) i e

queue_taken : (c : Script) (st : Node) (t : ℕ) (list : List Fact) (o : Option Incarnation) → Holds c st (map (by_producer t) (acquire_by (slot.Queue t) st.who list o))
queue_taken c st t list (Some x) lists h = one_producer c st t (told (fact.Held (slot.Queue t) st.who x.node)) refl refl lists h
queue_taken c st t list None lists h = record { shards_there = h.shards_there; queues_there = length-set mid (t - 1) (Some new) ∙ (mid_full ∙ h.queues_there); all = λ s i e. by s i e }
  where
    f : Fact
    f = fact.Granted (slot.Queue t) (epoch list + 1) st.who

    new : Producer
    new = new_producer st.set st.who t (list ++ f ∷ [])

    mid : List (Option Producer)
    mid = slice_set st.producers (t - 1) (option_map (λ k. producer_after k (told f)) (at st.producers (t - 1)))

    mid_full : length mid ≡ length st.producers
    mid_full = length-set st.producers (t - 1) (option_map (λ k. producer_after k (told f)) (at st.producers (t - 1)))

    by : (s : Slot) → is_slot_of c s ≡ true → is_at st.who (holder (list_at (with_entry f lists (Some (slot.Queue t))) s)) ≡ true → is_some (held_list s (fold after st (map (by_producer t) (acquire_by (slot.Queue t) st.who list None)))) ≡ true
    by (slot.Shard k) i e = h.all (slot.Shard k) i e
    by slot.Coordinator i e = h.all slot.Coordinator i e
    by (slot.Queue q) i e = by_place (HasQueue (at (slice_set mid (t - 1) (Some new)) (q - 1))) (q - 1) (t - 1)
        (λ same. subst (λ n. HasQueue (at (slice_set mid (t - 1) (Some new)) n)) (sym same)
        (subst HasQueue (sym (placed_at mid (t - 1) (Some new) (subst (λ n. n < length mid) same (subst (λ n. q - 1 < n) (sym (mid_full ∙ h.queues_there)) (above_zero q c.config.producers i).1)))) refl))
        (λ other. subst HasQueue (sym (placed_beside mid (t - 1) (q - 1) (Some new) other ∙ placed_beside st.producers (t - 1) (q - 1) (option_map (λ k. producer_after k (told f)) (at st.producers (t - 1))) other))
        (h.all (slot.Queue q) i (ap (λ l. is_at st.who (holder l)) (sym (get_or-set_other lists.queues (t - 1) (q - 1) (queue_list lists t ++ f ∷ []) [] other)) ∙ e)))

pub shard_acquired : (c : Script) (st : Node) (t : ℕ) (list : List Fact) → Holds c st (map by_entities (acquire (slot.Shard t) st.who list))
shard_acquired c st t list = shard_taken c st t list (holder list)

pub office_acquired : (c : Script) (st : Node) (list : List Fact) → Holds c st (map by_coordinator (acquire slot.Coordinator st.who list))
office_acquired c st list = office_taken c st list (holder list)

pub queue_acquired : (c : Script) (st : Node) (t : ℕ) (list : List Fact) → Holds c st (map (by_producer t) (acquire (slot.Queue t) st.who list))
queue_acquired c st t list = queue_taken c st t list (holder list)

-- Rules put together.

abbrev pub Keeping : Script → Rule → Type 0
Keeping c r = (st : Node) → Holds c st (r st)

pub if_holds : (c : Script) (st : Node) (b : Bool) (xs ys : List Act) → Holds c st xs → Holds c st ys → Holds c st (if b then xs else ys)
if_holds c st true xs ys f g = f
if_holds c st false xs ys f g = g

pub some_holds : {X : Type 0} (c : Script) (st : Node) (f : X → List Act) (o : Option X) → ((x : X) → Holds c st (f x)) → Holds c st (where_some f o)
some_holds c st f None h = none_holds c st
some_holds c st f (Some x) h = h x

pub two_hold : (c : Script) (r q : Rule) → Keeping c r → Keeping c q → Keeping c (in_turn after r q)
two_hold c r q f g st = both_hold c st (r st) (q (fold after st (r st))) (f st) (g (fold after st (r st)))

pub each_holds : {X : Type 0} (c : Script) (p : X → Rule) → ((x : X) → Keeping c (p x)) → (xs : List X) → Keeping c (for_each after p xs)
each_holds c p h [] st = none_holds c st
each_holds c p h (x ∷ xs) st = both_hold c st (p x st) (for_each after p xs (fold after st (p x st))) (h x st) (each_holds c p h xs (fold after st (p x st)))

-- each of the rules
abbrev pub AllKeeping : Script → List Rule → Type 0
AllKeeping c [] = Unit {0}
AllKeeping c (r ∷ rs) = Keeping c r × AllKeeping c rs

pub rules_hold : (c : Script) (rs : List Rule) → AllKeeping c rs → Keeping c (all_in_turn rs)
rules_hold c [] h st = none_holds c st
rules_hold c (r ∷ rs) h st = both_hold c st (r st) (all_in_turn rs (fold after st (r st))) (h.0 st) (rules_hold c rs h.1 (fold after st (r st)))

pub of_producer_holds : (c : Script) (p : ℕ) (f : Producer → List Move) → ((k : Producer) → list_all (keeps_slots p) (f k) ≡ true) → Keeping c (of_producer p f)
of_producer_holds c p f h st = some_holds c st (λ k. map (by_producer p) (f k)) (at st.producers (p - 1)) (λ k. producer_holds c st p (f k) (h k))

pub of_coordinator_holds : (c : Script) (f : Coordinator → List Move) → ((k : Coordinator) → list_all grants_none (f k) ≡ true) → Keeping c (of_coordinator f)
of_coordinator_holds c f h st = some_holds c st (λ k. map by_coordinator (f k)) st.coordinator (λ k. coordinator_holds c st (f k) (h k))
