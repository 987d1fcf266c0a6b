-- A step frees no slot but by a fact that says so.
use Rattle.std.proofs.Common.{◌≡◌, ◌≢◌, ℕ, zero, suc, ◌-◌, List, [], ◌∷◌, ◌++◌, sym, ap, ◌∙◌, refl, true, false, true≢false}
use Rattle.std.specs.Prelude.{Bool, ◌==◌, not, fold, slice_set, Option, Some, None, is_some}
use Rattle.std.specs.Option.{option_map}
use Rattle.std.specs.List.{list_all}
use Rattle.std.proofs.lemmas.List.{get_or-set_other}
use Rattle.yard_model.specs.declared.fact.Fact.{Fact}
use Rattle.yard_model.specs.declared.fact.Fact.TheVariants as fact
use Rattle.yard_model.specs.declared.incarnation.Slot.{Slot}
use Rattle.yard_model.specs.declared.incarnation.Slot.TheVariants as slot
use Rattle.yard_model.specs.declared.out.Item.TheVariants as item
use Rattle.yard_model.specs.Coordinator.{Coordinator, coordinator_after}
use Rattle.yard_model.specs.Entities.{Hosted, entered, hosted_by_fact, hosted_step}
use Rattle.yard_model.specs.Move.{Move, made, took, handed_off}
use Rattle.yard_model.specs.Node.{Node, Act, by_region, by_entities, by_producer, by_coordinator, after, producer_by, coordinator_by}
use Rattle.yard_model.specs.Producer.{producer_after}
use Rattle.yard_model.specs.Script.{Script, Setting}
use Rattle.yard_model.specs.Setting.{shard_of}
use Rattle.yard_model.specs.SlotLists.{SlotLists}
use Rattle.yard_model.specs.Words.{at}
use Rattle.plain_laws.proofs.Booleans.{and_both, of_not, other_number}
use Rattle.actor_laws.specs.Hands.{held_list}
use Rattle.node_core.specs.Found.{asks}
use Rattle.node_core.specs.Gave.{Moment, Gave}
use Rattle.node_core.proofs.FoundLaws.{alike_itself}
use Rattle.node_core.proofs.GaveLaws.{Keeps}

-- the queue of this producer
abbrev is_queue_of : Slot → ℕ → Bool
is_queue_of (slot.Queue q) p = q - 1 == p - 1
is_queue_of s p = false

-- the act frees this slot
abbrev pub frees : Slot → Act → Bool
frees s (by_entities (made (item.Fact (fact.Freed t n why)))) = asks s t
frees s (by_producer p (made (item.Fact (fact.Freed t n why)))) = is_queue_of s p
frees s a = false

abbrev pub frees_none : Slot → List Act → Bool
frees_none s acts = list_all (λ a. not (frees s a)) acts

pub none_mapped : {A B : Type 0} (f : A → B) (o : Option A) → option_map f o ≡ None → o ≡ None
none_mapped f None h = refl
none_mapped f (Some x) h = cc

some_none : {A B : Type 0} (x : A) → Some x ≡ None → B
some_none x h = absurd (true≢false (ap is_some h))

-- what is at no place is put nowhere
set_none : {A : Type 0} (xs : List (Option A)) (i j : ℕ) (v : Option A) → (v ≡ None → at xs i ≡ None) → at (slice_set xs i v) j ≡ None → at xs j ≡ None
set_none [] i j v k h = h
set_none (x ∷ xs) zero zero v k h = k h
set_none (x ∷ xs) zero (suc j) v k h = h
set_none (x ∷ xs) (suc i) zero v k h = h
set_none (x ∷ xs) (suc i) (suc j) v k h = set_none xs i j v k h

set_other : {A : Type 0} (xs : List (Option A)) (i j : ℕ) (v : Option A) → j ≢ i → at (slice_set xs i v) j ≡ None → at xs j ≡ None
set_other xs i j v other h = sym (get_or-set_other xs i j v None other) ∙ h

entered_keeps : (old : List (Option Hosted)) (t s : ℕ) (f : Fact) → at (entered t f old) s ≡ None → at old s ≡ None
entered_keeps old t s f h = set_none old t s (option_map (λ x. record { entries = x.entries ++ f ∷ []; stopping = x.stopping }) (at old t)) (none_mapped (λ x. record { entries = x.entries ++ f ∷ []; stopping = x.stopping }) (at old t)) h

fact_keeps : (set : Setting) (old : List (Option Hosted)) (s : ℕ) (f : Fact) → not (frees (slot.Shard s) (by_entities (made (item.Fact f)))) ≡ true → at (hosted_by_fact set old f) s ≡ None → at old s ≡ None
fact_keeps set old s (fact.Freed (slot.Shard t) n why) k h = set_other old t s None (other_number s t (of_not (s == t) k)) h
fact_keeps set old s (fact.Wrote e r) k h = entered_keeps old (shard_of set e) s (fact.Wrote e r) h
fact_keeps set old s (fact.Snapshot e n) k h = entered_keeps old (shard_of set e) s (fact.Snapshot e n) h
fact_keeps set old s (fact.Remembered e) k h = entered_keeps old (shard_of set e) s (fact.Remembered e) h
fact_keeps set old s (fact.Forgotten e) k h = entered_keeps old (shard_of set e) s (fact.Forgotten e) h
fact_keeps set old s f k h = h

move_keeps : (set : Setting) (old : List (Option Hosted)) (s : ℕ) (m : Move) → not (frees (slot.Shard s) (by_entities m)) ≡ true → at (hosted_step set old m) s ≡ None → at old s ≡ None
move_keeps set old s (took (slot.Shard t) list) k h = set_none old t s (Some (record { entries = list; stopping = None })) (λ e. some_none (record { entries = list; stopping = None }) e) h
move_keeps set old s (made (item.Fact f)) k h = fact_keeps set old s f k h
move_keeps set old s (handed_off t stamp to) k h = set_none old t s (option_map (λ x. record { entries = x.entries; stopping = Some (record { stamp = stamp; to = to }) }) (at old t)) (none_mapped (λ x. record { entries = x.entries; stopping = Some (record { stamp = stamp; to = to }) }) (at old t)) h
move_keeps set old s m k h = h

queue_keeps : (st : Node) (p q : ℕ) (m : Move) → not (frees (slot.Queue q) (by_producer p m)) ≡ true → at (slice_set st.producers (p - 1) (producer_by st.set st.who p (at st.producers (p - 1)) m)) (q - 1) ≡ None → at st.producers (q - 1) ≡ None
queue_keeps st p q (took s list) k h = set_none st.producers (p - 1) (q - 1) (producer_by st.set st.who p (at st.producers (p - 1)) (took s list)) (λ e. absurd (true≢false (ap is_some e))) h
queue_keeps st p q (made (item.Fact (fact.Freed s n why))) k h = set_other st.producers (p - 1) (q - 1) None (other_number (q - 1) (p - 1) (of_not (q - 1 == p - 1) k)) h
queue_keeps st p q m k h = set_none st.producers (p - 1) (q - 1) (option_map (λ x. producer_after x m) (at st.producers (p - 1))) (none_mapped (λ x. producer_after x m) (at st.producers (p - 1))) h

office_keeps : (st : Node) (o : Option Coordinator) (m : Move) → coordinator_by st.set st.who o m ≡ None → o ≡ None
office_keeps st o (took s list) h = absurd (true≢false (ap is_some h))
office_keeps st o m h = none_mapped (λ x. coordinator_after x m) o h

act_keeps : (st : Node) (a : Act) (s : Slot) → not (frees s a) ≡ true → held_list s (after st a) ≡ None → held_list s st ≡ None
act_keeps st (by_entities m) (slot.Shard s) k h = ap (option_map (λ x. x.entries)) (move_keeps st.entities.set st.entities.hosted s m k (none_mapped (λ x. x.entries) (at (hosted_step st.entities.set st.entities.hosted m) s) h))
act_keeps st (by_producer p m) (slot.Queue q) k h = ap (option_map (λ x. x.entries)) (queue_keeps st p q m k (none_mapped (λ x. x.entries) (at (slice_set st.producers (p - 1) (producer_by st.set st.who p (at st.producers (p - 1)) m)) (q - 1)) h))
act_keeps st (by_coordinator m) slot.Coordinator k h = ap (option_map (λ x. x.entries)) (office_keeps st st.coordinator m (none_mapped (λ x. x.entries) (coordinator_by st.set st.who st.coordinator m) h))
act_keeps st (by_region m) (slot.Shard s) k h = h
act_keeps st (by_region m) slot.Coordinator k h = h
act_keeps st (by_region m) (slot.Queue q) k h = h
act_keeps st (by_entities m) slot.Coordinator k h = h
act_keeps st (by_entities m) (slot.Queue q) k h = h
act_keeps st (by_producer p m) (slot.Shard s) k h = h
act_keeps st (by_producer p m) slot.Coordinator k h = h
act_keeps st (by_coordinator m) (slot.Shard s) k h = h
act_keeps st (by_coordinator m) (slot.Queue q) k h = h

pub acts_keep : (st : Node) (acts : List Act) (s : Slot) → frees_none s acts ≡ true → held_list s (fold after st acts) ≡ None → held_list s st ≡ None
acts_keep st [] s k h = h
acts_keep st (a ∷ acts) s k h =
    let parts : (not (frees s a) ≡ true) × (frees_none s acts ≡ true) = and_both (not (frees s a)) (frees_none s acts) k in
    act_keeps st a s parts.0 (acts_keep (after st a) acts s parts.1 h)

-- so a step after which another may ask: its acts, for any lists, free nothing that is asked for
pub gave_keeps : (c : Script) (one two : Slot → Bool) (p : SlotLists → List Act) (old mid : Moment) → Gave c one p old mid
    → ((lists : SlotLists) (s : Slot) → two s ≡ true → frees_none s (p lists) ≡ true) → Keeps c two old mid
gave_keeps c one two p old mid g none s v asked free =
    acts_keep old.node g.told s (ap (frees_none s) (sym (g.found.same g.found.lists (alike_itself c one old.node g.found.lists))) ∙ none g.found.lists s asked)
    (ap (held_list s) (sym g.node_is) ∙ free)
