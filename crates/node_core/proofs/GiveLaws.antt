-- What the steps of one actor give that ask for nothing.
use Rattle.std.proofs.Common.{◌≡◌, ℕ, List, [], ◌∷◌, map, sym, ap, subst, ◌∙◌, refl, true}
use Rattle.std.specs.Prelude.{Bool, not, Option, Some, None, is_none, is_some, IfSome}
use Rattle.std.specs.Option.{option_map}
use Rattle.std.specs.List.{list_all}
use Rattle.yard_model.specs.declared.fact.Fact.{Fact}
use Rattle.yard_model.specs.declared.fact.Fact.TheVariants as fact
use Rattle.yard_model.specs.declared.incarnation.Slot.{Slot}
use Rattle.yard_model.specs.declared.incarnation.Slot.TheVariants as slot
use Rattle.yard_model.specs.declared.out.Item.{Item}
use Rattle.yard_model.specs.declared.out.Item.TheVariants as item
use Rattle.yard_model.specs.Coordinator.{Coordinator}
use Rattle.yard_model.specs.Entities.{Hosted, hosted, is_hosted}
use Rattle.yard_model.specs.Genuine.{is_slot_of}
use Rattle.yard_model.specs.Move.{Move, made}
use Rattle.yard_model.specs.Node.{Node, Act, by_region, by_entities, by_coordinator, of_coordinator}
use Rattle.yard_model.specs.Script.{Script, setting}
use Rattle.yard_model.specs.Spared.{Spared}
use Rattle.yard_model.specs.Turns.{where_some}
use Rattle.yard_laws.specs.Free.{is_free, is_free_move}
use Rattle.plain_laws.proofs.Booleans.{true_is_not_false, and_both, both}
use Rattle.actor_laws.specs.Hands.{held_list}
use Rattle.shard_lease.specs.Meaning.{Meaning}
use Rattle.node_core.specs.Found.{none, asks}
use Rattle.node_core.specs.Gave.{Gave, moment}
use Rattle.node_core.specs.Leased.{Rests}
use Rattle.node_core.specs.Standing.{Standing}
use Rattle.node_core.specs.Still.{is_still_move, is_of_shards, is_held_of, no_slot, is_still_region, is_still}
use Rattle.node_core.specs.Went.{Went}
use Rattle.node_core.proofs.AskLaws.{asks_is}
use Rattle.node_core.proofs.StepLaws.{went_gave}
use Rattle.node_core.proofs.StillEntities.{still_more}

-- Acts of one actor.

pub map_still : (c : Script) (m : Meaning) (st : Node) (by : Move → Act) (may : Slot → Bool) → ((x : Move) → is_still c m st (by x) ≡ is_still_move m c may x) → (ms : List Move) → list_all (is_still_move m c may) ms ≡ true → list_all (is_still c m st) (map by ms) ≡ true
map_still c m st by may same [] h = refl
map_still c m st by may same (x ∷ ms) h =
    let parts : (is_still_move m c may x ≡ true) × (list_all (is_still_move m c may) ms ≡ true) = and_both (is_still_move m c may x) (list_all (is_still_move m c may) ms) h in
    both (is_still c m st (by x)) (list_all (is_still c m st) (map by ms)) (same x ∙ parts.0) (map_still c m st by may same ms parts.1)

-- The region: it writes of no slot.

free_fact : (c : Script) (m : Meaning) (f : Fact) → is_free f ≡ true → is_still_move m c no_slot (made (item.Fact f)) ≡ true
free_fact c m (fact.At n) h = refl
free_fact c m fact.Nothing h = refl
free_fact c m fact.WireFull h = refl
free_fact c m fact.Settled h = refl
free_fact c m (fact.Up x) h = refl
free_fact c m (fact.View x v) h = refl
free_fact c m (fact.Sent k p) h = refl
free_fact c m (fact.Got k) h = refl
free_fact c m (fact.Held s x n) h = refl
free_fact c m (fact.Moving s stamp) h = refl
free_fact c m (fact.Home x s k) h = refl
free_fact c m (fact.Forget x s) h = refl
free_fact c m (fact.Kept x y) h = refl
free_fact c m (fact.Dropped x y) h = refl
free_fact c m (fact.Stashed x y) h = refl
free_fact c m (fact.Armed e k) h = refl
free_fact c m (fact.Waits p e k) h = refl
free_fact c m (fact.SentAsk k x) h = refl
free_fact c m (fact.SentJob k x e) h = refl
free_fact c m (fact.SentDone k x e) h = refl
free_fact c m (fact.Given e x) h = refl
free_fact c m (fact.Did x e) h = refl
free_fact c m f h = absurd (true_is_not_false (sym h))

free_move : (c : Script) (m : Meaning) (x : Move) → is_free_move x ≡ true → is_still_region m c x ≡ true
free_move c m (made (item.Fact f)) h = free_fact c m f h
free_move c m x h = refl

pub free_still : (c : Script) (m : Meaning) (st : Node) (ms : List Move) → list_all is_free_move ms ≡ true → list_all (is_still c m st) (map by_region ms) ≡ true
free_still c m st [] h = refl
free_still c m st (x ∷ ms) h =
    let parts : (is_free_move x ≡ true) × (list_all is_free_move ms ≡ true) = and_both (is_free_move x) (list_all is_free_move ms) h in
    both (is_still c m st (by_region x)) (list_all (is_still c m st) (map by_region ms)) (free_move c m x parts.0) (free_still c m st ms parts.1)

pub region_gave : (m : Meaning) (v w : Standing) (ms : List Move) (before late : Spared Item) → v.state.entities.set ≡ setting v.script → list_all is_free_move ms ≡ true
    → Rests m v.script v.state → Went v w before late (map by_region ms) → Gave v.script none (λ lists. map by_region ms) (moment m v.state before.items) (moment m w.state late.items)
region_gave m v w ms before late set_is free rests went = went_gave m v w (map by_region ms) before late set_is (free_still v.script m v.state ms free) rests went

-- The entities: they write of hosted shards.

pub entities_gave : (m : Meaning) (v w : Standing) (ms : List Move) (before late : Spared Item) → v.state.entities.set ≡ setting v.script → list_all (is_still_move m v.script (is_held_of v.script v.state is_of_shards)) ms ≡ true
    → Rests m v.script v.state → Went v w before late (map by_entities ms) → Gave v.script none (λ lists. map by_entities ms) (moment m v.state before.items) (moment m w.state late.items)
entities_gave m v w ms before late set_is still rests went = went_gave m v w (map by_entities ms) before late set_is (map_still v.script m v.state by_entities (is_held_of v.script v.state is_of_shards) (λ x. refl) ms still) rests went

some_of : (o : Option Hosted) → not (is_none o) ≡ true → is_some (option_map (λ (h : Hosted). h.entries) o) ≡ true
some_of None h = absurd (true_is_not_false (sym h))
some_of (Some x) h = refl

-- a hosted shard is one of them
pub hosted_may : (c : Script) (st : Node) (s : ℕ) → is_slot_of c (slot.Shard s) ≡ true → is_hosted st.entities s ≡ true → is_held_of c st is_of_shards (slot.Shard s) ≡ true
hosted_may c st s valid there = both (is_slot_of c (slot.Shard s)) (is_some (held_list (slot.Shard s) st)) valid (some_of (hosted st.entities s) there)

-- The coordinator: it writes of its slot.

office_may : (c : Script) (st : Node) (k : Coordinator) → st.coordinator ≡ Some k → (s : Slot) → asks slot.Coordinator s ≡ true → is_held_of c st (asks slot.Coordinator) s ≡ true
office_may c st k e s h = subst (λ z. is_held_of c st (asks slot.Coordinator) z ≡ true) (asks_is slot.Coordinator s h) (ap (λ o. is_some (option_map (λ (k : Coordinator). k.entries) o)) e)

office_still : (c : Script) (m : Meaning) (st : Node) (p : Coordinator → List Move) (o : Option Coordinator) → st.coordinator ≡ o → IfSome o (λ k. list_all (is_still_move m c (asks slot.Coordinator)) (p k) ≡ true)
    → list_all (is_still c m st) (where_some (λ k. map by_coordinator (p k)) o) ≡ true
office_still c m st p None e h = refl
office_still c m st p (Some k) e h = map_still c m st by_coordinator (is_held_of c st (asks slot.Coordinator)) (λ x. refl) (p k)
    (still_more c m (asks slot.Coordinator) (is_held_of c st (asks slot.Coordinator)) (office_may c st k e) (p k) h)

pub office_gave : (m : Meaning) (v w : Standing) (p : Coordinator → List Move) (before late : Spared Item) → v.state.entities.set ≡ setting v.script
    → IfSome v.state.coordinator (λ k. list_all (is_still_move m v.script (asks slot.Coordinator)) (p k) ≡ true) → Rests m v.script v.state → Went v w before late (of_coordinator p v.state)
    → Gave v.script none (λ lists. of_coordinator p v.state) (moment m v.state before.items) (moment m w.state late.items)
office_gave m v w p before late set_is still rests went = went_gave m v w (of_coordinator p v.state) before late set_is (office_still v.script m v.state p v.state.coordinator refl still) rests went
