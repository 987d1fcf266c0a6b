-- Acts of one actor change that actor's part of the node alone, and the items of acts are those of their moves.
use Rattle.std.specs.Prelude.{◌≡◌, ℕ, List, map, fold}
use Rattle.std.specs.List.{flat_map}
use Rattle.yard_model.specs.Move.{Move, item_of}
use Rattle.yard_model.specs.Region.{region_after}
use Rattle.yard_model.specs.Entities.{entities_after}
use Rattle.yard_model.specs.Turns.{in_turn}
use Rattle.yard_model.specs.Node.{Node, Act, Rule, by_region, by_entities, by_producer, by_coordinator, region_part, entities_part, producers_part, coordinator_part, after, items_of}

-- the region's moves change the region alone
abbrev pub RegionAlone : Type 0
RegionAlone = (st : Node) (ms : List Move) → fold after st (map by_region ms) ≡ record st { region = fold region_after st.region ms }

-- the entities' moves change the entities alone
abbrev pub EntitiesAlone : Type 0
EntitiesAlone = (st : Node) (ms : List Move) → fold after st (map by_entities ms) ≡ record st { entities = fold entities_after st.entities ms }

-- a producer's moves change the producers alone
abbrev pub ProducerAlone : Type 0
ProducerAlone = (st : Node) (p : ℕ) (ms : List Move) → fold after st (map (by_producer p) ms) ≡ record st { producers = fold (producers_part st.set st.who) st.producers (map (by_producer p) ms) }

-- the coordinator's moves change the coordinator alone
abbrev pub CoordinatorAlone : Type 0
CoordinatorAlone = (st : Node) (ms : List Move) → fold after st (map by_coordinator ms) ≡ record st { coordinator = fold (coordinator_part st.set st.who) st.coordinator (map by_coordinator ms) }

-- after any acts each part of the node is the fold of its own step
abbrev pub PartsAreFolds : Type 0
PartsAreFolds = (st : Node) (acts : List Act) → fold after st acts ≡ record {
  who = st.who;
  set = st.set;
  region = fold region_part st.region acts;
  entities = fold entities_part st.entities acts;
  producers = fold (producers_part st.set st.who) st.producers acts;
  coordinator = fold (coordinator_part st.set st.who) st.coordinator acts;
}

-- the items of an actor's acts are those of its moves
abbrev pub RegionItems : Type 0
RegionItems = (ms : List Move) → items_of (map by_region ms) ≡ flat_map item_of ms

abbrev pub EntitiesItems : Type 0
EntitiesItems = (ms : List Move) → items_of (map by_entities ms) ≡ flat_map item_of ms

abbrev pub ProducerItems : Type 0
ProducerItems = (p : ℕ) (ms : List Move) → items_of (map (by_producer p) ms) ≡ flat_map item_of ms

abbrev pub CoordinatorItems : Type 0
CoordinatorItems = (ms : List Move) → items_of (map by_coordinator ms) ≡ flat_map item_of ms

-- one rule and then another: the state after both is that of the other after that of the one
abbrev pub AfterBoth : Type 0
AfterBoth = (p q : Rule) (st : Node) → fold after st (in_turn after p q st) ≡ fold after (fold after st (p st)) (q (fold after st (p st)))
