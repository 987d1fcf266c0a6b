-- What stands of the entities of a node between their rules, and what a rule keeps and tells.
use Rattle.std.specs.Prelude.{◌≡◌, ℕ, Bool, true, false, ◌&&◌, not, List, length, fold, Some, IfSome, IsTrue}
use Rattle.std.specs.List.{list_all}
use Rattle.yard_model.specs.declared.fact.Fact.{Fact}
use Rattle.yard_model.specs.declared.fact.Fact.TheVariants as fact
use Rattle.yard_model.specs.declared.input.Phase.TheVariants as phase
use Rattle.yard_model.specs.declared.packet.Message.{Message}
use Rattle.yard_model.specs.declared.incarnation.Incarnation.{Incarnation}
use Rattle.yard_model.specs.declared.incarnation.Keep.{Keep}
use Rattle.yard_model.specs.declared.incarnation.Stamp.{Stamp}
use Rattle.yard_model.specs.declared.incarnation.Slot.TheVariants as slot
use Rattle.yard_model.specs.Entities as entities
use Rattle.yard_model.specs.Entities.{Entities, Hosted, new_entities, cell, hosted, is_hosted, is_in_phase, entities_after}
use Rattle.yard_model.specs.Genuine.{is_node, is_brought, is_producer, is_genuine}
use Rattle.yard_model.specs.Lawful.{own}
use Rattle.yard_model.specs.Move.{Move}
use Rattle.yard_model.specs.Script.{Script, is_name, names_in, setting, is_version}
use Rattle.yard_model.specs.Setting.{shard_of}
use Rattle.yard_model.specs.SlotLists.{shard_list}
use Rattle.yard_model.specs.SlotReads.{holder}
use Rattle.yard_model.specs.Words.{is_same}
use Rattle.actor_laws.specs.Owes.{Hand, has_name, hand_after, guarded_in_hand}
use Rattle.actor_laws.specs.Held.{held_in_hand}
use Rattle.actor_laws.specs.Moves.{is_own_move, facts_of}

-- a hosted shard: the node holds it, its list is lawful by itself, and who is told of its end is of the script's nodes
pub record IsHeldShard (c : Script) (who : Incarnation) (s : ℕ) (h : Hosted) : Type 0 where
  pub own_is : IsTrue (own c (slot.Shard s) h.entries)
  pub held_is : holder h.entries ≡ Some who
  pub told_is : IfSome h.stopping (λ k. is_node c k.to ≡ true)

-- a message is made of the script, comes from one of its producers, and is for this name
abbrev pub is_for : Script → List ℕ → Message → Bool
is_for c e m = is_genuine c m && is_producer c m.producer && is_name m.entity e

-- an entity exists in a shard that is hosted, and stashes messages for itself
pub record IsEntities (c : Script) (st : Entities) : Type 0 where
  pub who_is : is_node c st.who ≡ true
  pub set_is : st.set ≡ setting c
  pub version_is : is_version c st.version ≡ true
  pub shards_there : length st.hosted ≡ c.config.shards
  pub cells_there : length st.cells ≡ length (names_in c.orders)
  pub hosted_are : (s : ℕ) (h : Hosted) → hosted st s ≡ Some h → IsHeldShard c st.who s h
  pub at_home : (e : List ℕ) → is_brought c e ≡ true → is_in_phase phase.Absent st e ≡ false → is_hosted st (shard_of st.set e) ≡ true
  pub stashed : (e : List ℕ) → is_brought c e ≡ true → list_all (is_for c e) (cell st e).stash ≡ true

-- a message that may be delivered: made of the script, from one of its producers, for one of its names
pub record IsMessage (c : Script) (m : Message) : Type 0 where
  pub genuine : is_genuine c m ≡ true
  pub producer_is : is_producer c m.producer ≡ true
  pub brought : is_brought c m.entity ≡ true

-- what the node has in hand are the lists of the hosted shards, and the names of the entities that exist
pub record InHand (c : Script) (h : Hand) (st : Entities) : Type 0 where
  pub there : length h.lists.shards ≡ c.config.shards
  pub lists_are : (s : ℕ) (x : Hosted) → hosted st s ≡ Some x → shard_list h.lists s ≡ x.entries
  pub version_is : h.version ≡ st.version
  pub live_are : (e : List ℕ) → is_brought c e ≡ true → has_name e h.live ≡ not (is_in_phase phase.Absent st e)

-- the facts that entities tell: of entities, whose incarnation is this node, and entries of shards
abbrev pub is_entity_fact : Incarnation → Fact → Bool
is_entity_fact who (fact.Start x e) = is_same x who
is_entity_fact who (fact.Active x e n st) = is_same x who
is_entity_fact who (fact.Stop x e) = is_same x who
is_entity_fact who (fact.WriteFailed x e) = is_same x who
is_entity_fact who (fact.Armed e k) = true
is_entity_fact who (fact.Stashed x m) = is_same x who
is_entity_fact who (fact.Dropped x m) = is_same x who
is_entity_fact who (fact.Held s x n) = is_same x who
is_entity_fact who (fact.Granted (slot.Shard s) n x) = is_same x who
is_entity_fact who (fact.Freed (slot.Shard s) n why) = true
is_entity_fact who (fact.Wrote e r) = true
is_entity_fact who (fact.Snapshot e n) = true
is_entity_fact who (fact.Remembered e) = true
is_entity_fact who (fact.Forgotten e) = true
is_entity_fact who f = false

-- after these moves the same stands; what they post is the node's own; they tell of entities and shards alone; and each fact is guarded by what the node has in hand, which goes along
pub record KeepsEntities (c : Script) (st : Entities) (ms : List Move) : Type 0 where
  pub stands : IsEntities c (fold entities_after st ms)
  pub posts_are : list_all (is_own_move c st.who) ms ≡ true
  pub facts_are : list_all (is_entity_fact st.who) (facts_of ms) ≡ true
  pub held_are : (h : Hand) → InHand c h st → held_in_hand c st.who h (facts_of ms) ≡ true
  pub guarded_are : (vouches : List ℕ → ℕ → ℕ → Bool) (h : Hand) → InHand c h st → guarded_in_hand c vouches st.who h (facts_of ms) ≡ true
  pub goes_along : (h : Hand) → InHand c h st → InHand c (fold (hand_after c) h (facts_of ms)) (fold entities_after st ms)

-- what each rule keeps and tells, where what it is about is the script's
pub record EntityRules (c : Script) (st : Entities) : Type 0 where
  pub delivers : (m : Message) → IsMessage c m → is_hosted st (shard_of st.set m.entity) ≡ true → KeepsEntities c st (entities.deliver m st)
  pub recovers : (e : List ℕ) → is_brought c e ≡ true → KeepsEntities c st (entities.recovered e st)
  pub passivates : (e : List ℕ) → is_brought c e ≡ true → KeepsEntities c st (entities.passivate e st)
  pub asks_to_passivate : (e : List ℕ) → is_brought c e ≡ true → KeepsEntities c st (entities.ask_to_passivate e st)
  pub arms : (e : List ℕ) (k : Keep) → is_brought c e ≡ true → KeepsEntities c st (entities.arm e k st)
  pub hands_off : (s : ℕ) (stamp : Stamp) (from : Incarnation) → is_hosted st s ≡ true → is_node c from ≡ true → KeepsEntities c st (entities.hand_off s stamp from st)
  pub stops : (e : List ℕ) → is_brought c e ≡ true → KeepsEntities c st (entities.stop e st)
  pub ticks : KeepsEntities c st (entities.tick_entities st)

-- of entities that stand by themselves
abbrev pub EntitiesStandLaw : Type 0
EntitiesStandLaw = (c : Script) (st : Entities) → IsEntities c st → EntityRules c st

-- those of a node that comes up do
abbrev pub NewEntitiesStand : Type 0
NewEntitiesStand = (c : Script) (version : ℕ) (who : Incarnation) → is_node c who ≡ true → is_version c version ≡ true → IsEntities c (new_entities (setting c) version who)
