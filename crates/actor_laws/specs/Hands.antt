-- What nodes have in hand: the lists of the slots that they hold. A held store stands in its holder and nowhere else.
use Rattle.std.specs.Prelude.{◌≡◌, ℕ, ◌-◌, true, List, Option, Some, is_some, IfSome, IsTrue}
use Rattle.std.specs.Option.{option_map}
use Rattle.yard_model.specs.declared.fact.Fact.{Fact}
use Rattle.yard_model.specs.declared.incarnation.Incarnation.{Incarnation}
use Rattle.yard_model.specs.declared.incarnation.Slot.{Slot}
use Rattle.yard_model.specs.declared.incarnation.Slot.TheVariants as slot
use Rattle.yard_model.specs.Script.{Script}
use Rattle.yard_model.specs.Genuine.{is_slot_of}
use Rattle.yard_model.specs.Words.{at}
use Rattle.yard_model.specs.SlotLists.{SlotLists}
use Rattle.yard_model.specs.SlotReads.{holder}
use Rattle.yard_model.specs.Trace.{list_at}
use Rattle.yard_model.specs.Node.{Node}
use Rattle.yard_model.specs.World.{World, node_at}

-- the list of a slot, as a node has it that holds the slot
abbrev pub held_list : Slot → Node → Option (List Fact)
held_list (slot.Shard s) st = option_map (λ h. h.entries) (at st.entities.hosted s)
held_list slot.Coordinator st = option_map (λ k. k.entries) st.coordinator
held_list (slot.Queue p) st = option_map (λ k. k.entries) (at st.producers (p - 1))

-- what the node has in hand are these lists
abbrev pub AreInHand : Script → SlotLists → Node → Type 0
AreInHand c lists st = (s : Slot) → IsTrue (is_slot_of c s) → IfSome (held_list s st) (λ list. list_at lists s ≡ list)

-- it is up, and has the list of this slot in hand
pub record HasHand (w : World) (s : Slot) (x : Incarnation) : Type 0 where
  pub node : Node
  pub is_up : node_at w x.node ≡ Some node
  pub who_is : node.who ≡ x
  pub hand_is : held_list s node ≡ Some (list_at w.lists s)

pub record AreHands (c : Script) (w : World) : Type 0 where
  -- who holds a slot is up, and has the slot's list in hand
  pub holders : (s : Slot) (x : Incarnation) → IsTrue (is_slot_of c s) → holder (list_at w.lists s) ≡ Some x → HasHand w s x
  -- a node holds what it has in hand
  pub hands : (s : Slot) (k : ℕ) (st : Node) → IsTrue (is_slot_of c s) → at w.nodes k ≡ Some st → is_some (held_list s st) ≡ true → holder (list_at w.lists s) ≡ Some st.who
