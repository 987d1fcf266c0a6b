-- What a node holds it has in hand: the store of each slot that it holds.
use Rattle.std.specs.Prelude.{◌≡◌, true, false, List, fold, is_some}
use Rattle.yard_model.specs.declared.charter.Sending.{Sending}
use Rattle.yard_model.specs.declared.incarnation.Slot.{Slot}
use Rattle.yard_model.specs.declared.input.Input.{Input}
use Rattle.yard_model.specs.Genuine.{is_slot_of}
use Rattle.yard_model.specs.Node.{Node, Act, after, items_of, turn, crash}
use Rattle.yard_model.specs.Script.{Script}
use Rattle.yard_model.specs.SlotLists.{SlotLists}
use Rattle.yard_model.specs.SlotReads.{holder}
use Rattle.yard_model.specs.Trace.{list_at}
use Rattle.yard_model.specs.Words.{is_at}
use Rattle.actor_laws.specs.Hands.{held_list}
use Rattle.actor_laws.specs.Owes.{Hand, facts_in, hand_after}
use Rattle.node_laws.specs.NodeStands.{IsSoundNode}

-- by these lists, each slot that the node holds is one whose store it has
abbrev pub HoldsAll : Script → SlotLists → Node → Type 0
HoldsAll c lists st = (s : Slot) → is_slot_of c s ≡ true → is_at st.who (holder (list_at lists s)) ≡ true → is_some (held_list s st) ≡ true

-- each input keeps that, whatever lists the leases tell
abbrev pub TurnHolds : Type 0
TurnHolds = (c : Script) (sends : List (List Sending)) (lists : SlotLists) (st : Node) (i : Input) (h : Hand) → IsSoundNode c st → HoldsAll c h.lists st
    → let acts : List Act = turn sends lists i st in HoldsAll c (fold (hand_after c) h (facts_in (items_of acts))).lists (fold after st acts)

-- after its crash it holds nothing
abbrev pub CrashFrees : Type 0
CrashFrees = (c : Script) (st : Node) (h : Hand) → IsSoundNode c st → HoldsAll c h.lists st
    → (s : Slot) → is_slot_of c s ≡ true → is_at st.who (holder (list_at (fold (hand_after c) h (crash st)).lists s)) ≡ false
