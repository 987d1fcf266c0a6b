-- A steady producer's queue is free for its node, unless the node has it.
use Rattle.std.specs.Prelude.{◌≡◌, ℕ, true, None}
use Rattle.atomic_table.specs.Seated.{TableId}
use Rattle.yard_model.specs.declared.incarnation.Slot.TheVariants as slot
use Rattle.yard_model.specs.Genuine.{is_slot_of}
use Rattle.yard_model.specs.Node.{Node}
use Rattle.yard_model.specs.Script.{Script}
use Rattle.yard_model.specs.SlotLists.{SlotLists, queue_list}
use Rattle.yard_model.specs.SlotReads.{holder}
use Rattle.yard_model.specs.Workers.{is_steady}
use Rattle.actor_laws.specs.Hands.{held_list}
use Rattle.node_core.specs.Found.{AreElseOthers}
use Rattle.lease_table.specs.declared.View.{View}
use Rattle.lease_table.specs.Means.{meaning_of}

-- whatever lists a turn over the node's pass found
abbrev pub SteadyIsFree : Type 0
SteadyIsFree = (c : Script) (turns p n : ℕ) (z : TableId) (v : View) (lists : SlotLists) (st : Node) → is_steady c turns p n ≡ true → v.charter ≡ c → st.who.node ≡ n
    → AreElseOthers (meaning_of z v n) c lists st → is_slot_of c (slot.Queue p) ≡ true → held_list (slot.Queue p) st ≡ None → holder (queue_list lists p) ≡ None
