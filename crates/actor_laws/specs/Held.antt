-- What a node tells of slots: of those alone that it holds, by what it has in hand, or is granted.
use Rattle.std.specs.Prelude.{Bool, true, false, ◌&&◌, ◌||◌, List, [], ◌∷◌, Option, Some, None}
use Rattle.yard_model.specs.declared.fact.Fact.{Fact}
use Rattle.yard_model.specs.declared.fact.Fact.TheVariants as fact
use Rattle.yard_model.specs.declared.incarnation.Incarnation.{Incarnation}
use Rattle.yard_model.specs.declared.incarnation.Slot.{Slot}
use Rattle.yard_model.specs.declared.incarnation.Slot.TheVariants as slot
use Rattle.yard_model.specs.Script.{Script, Setting, setting}
use Rattle.yard_model.specs.SlotReads.{holder}
use Rattle.yard_model.specs.Trace.{slot_of, list_at}
use Rattle.yard_model.specs.Words.{is_at}
use Rattle.actor_laws.specs.Owes.{Hand, hand_after}

abbrev pub is_grant : Fact → Bool
is_grant (fact.Granted s n x) = true
is_grant f = false

-- the slot whose holder alone tells a fact: of an entry the slot of its list, and of a shard that begins to move the coordinator's
abbrev pub slot_told : Setting → Fact → Option Slot
slot_told set (fact.Moving s stamp) = Some slot.Coordinator
slot_told set f = slot_of set f

abbrev pub is_slot_held : Incarnation → Hand → Option Slot → Bool
is_slot_held who h None = true
is_slot_held who h (Some s) = is_at who (holder (list_at h.lists s))

-- each fact that a slot's holder tells is a grant, or is told while the node holds that slot
abbrev pub held_in_hand : Script → Incarnation → Hand → List Fact → Bool
held_in_hand c who h [] = true
held_in_hand c who h (f ∷ fs) = (is_grant f || is_slot_held who h (slot_told (setting c) f)) && held_in_hand c who (hand_after c h f) fs
