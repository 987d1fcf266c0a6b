-- A trace is a list of facts. What it says of the slots: List(T, slot) is the facts of T that belong to that slot.
use Rattle.std.specs.Prelude.{◌-◌, List, [], ◌∷◌, ◌++◌, fold, replicate, Option, Some, None, slice_set}
use Rattle.yard_model.specs.declared.fact.Fact.{Fact}
use Rattle.yard_model.specs.declared.fact.Fact.TheVariants as fact
use Rattle.yard_model.specs.declared.incarnation.Slot.{Slot}
use Rattle.yard_model.specs.declared.incarnation.Slot.TheVariants as slot
use Rattle.yard_model.specs.Script.{Setting}
use Rattle.yard_model.specs.Setting.{shard_of}
use Rattle.yard_model.specs.SlotLists.{SlotLists, shard_list, queue_list}

-- the slot to whose list a fact belongs, if it is an entry
abbrev pub slot_of : Setting → Fact → Option Slot
slot_of set (fact.Granted s n x) = Some s
slot_of set (fact.Freed s n why) = Some s
slot_of set (fact.Registered r) = Some slot.Coordinator
slot_of set (fact.Terminated r) = Some slot.Coordinator
slot_of set (fact.Allocated s r) = Some slot.Coordinator
slot_of set (fact.Deallocated s) = Some slot.Coordinator
slot_of set (fact.Wrote e r) = Some (slot.Shard (shard_of set e))
slot_of set (fact.Snapshot e n) = Some (slot.Shard (shard_of set e))
slot_of set (fact.Remembered e) = Some (slot.Shard (shard_of set e))
slot_of set (fact.Forgotten e) = Some (slot.Shard (shard_of set e))
slot_of set (fact.Queued p e n c) = Some (slot.Queue p)
slot_of set (fact.Confirmed p e n) = Some (slot.Queue p)
slot_of set (fact.Reshard n k) = Some slot.Coordinator
slot_of set (fact.Resharded s n k) = Some (slot.Shard s)
slot_of set f = None

-- the list of a slot
abbrev pub list_at : SlotLists → Slot → List Fact
list_at lists (slot.Shard s) = shard_list lists s
list_at lists slot.Coordinator = lists.coordinator
list_at lists (slot.Queue p) = queue_list lists p

-- an entry at the end of its slot's list
abbrev pub with_entry : Fact → SlotLists → Option Slot → SlotLists
with_entry f old None = old
with_entry f old (Some (slot.Shard s)) = record old { shards = slice_set old.shards s (shard_list old s ++ f ∷ []) }
with_entry f old (Some slot.Coordinator) = record old { coordinator = old.coordinator ++ f ∷ [] }
with_entry f old (Some (slot.Queue p)) = record old { queues = slice_set old.queues (p - 1) (queue_list old p ++ f ∷ []) }

abbrev pub lists_step : Setting → SlotLists → Fact → SlotLists
lists_step set old f = with_entry f old (slot_of set f)

abbrev pub no_lists : Setting → SlotLists
no_lists set = record { shards = replicate set.config.shards []; coordinator = []; queues = replicate set.config.producers [] }

-- the lists of all slots: each entry of the trace in the list of its slot
abbrev pub lists_of : Setting → List Fact → SlotLists
lists_of set trace = fold (lists_step set) (no_lists set) trace
