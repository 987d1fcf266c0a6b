-- The lists of all slots, printed; what `lists_text` has before the report.
use Rattle.std.specs.Prelude.{◌++◌}
use Rattle.std.specs.List.{flat_map}
use Rattle.yard_model.specs.declared.incarnation.Slot.TheVariants as slot
use Rattle.yard_model.specs.Script.{Setting}
use Rattle.yard_model.specs.Setting.{shards, producers}
use Rattle.yard_model.specs.SlotLists.{SlotLists, shard_list, queue_list}
use Rattle.yard_model.specs.Text.{Bytes, slot_lines}

-- the lists of the shards, rising
abbrev pub shards_lists : Setting → SlotLists → Bytes
shards_lists set lists = flat_map (λ s. slot_lines (slot.Shard s) (shard_list lists s)) (shards set)

-- the lists of the queues, rising
abbrev pub queues_lists : Setting → SlotLists → Bytes
queues_lists set lists = flat_map (λ p. slot_lines (slot.Queue p) (queue_list lists p)) (producers set)

-- shards, the coordinator, queues
abbrev pub slots_text : Setting → SlotLists → Bytes
slots_text set lists = shards_lists set lists ++ slot_lines slot.Coordinator lists.coordinator ++ queues_lists set lists
