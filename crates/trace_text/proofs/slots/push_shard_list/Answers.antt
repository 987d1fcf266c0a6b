use Rattle.std.proofs.Common.{sym, ◌∙◌}
use Rattle.yard_model.specs.declared.incarnation.Slot.TheVariants as slot
use Rattle.yard_model.specs.Entry.{shard_fact}
use Rattle.trace_text.proofs.SlotLaws.{slot_grows}
use Rattle.trace_text.proofs.slots.push_shard_list.Goals as goal

pub returns : goal.returns
returns c = slot_grows (slot.Shard c.args.s) (shard_fact c.args.s) c.args.list.now c.push_shard_entries.result c.args.text.now.items c.push_slot_line.new.text.items c.push_shard_entries.new.text.items (sym c.is_empty.ensures ∙ c.if-is_empty.false) c.in_ok-push_slot_line.ensures c.push_shard_entries.ensures
