use Rattle.std.proofs.Common.{sym, ◌∙◌}
use Rattle.yard_model.specs.declared.incarnation.Slot.TheVariants as slot
use Rattle.yard_model.specs.Entry.{queue_fact}
use Rattle.trace_text.proofs.SlotLaws.{slot_grows}
use Rattle.trace_text.proofs.slots.push_queue_list.Goals as goal

pub returns : goal.returns
returns c = slot_grows (slot.Queue c.args.p) (queue_fact c.args.p) c.args.list.now c.push_queue_entries.result c.args.text.now.items c.push_slot_line.new.text.items c.push_queue_entries.new.text.items (sym c.is_empty.ensures ∙ c.if-is_empty.false) c.in_ok-push_slot_line.ensures c.push_queue_entries.ensures
