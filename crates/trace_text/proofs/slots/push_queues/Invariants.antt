use Rattle.std.proofs.Common.{◌≡◌, ◌++◌, ◌-◌, ◌+◌, ◌≤◌}
use Rattle.std.specs.List.{flat_map}
use Rattle.yard_model.specs.declared.incarnation.Slot.TheVariants as slot
use Rattle.yard_model.specs.Words.{numbers}
use Rattle.yard_model.specs.Script.{setting}
use Rattle.yard_model.specs.SlotLists.{queue_list}
use Rattle.yard_model.specs.Text.{slot_lines}
use Rattle.trace_text.specs.Grown.{Begins}
use Rattle.trace_text.specs.Slots.{queues_lists}
use Rattle.trace_text.proofs.slots.push_queues.Given as goal

abbrev pub invariant-loop-i : goal.invariant-loop-i
invariant-loop-i g l = record {
  text : l.text.items ++ flat_map (λ p. slot_lines (slot.Queue p) (queue_list (g.T.Lists.lists l.stores) p)) (numbers (l.i + 1) (l.charter.config.producers - l.i)) ≡ l.fn.text.items ++ queues_lists (setting l.charter) (g.T.Lists.lists l.stores);
  within : l.i ≤ l.charter.config.producers;
  begins : Begins l.fn.text.items l.text.items;
}
