use Rattle.std.proofs.Common.{◌≡◌, ◌++◌, ◌-◌, ◌≤◌}
use Rattle.std.specs.List.{flat_map}
use Rattle.yard_model.specs.declared.incarnation.Slot.TheVariants as slot
use Rattle.yard_model.specs.Words.{numbers}
use Rattle.yard_model.specs.Script.{setting}
use Rattle.yard_model.specs.SlotLists.{shard_list}
use Rattle.yard_model.specs.Text.{slot_lines}
use Rattle.trace_text.specs.Grown.{Begins}
use Rattle.trace_text.specs.Slots.{shards_lists}
use Rattle.trace_text.proofs.slots.push_shards.Given as goal

abbrev pub invariant-loop-i : goal.invariant-loop-i
invariant-loop-i g l = record {
  text : l.text.items ++ flat_map (λ s. slot_lines (slot.Shard s) (shard_list (g.T.Lists.lists l.stores) s)) (numbers l.i (l.charter.config.shards - l.i)) ≡ l.fn.text.items ++ shards_lists (setting l.charter) (g.T.Lists.lists l.stores);
  within : l.i ≤ l.charter.config.shards;
  begins : Begins l.fn.text.items l.text.items;
}
