use Rattle.std.proofs.Common.{◌≡◌, ◌≤◌, ◌++◌, length, drop}
use Rattle.yard_model.specs.Behaviour.{items_without}
use Rattle.yard_model.proofs.items.Items.without_item.Given as goal

abbrev pub invariant-loop-x : goal.invariant-loop-x
invariant-loop-x l = record {
  built : l.items ++ items_without l.number (drop l.x-index l.x-items) ≡ items_without l.number l.x-items;
  count : length l.items ≤ l.x-index;
}
