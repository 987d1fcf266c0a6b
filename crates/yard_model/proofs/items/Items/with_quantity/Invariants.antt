use Rattle.std.proofs.Common.{◌≡◌, ◌++◌, length, drop}
use Rattle.yard_model.specs.Behaviour.{items_adjusted}
use Rattle.yard_model.proofs.items.Items.with_quantity.Given as goal

abbrev pub invariant-loop-x : goal.invariant-loop-x
invariant-loop-x l = record {
  built : l.items ++ items_adjusted l.item (drop l.x-index l.x-items) ≡ items_adjusted l.item l.x-items;
  count : length l.items ≡ l.x-index;
}
