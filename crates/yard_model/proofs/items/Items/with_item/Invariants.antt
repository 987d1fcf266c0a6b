use Rattle.std.proofs.Common.{◌≡◌, ◌+◌, ◌++◌, length, drop}
use Rattle.std.specs.Prelude.{if◌then◌else◌}
use Rattle.yard_model.specs.Behaviour.{item_among}
use Rattle.yard_model.proofs.items.Items.with_item.Given as goal

abbrev pub invariant-loop-x : goal.invariant-loop-x
invariant-loop-x l = record {
  built : l.items ++ (if l.placed then drop l.x-index l.x-items else item_among l.item (drop l.x-index l.x-items)) ≡ item_among l.item l.x-items;
  count : length l.items ≡ l.x-index + (if l.placed then 1 else 0);
}
