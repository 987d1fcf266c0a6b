use Rattle.std.proofs.Common.{◌≡◌, ◌+◌, drop, length}
use Rattle.bulk_gen.specs.Bulk.{with_lines}
use Rattle.bulk_gen.proofs.lines.push_lines.Given as goal

abbrev pub invariant-loop-order : goal.invariant-loop-order
invariant-loop-order l = record {
  few : length l.lines.items ≡ length l.initial.lines.items + l.order-index;
  lines : with_lines l.lines.items (drop l.order-index l.orders) ≡ with_lines l.initial.lines.items l.orders;
}
