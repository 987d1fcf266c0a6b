use Rattle.std.proofs.Common.{◌≡◌, ◌++◌, map, take}
use Rattle.yard_model.specs.Charter.{KeepsSends}
use Rattle.yard_model.proofs.charter.add_lines.Given as goal

abbrev pub invariant-loop-line : goal.invariant-loop-line
invariant-loop-line l = record {
  orders : l.kept.orders.items ≡ l.fn.kept.orders.items ++ take l.line-index l.lines;
  keeps : KeepsSends l.kept.counts (map (λ v. v.items) l.kept.sends.items) l.kept.orders.items;
}
