use Rattle.std.proofs.Common.{◌≡◌, map, take, length}
use Rattle.yard_model.specs.Charter.{KeepsSends}
use Rattle.yard_model.proofs.charter.sends_of_all.Given as goal

abbrev pub invariant-loop-line : goal.invariant-loop-line
invariant-loop-line l = record {
  keeps : KeepsSends l.counts (map (λ v. v.items) l.all.items) (take l.line-index l.orders);
  long : length l.all.items ≡ 32;
}
