use Rattle.std.proofs.Common.{◌≡◌, ◌<◌, ◌≤◌, ◌-◌, take, length}
use Rattle.std.specs.Prelude.{decimal}
use Rattle.fact_lines.proofs.exact.digits.Given as goal

abbrev pub invariant-loop-i : goal.invariant-loop-i
invariant-loop-i l = record {
  within : l.i ≤ length l.line;
  some : 0 < l.value;
  small : l.value ≤ l.top;
  spelled : take l.i l.line ≡ decimal l.value;
}

abbrev pub decreases-loop-i : goal.decreases-loop-i
decreases-loop-i l = length l.line - l.i
