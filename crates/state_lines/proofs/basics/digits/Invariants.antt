use Rattle.std.proofs.Common.{◌≡◌, ◌≤◌, ◌-◌, drop, length}
use Rattle.fact_lines.specs.Reads.{digits_from}
use Rattle.state_lines.proofs.basics.digits.Given as goal

abbrev pub invariant-loop-i : goal.invariant-loop-i
invariant-loop-i l = record {
  within : l.i ≤ length l.line;
  small : l.value ≤ l.top;
  rest : digits_from l.value (drop l.i l.line) ≡ digits_from 0 l.line;
}

abbrev pub decreases-loop-i : goal.decreases-loop-i
decreases-loop-i l = length l.line - l.i
