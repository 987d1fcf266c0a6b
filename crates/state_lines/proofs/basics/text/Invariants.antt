use Rattle.std.proofs.Common.{◌≡◌, ◌≤◌, drop, length}
use Rattle.fact_lines.specs.Reads.{text_at}
use Rattle.state_lines.proofs.basics.text.Given as goal

abbrev pub invariant-loop-i : goal.invariant-loop-i
invariant-loop-i l = record {
  within : l.i ≤ length l.line;
  rest : text_at (drop l.i l.text) (drop l.i l.line) ≡ text_at l.text l.line;
}
