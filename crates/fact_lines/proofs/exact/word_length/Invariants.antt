use Rattle.std.proofs.Common.{◌≤◌, ◌-◌, length}
use Rattle.fact_lines.proofs.exact.word_length.Given as goal

abbrev pub invariant-loop-i : goal.invariant-loop-i
invariant-loop-i l = record { within : l.i ≤ length l.line }

abbrev pub decreases-loop-i : goal.decreases-loop-i
decreases-loop-i l = length l.line - l.i
