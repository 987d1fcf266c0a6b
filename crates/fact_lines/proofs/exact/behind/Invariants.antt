use Rattle.std.proofs.Common.{◌≡◌, take}
use Rattle.fact_lines.proofs.exact.behind.Given as goal

abbrev pub invariant-loop-i : goal.invariant-loop-i
invariant-loop-i l = record { same : take l.i l.line ≡ take l.i l.word }
