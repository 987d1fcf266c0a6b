use Rattle.std.proofs.Common.{length}
use Rattle.judge_run.proofs.InputLaws.{Passed}
use Rattle.judge_run.proofs.input.cut.Given as goal

abbrev pub invariant-loop-line : goal.invariant-loop-line
invariant-loop-line l = Passed l.input l.rest

abbrev pub decreases-loop-line : goal.decreases-loop-line
decreases-loop-line l = length l.rest
