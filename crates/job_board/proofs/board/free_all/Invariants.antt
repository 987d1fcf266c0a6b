use Rattle.std.proofs.Common.{◌-◌, length}
use Rattle.job_board.proofs.BoardLaws.{Clearing}
use Rattle.job_board.proofs.board.free_all.Given as goal

abbrev pub invariant-loop-job : goal.invariant-loop-job
invariant-loop-job l = Clearing l.fn.given l.fn.states.items l.fn.free l.states.items l.free l.job

abbrev pub decreases-loop-job : goal.decreases-loop-job
decreases-loop-job l = length l.fn.states.items - l.job
