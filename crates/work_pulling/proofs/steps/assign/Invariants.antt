use Rattle.std.proofs.Common.{◌-◌}
use Rattle.work_pulling.specs.Loops.{Assigning}
use Rattle.work_pulling.proofs.steps.assign.Given as goal

abbrev pub invariant-loop-job : goal.invariant-loop-job
invariant-loop-job l = Assigning l.fn.cluster l.cluster l.fn.out l.out l.job

abbrev pub decreases-loop-job : goal.decreases-loop-job
decreases-loop-job l = l.queued - l.job
