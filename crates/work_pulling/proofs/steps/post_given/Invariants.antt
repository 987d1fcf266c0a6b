use Rattle.std.proofs.Common.{◌-◌}
use Rattle.work_pulling.specs.Loops.{Posting}
use Rattle.work_pulling.proofs.steps.post_given.Given as goal

abbrev pub invariant-loop-job : goal.invariant-loop-job
invariant-loop-job l = Posting l.fn.who l.fn.cluster l.cluster l.fn.out l.out l.job

abbrev pub decreases-loop-job : goal.decreases-loop-job
decreases-loop-job l = l.queued - l.job
