use Rattle.work_pulling.specs.Loops.{Queueing}
use Rattle.work_pulling.proofs.steps.produce.Given as goal

abbrev pub invariant-loop : goal.invariant-loop
invariant-loop l = Queueing l.fn.cluster l.initial.cluster l.cluster l.fn.out l.out l.counter l.end
