use Rattle.work_pulling.specs.Loops.{Draining}
use Rattle.work_pulling.proofs.lines.pump.Given as goal

abbrev pub invariant-loop : goal.invariant-loop
invariant-loop l = Draining l.fn.cluster l.cluster l.fn.out l.out l.counter l.count
