use Rattle.world_sim.proofs.StoresLaws.{Stopping}
use Rattle.world_sim.proofs.yard.Yard.stop.Given as goal

abbrev pub invariant-loop-i : goal.invariant-loop-i
invariant-loop-i g l = record { stopping : Stopping l.fn.self l.self l.i }
