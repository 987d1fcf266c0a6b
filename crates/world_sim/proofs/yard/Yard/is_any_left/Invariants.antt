use Rattle.world_sim.proofs.LeftLaws.{NoneLeft}
use Rattle.world_sim.proofs.yard.Yard.is_any_left.Given as goal

abbrev pub invariant-loop-i : goal.invariant-loop-i
invariant-loop-i g l = record { none : NoneLeft l.fn.self l.i }
