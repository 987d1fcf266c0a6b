use Rattle.world_sim.proofs.LeftLaws.{Counted}
use Rattle.world_sim.proofs.yard.Yard.outstanding_in_all.Given as goal

abbrev pub invariant-loop-i : goal.invariant-loop-i
invariant-loop-i g l = record { counted : Counted l.fn.self l.i l.total }
