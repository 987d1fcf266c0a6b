use Rattle.node_core.specs.Again.{StartedAgain}
use Rattle.node_core.proofs.actors.Actors.start_all_again.Given as goal

abbrev pub invariant-loop-s : goal.invariant-loop-s
invariant-loop-s g l = StartedAgain l.s l.fn.self l.self (g.L.Leases.meaning l.fn.leases) (g.L.Leases.meaning l.leases) l.fn.out l.out
