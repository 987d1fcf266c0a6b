use Rattle.node_core.specs.Releasing.{Releasing}
use Rattle.node_core.proofs.actors.Actors.release_all.Given as goal

abbrev pub invariant-loop : goal.invariant-loop
invariant-loop g l = Releasing l.fn.s l.counter l.fn.self l.self l.fn.out l.out
