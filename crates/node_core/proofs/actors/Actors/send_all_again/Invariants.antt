use Rattle.node_core.specs.Again.{ProducersSent}
use Rattle.node_core.proofs.actors.Actors.send_all_again.Given as goal

abbrev pub invariant-loop-p : goal.invariant-loop-p
invariant-loop-p g l = ProducersSent l.p l.fn.self l.self l.fn.out l.out
