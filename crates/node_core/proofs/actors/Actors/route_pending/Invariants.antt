use Rattle.std.proofs.Common.{length}
use Rattle.node_core.specs.Calling.{Sends}
use Rattle.node_core.proofs.actors.Actors.route_pending.Given as goal

abbrev pub invariant-loop-s : goal.invariant-loop-s
invariant-loop-s g l = Sends l.fn.self l.self l.fn.out l.out

abbrev pub decreases-loop-s : goal.decreases-loop-s
decreases-loop-s g l = length l.self.pending.numbers
