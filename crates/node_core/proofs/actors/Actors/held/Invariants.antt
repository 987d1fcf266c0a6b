use Rattle.node_core.specs.Slots.{slots}
use Rattle.node_core.proofs.SlotLaws.{IsReached, slots_from}
use Rattle.node_core.proofs.actors.Actors.held.Given as goal

abbrev pub invariant-loop-s : goal.invariant-loop-s
invariant-loop-s g l = IsReached (slots l.self.script) (slots_from l.self.script l.s) l.self.state l.left l.at
