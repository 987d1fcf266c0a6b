use Rattle.node_core.specs.Slots.{queue_slots}
use Rattle.node_core.proofs.SlotLaws.{IsReached, queues_from}
use Rattle.node_core.proofs.actors.Actors.held_queue.Given as goal

abbrev pub invariant-loop-place : goal.invariant-loop-place
invariant-loop-place g l = IsReached (queue_slots l.self.script) (queues_from l.self.script l.place) l.self.state l.left l.at
