use Rattle.shard_entities.specs.Placed.{AreOrdered}
use Rattle.shard_entities.proofs.places.all_ordered.Given as goal

abbrev pub invariant-loop-at : goal.invariant-loop-at
invariant-loop-at l = AreOrdered l.fn.charter l.at l.order.items
