use Rattle.shard_entities.specs.Placed.{AreFirst, AreCounts}
use Rattle.shard_entities.proofs.places.all_spots.Given as goal

abbrev pub invariant-loop-at : goal.invariant-loop-at
invariant-loop-at l = AreFirst l.fn.charter l.at l.spots.items × AreCounts l.fn.charter l.at l.counts
