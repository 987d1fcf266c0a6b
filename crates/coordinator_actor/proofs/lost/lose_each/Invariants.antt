use Rattle.std.proofs.Common.{◌≡◌, ◌≤◌, ◌+◌, ◌++◌, drop, length}
use Rattle.std.specs.List.{flat_map}
use Rattle.yard_model.specs.Move.{item_of}
use Rattle.handoff_steps.specs.Places.{all_shards, moving}
use Rattle.coordinator_actor.specs.Parts.{at_shard, lost_posts}
use Rattle.coordinator_actor.proofs.LostLaws.{lost_below}
use Rattle.coordinator_actor.proofs.lost.lose_each.Given as goal

abbrev pub invariant-loop-place : goal.invariant-loop-place
invariant-loop-place l = record {
  stamp : l.round.stamp ≡ l.fn.round.stamp;
  left : moving l.round ≡ lost_below l.place l.r (moving l.fn.round);
  told : l.out.items ++ flat_map item_of (flat_map (λ s. flat_map (lost_posts l.who l.fn.round.stamp l.r) (at_shard s (moving l.fn.round))) (drop l.place all_shards)) ≡ l.fn.out.items ++ flat_map item_of (flat_map (lost_posts l.who l.fn.round.stamp l.r) (moving l.fn.round));
  spare : l.fn.out.spare + length (flat_map item_of (flat_map (λ s. flat_map (lost_posts l.who l.fn.round.stamp l.r) (at_shard s (moving l.fn.round))) (drop l.place all_shards))) ≡ l.out.spare + length (flat_map item_of (flat_map (lost_posts l.who l.fn.round.stamp l.r) (moving l.fn.round)));
  within : l.place ≤ 128;
}
