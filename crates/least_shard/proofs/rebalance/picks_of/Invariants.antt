use Rattle.std.proofs.Common.{◌≡◌, ◌≤◌, ◌-◌}
use Rattle.std.specs.Prelude.{fold}
use Rattle.yard_model.specs.ShardSet.{with_shard, set_of}
use Rattle.yard_model.specs.Coordinator.{picks}
use Rattle.least_shard.specs.Fair.{IsFair, CountsWithin}
use Rattle.least_shard.specs.Seen.{seen_all}
use Rattle.least_shard.proofs.rebalance.picks_of.Given as goal

abbrev pub invariant-loop-left : goal.invariant-loop-left
invariant-loop-left l = record {
  fits : l.left ≤ 255;
  counts : CountsWithin (1000 - l.left) (seen_all l.tallies);
  fair : IsFair (seen_all l.fn.tallies) → IsFair (seen_all l.tallies);
  same : IsFair (seen_all l.fn.tallies) → fold with_shard l.picked (picks l.left (seen_all l.tallies)) ≡ set_of (picks l.limit (seen_all l.fn.tallies));
}

abbrev pub decreases-loop-left : goal.decreases-loop-left
decreases-loop-left l = l.left
