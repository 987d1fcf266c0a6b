use Rattle.std.proofs.Common.{◌≡◌, ◌≤◌, length, take}
use Rattle.least_shard.specs.Spread.{shares_of}
use Rattle.least_shard.specs.Seen.{seen_all}
use Rattle.least_shard.proofs.rebalance.tallies_of.Given as goal

abbrev pub invariant-loop-place : goal.invariant-loop-place
invariant-loop-place l = record {
  within : l.place ≤ length l.loads;
  end : l.place-end ≡ length l.loads;
  done : seen_all (take l.place l.tallies) ≡ shares_of (take l.place l.loads);
}
