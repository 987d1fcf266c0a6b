use Rattle.std.proofs.Common.{◌≡◌, ◌<◌, ◌≤◌, length}
use Rattle.least_shard.proofs.BestLaws.{IsLeast}
use Rattle.least_shard.proofs.choice.choose.Given as goal

abbrev pub invariant-loop-place : goal.invariant-loop-place
invariant-loop-place l = record {
  end : l.place-end ≡ length l.loads;
  within : l.place ≤ length l.loads;
  some : 0 < length l.loads;
  least : IsLeast l.loads l.place l.least;
}
