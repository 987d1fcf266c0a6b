use Rattle.std.proofs.Common.{◌≡◌, ◌≤◌, length, drop, map, Some}
use Rattle.std.specs.Prelude.{fold}
use Rattle.yard_model.specs.Coordinator.{largest}
use Rattle.least_shard.specs.Seen.{seen, seen_all}
use Rattle.least_shard.proofs.PickLaws.{bigger}
use Rattle.least_shard.proofs.rebalance.most.Given as goal

abbrev pub invariant-loop-place : goal.invariant-loop-place
invariant-loop-place l = record {
  within : l.place ≤ length l.tallies;
  end : l.place-end ≡ length l.tallies;
  rest : largest (seen_all l.tallies) ≡ Some (fold bigger (seen l.best) (map seen (drop l.place l.tallies)));
}
