use Rattle.std.proofs.Common.{◌≡◌, ◌≤◌, length, take, drop, map}
use Rattle.yard_model.specs.Coordinator.{with_pick}
use Rattle.least_shard.specs.Seen.{seen, seen_all}
use Rattle.least_shard.proofs.rebalance.count_pick.Given as goal

abbrev pub invariant-loop-place : goal.invariant-loop-place
invariant-loop-place l = record {
  within : l.place ≤ length l.tallies;
  end : l.place-end ≡ length l.tallies;
  size : length l.tallies ≡ length l.fn.tallies;
  done : seen_all (take l.place l.tallies) ≡ map (with_pick (seen l.from) (seen l.to)) (seen_all (take l.place l.fn.tallies));
  rest : drop l.place l.tallies ≡ drop l.place l.fn.tallies;
}
