use Rattle.std.proofs.Common.{◌≡◌, ◌≤◌, ℕ}
use Rattle.std.specs.Prelude.{◌&&◌, nat_lt}
use Rattle.yard_model.specs.Coordinator.{home_of}
use Rattle.yard_model.specs.ShardSet.{has}
use Rattle.yard_model.specs.Words.{is_at}
use Rattle.coordinator_actor.proofs.coordinator.Coordinator.homes_of.Given as goal

abbrev pub invariant-loop-place : goal.invariant-loop-place
invariant-loop-place l = record {
  each : (t : ℕ) → has l.homes t ≡ (nat_lt t l.place && is_at l.r (home_of l.self.state t));
  within : l.place ≤ l.count;
}
