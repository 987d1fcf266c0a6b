use Rattle.std.proofs.Common.{◌≡◌, ◌≤◌, ◌-◌}
use Rattle.std.specs.Prelude.{filter}
use Rattle.yard_model.specs.ShardSet.{has}
use Rattle.yard_model.specs.Words.{numbers}
use Rattle.coordinator_actor.specs.Parts.{shards_in}
use Rattle.coordinator_actor.proofs.coordinator.Coordinator.has_none_in_force.Given as goal

abbrev pub invariant-loop-place : goal.invariant-loop-place
invariant-loop-place l = record {
  left : filter (has l.shards) (numbers l.place (l.count - l.place)) ≡ shards_in l.shards l.self.state;
  within : l.place ≤ l.count;
}
