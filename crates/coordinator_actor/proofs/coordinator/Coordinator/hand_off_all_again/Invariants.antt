use Rattle.std.proofs.Common.{◌≡◌, ◌≤◌, ◌+◌, drop, length, ◌++◌}
use Rattle.std.specs.List.{flat_map}
use Rattle.yard_model.specs.Coordinator.{hand_off_again}
use Rattle.yard_model.specs.Move.{item_of}
use Rattle.handoff_steps.specs.Places.{all_shards}
use Rattle.coordinator_actor.specs.Parts.{at_shard}
use Rattle.coordinator_actor.proofs.coordinator.Coordinator.hand_off_all_again.Given as goal

abbrev pub invariant-loop-place : goal.invariant-loop-place
invariant-loop-place l = record {
  told : l.out.items ++ flat_map item_of (flat_map (λ s. flat_map (hand_off_again l.self.state) (at_shard s l.self.state.moving)) (drop l.place all_shards)) ≡ l.fn.out.items ++ flat_map item_of (flat_map (hand_off_again l.self.state) l.self.state.moving);
  spare : l.fn.out.spare + length (flat_map item_of (flat_map (λ s. flat_map (hand_off_again l.self.state) (at_shard s l.self.state.moving)) (drop l.place all_shards))) ≡ l.out.spare + length (flat_map item_of (flat_map (hand_off_again l.self.state) l.self.state.moving));
  within : l.place ≤ 128;
}
