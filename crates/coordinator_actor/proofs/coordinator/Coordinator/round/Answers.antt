use Rattle.std.proofs.Common.{◌≡◌, ◌≤◌, length, ap, subst}
use Rattle.std.specs.List.{flat_map}
use Rattle.handoff_steps.specs.Places.{all_shards}
use Rattle.coordinator_actor.specs.Held.{Held}
use Rattle.coordinator_actor.specs.Parts.{at_shard}
use Rattle.coordinator_actor.proofs.coordinator.Coordinator.round.Goals as goal

pub returns-clause-moving : goal.returns-clause-moving
returns-clause-moving c = ap (λ (h : Held). h.state.moving) c.self.view_is

pub returns-clause-few : goal.returns-clause-few
returns-clause-few c = subst (λ (h : Held). length h.state.moving ≤ 128) c.self.view_is c.stamp.ensures.few

pub returns-clause-rising : goal.returns-clause-rising
returns-clause-rising c = subst (λ (h : Held). h.state.moving ≡ flat_map (λ s. at_shard s h.state.moving) all_shards) c.self.view_is c.stamp.ensures.rising
