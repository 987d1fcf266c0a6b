use Rattle.actor_laws.proofs.CoordinatorLaws.{coordinator_keeps}
use Rattle.actor_laws.proofs.coordinator.coordinator_keeps.Goals as goal

pub returns : goal.returns
returns c = coordinator_keeps
