use Rattle.actor_laws.proofs.CoordinatorLaws as laws
use Rattle.actor_laws.proofs.coordinator.coordinator_takes.Goals as goal

pub returns : goal.returns
returns c = laws.coordinator_takes
