use Rattle.actor_laws.proofs.CoordinatorGuards as laws
use Rattle.actor_laws.proofs.coordinator.coordinator_is_guarded.Goals as goal

pub returns : goal.returns
returns c = laws.coordinator_is_guarded
