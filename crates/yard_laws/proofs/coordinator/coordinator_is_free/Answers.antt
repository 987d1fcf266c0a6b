use Rattle.yard_laws.proofs.HomeLaws as laws
use Rattle.yard_laws.proofs.coordinator.coordinator_is_free.Goals as goal

pub returns : goal.returns
returns c = laws.coordinator_is_free
