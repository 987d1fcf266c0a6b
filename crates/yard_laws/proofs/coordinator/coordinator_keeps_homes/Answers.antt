use Rattle.yard_laws.proofs.HomeLaws as laws
use Rattle.yard_laws.proofs.coordinator.coordinator_keeps_homes.Goals as goal

pub returns : goal.returns
returns c = laws.coordinator_keeps_homes
