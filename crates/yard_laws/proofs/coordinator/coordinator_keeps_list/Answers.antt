use Rattle.yard_laws.proofs.LostLaws as laws
use Rattle.yard_laws.proofs.coordinator.coordinator_keeps_list.Goals as goal

pub returns : goal.returns
returns c = laws.coordinator_keeps_list
