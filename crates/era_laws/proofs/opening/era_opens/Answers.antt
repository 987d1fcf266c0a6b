use Rattle.era_laws.proofs.OpenLaws as laws
use Rattle.era_laws.proofs.opening.era_opens.Goals as goal

pub returns : goal.returns
returns c = laws.era_opens c.slot_law.ensures
