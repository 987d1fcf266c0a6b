use Rattle.era_laws.proofs.OpenLaws as laws
use Rattle.era_laws.proofs.opening.opening_is_quiet.Goals as goal

pub returns : goal.returns
returns c = laws.opening_is_quiet c.slot_law.ensures
