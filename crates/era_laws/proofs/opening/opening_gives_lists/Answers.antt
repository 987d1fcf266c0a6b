use Rattle.era_laws.proofs.OpenLaws as laws
use Rattle.era_laws.proofs.opening.opening_gives_lists.Goals as goal

pub returns : goal.returns
returns c = laws.opening_gives_lists c.slot_law.ensures
