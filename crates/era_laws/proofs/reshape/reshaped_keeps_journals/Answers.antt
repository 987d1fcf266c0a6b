use Rattle.era_laws.proofs.ShapeLaws as laws
use Rattle.era_laws.proofs.reshape.reshaped_keeps_journals.Goals as goal

pub returns : goal.returns
returns c = laws.reshaped_keeps_journals
