use Rattle.era_laws.proofs.ReshapeLaws as laws
use Rattle.era_laws.proofs.reshape.reshaped_is_lawful.Goals as goal

pub returns : goal.returns
returns c = laws.reshaped_is_lawful
