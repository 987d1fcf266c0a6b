use Rattle.verdict_laws.proofs.MeaningLaws as laws
use Rattle.verdict_laws.proofs.verdict_means.Goals as goal

pub returns : goal.returns
returns c = laws.verdict_means
