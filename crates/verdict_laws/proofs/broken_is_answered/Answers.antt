use Rattle.verdict_laws.proofs.MeaningLaws as laws
use Rattle.verdict_laws.proofs.broken_is_answered.Goals as goal

pub returns : goal.returns
returns c = laws.broken_is_answered
