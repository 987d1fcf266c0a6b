use Rattle.verdict_laws.proofs.MeaningLaws as laws
use Rattle.verdict_laws.proofs.safe_is_answered.Goals as goal

pub returns : goal.returns
returns c = laws.safe_is_answered
