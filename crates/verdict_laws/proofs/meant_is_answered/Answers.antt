use Rattle.verdict_laws.proofs.MeaningLaws as laws
use Rattle.verdict_laws.proofs.meant_is_answered.Goals as goal

pub returns : goal.returns
returns c = laws.meant_is_answered
