use Rattle.verdict_laws.proofs.MeaningLaws as laws
use Rattle.verdict_laws.proofs.unread_is_answered.Goals as goal

pub returns : goal.returns
returns c = laws.unread_is_answered
