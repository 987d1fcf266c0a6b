use Rattle.judge_laws.proofs.BrokenLaws as laws
use Rattle.judge_laws.proofs.safe_is_unbroken.Goals as goal

pub returns : goal.returns
returns c = laws.safe_is_unbroken
