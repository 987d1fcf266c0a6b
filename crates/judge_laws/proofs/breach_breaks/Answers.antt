use Rattle.judge_laws.proofs.BrokenLaws as laws
use Rattle.judge_laws.proofs.breach_breaks.Goals as goal

pub returns : goal.returns
returns c = laws.breach_breaks
