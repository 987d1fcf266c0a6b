use Rattle.judge_laws.proofs.BrokenLaws as laws
use Rattle.judge_laws.proofs.broken_is_first.Goals as goal

pub returns : goal.returns
returns c = laws.broken_is_first
