use Rattle.judge_laws.proofs.QuietLaws as laws
use Rattle.judge_laws.proofs.quiet_says_nothing.Goals as goal

pub returns : goal.returns
returns c = laws.quiet_says_nothing
