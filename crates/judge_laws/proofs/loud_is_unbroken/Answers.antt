use Rattle.judge_laws.proofs.QuietLaws as laws
use Rattle.judge_laws.proofs.loud_is_unbroken.Goals as goal

pub returns : goal.returns
returns c = laws.loud_is_unbroken
