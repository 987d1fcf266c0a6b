use Rattle.judge_laws.proofs.BreachLaws as laws
use Rattle.judge_laws.proofs.breach_is_judged.Goals as goal

pub returns : goal.returns
returns c = laws.breach_is_judged
