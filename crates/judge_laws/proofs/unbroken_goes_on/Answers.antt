use Rattle.judge_laws.proofs.BrokenLaws as laws
use Rattle.judge_laws.proofs.unbroken_goes_on.Goals as goal

pub returns : goal.returns
returns c = laws.unbroken_goes_on
