use Rattle.state_lines.proofs.ToldLaws as laws
use Rattle.state_lines.proofs.laws.told_is_read.Goals as goal

pub returns : goal.returns
returns c = laws.told_is_read
