use Rattle.state_lines.proofs.ToldLaws as laws
use Rattle.state_lines.proofs.laws.lines_tell.Goals as goal

pub returns : goal.returns
returns c = laws.lines_tell
