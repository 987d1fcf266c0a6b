use Rattle.state_lines.proofs.ToldLaws as laws
use Rattle.state_lines.proofs.laws.read_is_told.Goals as goal

pub returns : goal.returns
returns c = laws.read_is_told
