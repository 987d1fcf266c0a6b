use Rattle.fact_lines.proofs.FactLaws as laws
use Rattle.fact_lines.proofs.laws.texts_tell.Goals as goal

pub returns : goal.returns
returns c = laws.texts_tell
