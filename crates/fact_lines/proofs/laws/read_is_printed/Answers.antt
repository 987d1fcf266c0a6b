use Rattle.fact_lines.proofs.FactLaws as laws
use Rattle.fact_lines.proofs.laws.read_is_printed.Goals as goal

pub returns : goal.returns
returns c = laws.read_is_printed
