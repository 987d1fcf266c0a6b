use Rattle.fact_lines.proofs.FactLaws as laws
use Rattle.fact_lines.proofs.laws.printed_is_read.Goals as goal

pub returns : goal.returns
returns c = laws.printed_is_read
