use Rattle.fact_lines.proofs.EntryLaws as laws
use Rattle.fact_lines.proofs.laws.entries_are_readable.Goals as goal

pub returns : goal.returns
returns c = laws.entries_are_readable
