use Rattle.trace_text.proofs.PartLaws.{parts_are}
use Rattle.trace_text.proofs.parts.parts_law.Goals as goal

pub returns : goal.returns
returns c = λ set lists. parts_are set lists
