use Rattle.std.proofs.Common.{sym}
use Rattle.fact_lines.proofs.NumberLaws.{is_name}
use Rattle.fact_lines.proofs.entries.is_entity.Goals as goal

pub returns : goal.returns
returns c = sym (is_name c.args.name.now c.bytes-bytes.ensures.name)
