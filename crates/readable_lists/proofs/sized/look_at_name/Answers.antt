use Rattle.fact_lines.proofs.NumberLaws.{is_name}
use Rattle.readable_lists.proofs.sized.look_at_name.Goals as goal

pub returns : goal.returns
returns c = is_name c.args.name.now c.bytes.ensures.name
