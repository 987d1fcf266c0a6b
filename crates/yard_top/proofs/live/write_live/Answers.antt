use Rattle.yard_top.proofs.TextLaws.{gives_live}
use Rattle.yard_top.proofs.live.write_live.Goals as goal

pub returns : goal.returns
returns g c = gives_live c.args.turns c.args.seed c.args.charter.now c.write_live.result _ _ c.write_live.ensures
