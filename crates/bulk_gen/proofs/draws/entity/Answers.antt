use Rattle.std.proofs.Common.{◌∙◌}
use Rattle.bulk_gen.proofs.DrawLaws.{name_short, name_long}
use Rattle.bulk_gen.proofs.draws.entity.Goals as goal

pub returns-then-n-lt10 : goal.returns-then-n-lt10
returns-then-n-lt10 c = c.name.ensures ∙ name_short c.args.n c.if-n-lt10.true

pub returns-else-n-lt10 : goal.returns-else-n-lt10
returns-else-n-lt10 c = c.name-else-n-lt10.ensures ∙ name_long c.args.n c.if-n-lt10.false c.requires
