use Rattle.std.proofs.Common.{sym, refl, ◌∙◌}
use Rattle.yard_model.proofs.FrontLaws.{cmp_then, cmp_else, cmp_last}
use Rattle.yard_model.proofs.name.EntityName.cmp_half.Goals as goal

pub returns-in-Equal : goal.returns-in-Equal
returns-in-Equal c = c.word_cmp-in-Equal.ensures.order ∙ (cmp_last c.args.self.now c.args.other.now c.word_cmp.ensures.names.0 c.word_cmp.ensures.names.1 ∙ cmp_then 16 24 c.args.self.now c.args.other.now c.word_cmp.ensures.names.0 c.word_cmp.ensures.names.1 refl (sym c.word_cmp.ensures.order ∙ c.in-Equal.is))

pub returns-in_default : goal.returns-in_default
returns-in_default c = cmp_else 16 24 c.args.self.now c.args.other.now c.word_cmp.result c.word_cmp.ensures.names.0 c.word_cmp.ensures.names.1 refl c.word_cmp.ensures.order c.in_default.not-Equal
