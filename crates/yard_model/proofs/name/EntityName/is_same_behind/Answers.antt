use Rattle.std.proofs.Common.{sym, refl, ◌∙◌}
use Rattle.yard_model.proofs.FrontLaws.{eq_then, eq_else}
use Rattle.yard_model.proofs.name.EntityName.is_same_behind.Goals as goal

pub returns-then-has_word : goal.returns-then-has_word
returns-then-has_word c = c.has_same_half.ensures ∙ eq_then 8 16 c.args.self.now c.args.other.now c.has_word.ensures.names.0 c.has_word.ensures.names.1 refl (sym c.has_word.ensures.same ∙ c.if-has_word.true)

pub returns-else-has_word : goal.returns-else-has_word
returns-else-has_word c = c.if-has_word.false ∙ eq_else 8 16 c.args.self.now c.args.other.now c.has_word.ensures.names.0 c.has_word.ensures.names.1 refl (sym c.has_word.ensures.same ∙ c.if-has_word.false)
