use Rattle.std.proofs.Common.{◌∙◌, sym}
use Rattle.serve_desk.proofs.tests.answer.Goals as goal

pub hear-requires-clause-fits : goal.hear-requires-clause-fits
hear-requires-clause-fits c = sym (c.is_order.ensures.value c.in_ok-entity.entity) ∙ c.if-not-is_order.false
