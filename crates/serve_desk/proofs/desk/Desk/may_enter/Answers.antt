use Rattle.std.proofs.Common.{◌∙◌, sym}
use Rattle.yard_model.specs.declared.charter.Order.TheVariants as order
use Rattle.serve_desk.proofs.DeskLaws.{may_not, may_not_over, may_so}
use Rattle.serve_desk.proofs.desk.Desk.may_enter.Goals as goal

pub returns-then-not-is_order-clause-value : goal.returns-then-not-is_order-clause-value
returns-then-not-is_order-clause-value c = λ n.
    may_not c.args.self.now n (order.Send c.args.producer c.args.entity.now c.args.command.now) (sym (c.is_order.ensures.value c.args.entity.now) ∙ c.if-not-is_order.true)

pub returns-then-is_over_with-clause-value : goal.returns-then-is_over_with-clause-value
returns-then-is_over_with-clause-value c = λ n.
    may_not_over c.args.self.now n (order.Send c.args.producer c.args.entity.now c.args.command.now) (sym (c.is_order.ensures.value c.args.entity.now) ∙ c.if-not-is_order.false)
    (sym (c.is_over_with.ensures n c.args.command.now) ∙ c.if-is_over_with.true)

pub returns-clause-value : goal.returns-clause-value
returns-clause-value c = λ n.
    may_so c.args.self.now n (order.Send c.args.producer c.args.entity.now c.args.command.now) c.is_full.result (sym (c.is_order.ensures.value c.args.entity.now) ∙ c.if-not-is_order.false)
    (sym (c.is_over_with.ensures n c.args.command.now) ∙ c.if-is_over_with.false) c.is_full.ensures.value
