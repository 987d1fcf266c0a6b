use Rattle.std.proofs.Common.{◌≤◌, ◌∙◌, length, arith, ap, sym, subst, List}
use Rattle.yard_model.specs.declared.event.Command.{Command}
use Rattle.yard_model.specs.Script.{Script, plan}
use Rattle.serve_desk.proofs.DeskLaws.{plan_short}
use Rattle.serve_desk.proofs.desk.Desk.commands.Goals as goal

pub returns-clause-value : goal.returns-clause-value
returns-clause-value c =
    c.commands_in.ensures ∙ (c.self.invariant.plans c.args.producer c.args.entity.now ∙ ap (λ (v : Script). plan v c.args.producer c.args.entity.now) c.self.view_is)

pub returns-clause-few : goal.returns-clause-few
returns-clause-few c =
    let s : Script = record { config = c.self.inside.config; orders = c.self.inside.orders.items } in
    let short : length (plan s c.args.producer c.args.entity.now) ≤ length c.self.inside.orders.items = plan_short s c.args.producer c.args.entity.now in
    let few : length c.self.inside.orders.items ≤ 20000 = c.self.invariant.heard.few in
    subst (λ (l : List Command). length l ≤ 20000) (sym (c.commands_in.ensures ∙ c.self.invariant.plans c.args.producer c.args.entity.now)) (omega (arith, short, few))
