use Rattle.std.proofs.Common.{◌∙◌, ap, subst, sym, length}
use Rattle.yard_model.specs.Script.{Script, pairs_in}
use Rattle.serve_laws.specs.Hearings.{IsHeard}
use Rattle.serve_desk.specs.Desks.{IsDesk}
use Rattle.serve_desk.proofs.DeskLaws.{desk_more, with_command}
use Rattle.serve_desk.proofs.desk.Desk.add.Goals as goal

pub invariant_of-self-2 : goal.invariant_of-self-2
invariant_of-self-2 c =
    let s : Script = record { config = c.self.inside.config; orders = c.self.inside.orders.items } in
    let heard : IsHeard (with_command s c.args.line c.args.producer c.args.entity.now c.args.command.now) =
    subst (λ (v : Script). IsHeard (with_command v c.args.line c.args.producer c.args.entity.now c.args.command.now)) (sym c.self.view_is) c.requires in
    subst (λ os. IsDesk (record { config = c.self.inside.config; orders = os }) c.put.new.table.entries c.pairs_with-pairs.result) (sym c.in_ok-push.ensures.items)
    (desk_more s c.self.inside.plans.entries c.put.new.table.entries c.self.inside.pairs c.pairs_with-pairs.result c.args.line c.args.producer c.args.entity.now c.args.command.now c.self.invariant c.in_default.ensures.more
    heard (c.pairs_with-pairs.ensures c.args.line c.args.command.now ∙ ap (λ (v : Script). length (pairs_in (with_command v c.args.line c.args.producer c.args.entity.now c.args.command.now).orders)) (sym c.self.view_is)))
