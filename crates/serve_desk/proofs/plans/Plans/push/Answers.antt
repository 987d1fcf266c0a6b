use Rattle.std.proofs.Common.{◌<◌, ◌∙◌, length, arith, subst, List}
use Rattle.yard_model.specs.declared.event.Command.{Command}
use Rattle.serve_desk.specs.Rows.{RowHasOneMore}
use Rattle.serve_desk.proofs.RowLaws.{on_err, row_pushed, row_stays}
use Rattle.serve_desk.proofs.plans.Plans.push.Goals as goal

pub returns-in_err-push-clause-kept : goal.returns-in_err-push-clause-kept
returns-in_err-push-clause-kept c =
    let within : c.get-place.result < length c.self.inside.lists.items = omega (arith, c.self.invariant, c.get-place.ensures.value, c.get-place.ensures.range.1) in
    on_err c.from_residual.result (row_stays c.self.inside.lists.items c.index_mut.result.now c.push.new.self c.get-place.result within c.index_mut.ensures.value c.in_err-push.ensures.items ∙ c.self.view_is)

pub returns-clause-more : goal.returns-clause-more
returns-clause-more c =
    let within : c.get-place.result < length c.self.inside.lists.items = omega (arith, c.self.invariant, c.get-place.ensures.value, c.get-place.ensures.range.1) in
    let new : List (List Command) = Rattle.serve_desk.specs.contracts.plans.Plans.the_view (record { lists = Rattle.std.specs.Vec.with_item c.self.inside.lists c.get-place.result c.push.new.self }) in
    subst (λ (v : List (List Command)). RowHasOneMore v new c.args.producer c.args.command.now) c.self.view_is
    (subst (λ p. RowHasOneMore (Rattle.serve_desk.specs.contracts.plans.Plans.the_view c.self.inside) new p c.args.command.now) c.get-place.ensures.value
    (row_pushed c.self.inside.lists.items c.index_mut.result.now c.push.new.self c.get-place.result c.args.command.now within c.index_mut.ensures.value c.in_ok-push.ensures.items))
