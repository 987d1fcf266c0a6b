use Rattle.std.proofs.Common.{subst, List}
use Rattle.yard_model.specs.declared.event.Command.{Command}
use Rattle.serve_desk.specs.Rows.{RowHasOneMore}
use Rattle.serve_desk.proofs.RowLaws.{row_begun}
use Rattle.serve_desk.proofs.plans.Plans.first.Goals as goal

pub returns : goal.returns
returns c =
    row_begun c.push.new.self c.args.producer c.args.command.now
    (subst (λ (v : List (List Command)). RowHasOneMore v c.push.new.self c.args.producer c.args.command.now) c.in_ok-no_lists.ensures c.in_ok-push.ensures.more)
