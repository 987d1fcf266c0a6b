use Rattle.std.proofs.Common.{sym, subst}
use Rattle.serve_desk.specs.Desks.{IsDesk}
use Rattle.serve_desk.proofs.DeskLaws.{desk_begun}
use Rattle.serve_desk.proofs.desk.Desk.new.Goals as goal

pub invariant_of-result : goal.invariant_of-result
invariant_of-result c =
    subst (λ os. IsDesk (record { config = c.args.config; orders = os }) c.new.result.entries 0) (sym c.in_ok-with_capacity.ensures.items) (desk_begun c.args.config c.new.result.entries c.requires c.new.ensures.empty)
