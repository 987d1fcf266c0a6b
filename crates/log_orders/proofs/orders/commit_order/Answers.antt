use Rattle.std.proofs.Common.{◌≡◌}
use Rattle.log_orders.specs.Orders.{batch_of}
use Rattle.log_orders.proofs.GatherLaws.{leaves_none, rest_prefix}
use Rattle.log_orders.proofs.orders.commit_order.Goals as goal

pub returns-in_err-gather-clause-any_moment : goal.returns-in_err-gather-clause-any_moment
returns-in_err-gather-clause-any_moment g c done are rests told =
    leaves_none _ (g.met.D.Disk.timed c.args.disk.now) (λ d now. rest_prefix _ _ _ _ done (batch_of c.args.facts.now) are rests told d now)
