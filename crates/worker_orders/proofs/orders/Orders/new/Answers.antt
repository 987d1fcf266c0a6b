use Rattle.worker_orders.proofs.Cursors.{first}
use Rattle.worker_orders.proofs.orders.Orders.new.Goals as goal

pub invariant_of-result : goal.invariant_of-result
invariant_of-result c = first c.args.node c.args.charter.now.orders
