use Rattle.settle_laws.proofs.Ordered as ordered
use Rattle.settle_laws.proofs.worlds.settle_line_settles.Goals as goal

pub returns : goal.returns
returns c = ordered.settle_line_settles c.orders_settle.ensures
