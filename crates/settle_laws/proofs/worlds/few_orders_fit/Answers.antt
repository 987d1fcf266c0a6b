use Rattle.settle_laws.proofs.Few as few
use Rattle.settle_laws.proofs.worlds.few_orders_fit.Goals as goal

pub returns : goal.returns
returns c d version lists = few.few_orders_fit d version lists
