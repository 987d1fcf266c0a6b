use Rattle.std.proofs.Common.{refl}
use Rattle.worked_scripts.proofs.steady_producers.Goals as goal

pub returns-clause-orders : goal.returns-clause-orders
returns-clause-orders c = refl

pub returns-clause-steady : goal.returns-clause-steady
returns-clause-steady c = refl

pub returns-clause-worked : goal.returns-clause-worked
returns-clause-worked c = refl

pub returns-clause-settled : goal.returns-clause-settled
returns-clause-settled c = refl
