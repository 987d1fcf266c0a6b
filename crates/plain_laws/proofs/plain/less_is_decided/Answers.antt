use Rattle.plain_laws.proofs.Booleans as laws
use Rattle.plain_laws.proofs.plain.less_is_decided.Goals as goal

pub returns : goal.returns
returns c = λ a b. (laws.below a b, laws.not_below a b)
