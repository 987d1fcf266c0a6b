use Rattle.plain_laws.proofs.Booleans as laws
use Rattle.plain_laws.proofs.plain.same_name_is_equal.Goals as goal

pub returns : goal.returns
returns c = laws.same_name
