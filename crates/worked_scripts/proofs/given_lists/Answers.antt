use Rattle.std.proofs.Common.{refl}
use Rattle.std.specs.Fmt.{digits}
use Rattle.worked_scripts.proofs.given_lists.Goals as goal

pub returns-clause-prints : goal.returns-clause-prints
unfolding digits
returns-clause-prints c = refl

pub returns-clause-settles : goal.returns-clause-settles
unfolding digits
returns-clause-settles c = refl
