use Rattle.std.proofs.Common.{refl}
use Rattle.std.specs.Fmt.{digits}
use Rattle.worked_scripts.proofs.upgraded_account.Goals as goal

pub returns-clause-prints : goal.returns-clause-prints
unfolding digits
returns-clause-prints c = refl

pub returns-clause-agrees : goal.returns-clause-agrees
returns-clause-agrees c = refl

pub returns-clause-safe : goal.returns-clause-safe
returns-clause-safe c = refl
