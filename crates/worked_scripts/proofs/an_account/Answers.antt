use Rattle.std.proofs.Common.{refl}
use Rattle.worked_scripts.proofs.an_account.Goals as goal

pub returns-clause-replies : goal.returns-clause-replies
returns-clause-replies c = refl

pub returns-clause-state : goal.returns-clause-state
returns-clause-state c = refl
