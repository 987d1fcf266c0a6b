use Rattle.std.proofs.Common.{refl}
use Rattle.worked_scripts.proofs.picks_of_a_round.Goals as goal

pub returns-clause-even : goal.returns-clause-even
returns-clause-even c = refl

pub returns-clause-uneven : goal.returns-clause-uneven
returns-clause-uneven c = refl

pub returns-clause-smallest : goal.returns-clause-smallest
returns-clause-smallest c = refl
