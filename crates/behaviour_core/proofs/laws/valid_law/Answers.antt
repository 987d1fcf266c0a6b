use Rattle.behaviour_core.specs.Laws.{valid_after}
use Rattle.behaviour_core.proofs.laws.valid_law.Goals as goal

pub returns : goal.returns
returns c = valid_after
