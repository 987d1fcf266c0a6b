use Rattle.behaviour_core.specs.Laws.{valid_after_all}
use Rattle.behaviour_core.proofs.laws.all_valid_law.Goals as goal

pub returns : goal.returns
returns c = valid_after_all
