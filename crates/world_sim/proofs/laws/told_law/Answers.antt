use Rattle.world_sim.proofs.ToldLaws.{told}
use Rattle.world_sim.proofs.laws.told_law.Goals as goal

pub returns-clause-told : goal.returns-clause-told
returns-clause-told c = told
