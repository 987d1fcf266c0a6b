use Rattle.world_sim.proofs.OwnLaws.{turn_is_own, posts_are_own}
use Rattle.world_sim.proofs.laws.own_law.Goals as goal

pub returns-clause-turn : goal.returns-clause-turn
returns-clause-turn c = turn_is_own

pub returns-clause-posts : goal.returns-clause-posts
returns-clause-posts c = posts_are_own
