use Rattle.yard_model.specs.World.{wire_limit}
use Rattle.world_sim.proofs.laws.made_is_safe.Goals as goal

pub returns : goal.returns
returns c = λ script n is. (c.played_is_sound.ensures script wire_limit n is).safe
