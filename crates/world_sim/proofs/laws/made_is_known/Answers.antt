use Rattle.yard_model.specs.World.{wire_limit}
use Rattle.world_sim.proofs.laws.made_is_known.Goals as goal

pub returns : goal.returns
returns c = λ script n is numbered. c.orders_are_known.ensures script wire_limit n is numbered
