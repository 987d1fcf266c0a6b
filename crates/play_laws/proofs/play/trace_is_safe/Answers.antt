use Rattle.yard_model.specs.World.{wire_limit}
use Rattle.play_laws.proofs.play.trace_is_safe.Goals as goal

pub returns : goal.returns
returns c script is = c.played_is_safe.ensures script wire_limit is
