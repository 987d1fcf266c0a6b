use Rattle.actor_laws.proofs.RegionMoves as moves
use Rattle.actor_laws.proofs.region.region_keeps.Goals as goal

pub returns : goal.returns
returns c = moves.region_keeps c.shards_are_there.ensures
