use Rattle.actor_laws.proofs.RegionMoves as moves
use Rattle.actor_laws.proofs.region.region_joins.Goals as goal

pub returns : goal.returns
returns c = moves.region_joins
