use Rattle.actor_laws.proofs.ProducerMoves as moves
use Rattle.actor_laws.proofs.producer.producer_joins.Goals as goal

pub returns : goal.returns
returns c = moves.producer_joins
