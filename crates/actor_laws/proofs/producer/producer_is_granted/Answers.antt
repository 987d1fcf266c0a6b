use Rattle.actor_laws.proofs.ProducerMoves as moves
use Rattle.actor_laws.proofs.producer.producer_is_granted.Goals as goal

pub returns : goal.returns
returns c = moves.producer_is_granted c.slot_law.ensures
