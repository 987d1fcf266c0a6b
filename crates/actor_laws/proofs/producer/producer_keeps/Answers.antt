use Rattle.actor_laws.proofs.ProducerMoves as moves
use Rattle.actor_laws.proofs.producer.producer_keeps.Goals as goal

pub returns : goal.returns
returns c = moves.producer_keeps c.producer_keeps_queue.ensures
