use Rattle.actor_laws.proofs.ProducerMoves as moves
use Rattle.actor_laws.proofs.producer.producer_routes.Goals as goal

pub returns : goal.returns
returns c = moves.producer_routes c.sending_law.ensures c.command_law.ensures
