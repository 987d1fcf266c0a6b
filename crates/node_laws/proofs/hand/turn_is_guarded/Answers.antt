use Rattle.node_laws.proofs.TraceTurns as turns
use Rattle.node_laws.proofs.hand.turn_is_guarded.Goals as goal

pub returns : goal.returns
returns c = turns.turn_is_guarded c.guarded_is_own.ensures c.turn_stands.ensures c.turn_viewed.ensures c.hand_is_guarded.ensures
