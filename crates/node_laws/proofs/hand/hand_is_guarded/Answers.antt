use Rattle.node_laws.proofs.TraceLaws as laws
use Rattle.node_laws.proofs.hand.hand_is_guarded.Goals as goal

pub returns : goal.returns
returns c = laws.hand_is_guarded
