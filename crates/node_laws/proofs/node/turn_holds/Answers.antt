use Rattle.node_laws.proofs.HoldingTurns as laws
use Rattle.node_laws.proofs.node.turn_holds.Goals as goal

pub returns : goal.returns
returns c = laws.turn_holds
