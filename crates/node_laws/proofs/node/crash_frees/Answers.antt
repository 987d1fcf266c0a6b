use Rattle.node_laws.proofs.HoldingCrash as laws
use Rattle.node_laws.proofs.node.crash_frees.Goals as goal

pub returns : goal.returns
returns c = laws.crash_frees
