use Rattle.node_laws.proofs.NodeCrash as crash
use Rattle.node_laws.proofs.node.crash_stands.Goals as goal

pub returns : goal.returns
returns c = crash.crash_stands c.producer_keeps.ensures
