use Rattle.node_laws.proofs.TraceOthers as others
use Rattle.node_laws.proofs.hand.others_hold.Goals as goal

pub returns : goal.returns
returns c = others.others_hold
