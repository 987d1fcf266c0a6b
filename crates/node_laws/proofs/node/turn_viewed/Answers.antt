use Rattle.node_laws.proofs.NodeViewed as viewed
use Rattle.node_laws.proofs.node.turn_viewed.Goals as goal

pub returns : goal.returns
returns c = viewed.turn_viewed
