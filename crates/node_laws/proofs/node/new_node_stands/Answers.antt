use Rattle.node_laws.proofs.NodeBeginning as beginning
use Rattle.node_laws.proofs.node.new_node_stands.Goals as goal

pub returns : goal.returns
returns c = beginning.node_begins c.region_begins.ensures c.new_entities_stand.ensures
