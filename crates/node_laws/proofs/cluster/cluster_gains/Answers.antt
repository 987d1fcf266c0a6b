use Rattle.node_laws.proofs.ClusterMore as more
use Rattle.node_laws.proofs.cluster.cluster_gains.Goals as goal

pub returns : goal.returns
returns c = more.cluster_gains c.guarded_is_own.ensures c.new_node_stands.ensures
