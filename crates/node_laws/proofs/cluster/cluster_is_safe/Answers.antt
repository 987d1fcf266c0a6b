use Rattle.node_laws.proofs.ClusterMore as more
use Rattle.node_laws.proofs.cluster.cluster_is_safe.Goals as goal

pub returns : goal.returns
returns c = more.cluster_is_safe c.guarded_is_safe_now.ensures c.guarded_is_safe.ensures
