use Rattle.node_laws.proofs.ClusterMore as more
use Rattle.node_laws.proofs.cluster.cluster_upgrades.Goals as goal

pub returns : goal.returns
returns c = more.cluster_upgrades c.guarded_is_safe_now.ensures
