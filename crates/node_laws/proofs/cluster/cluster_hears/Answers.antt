use Rattle.node_laws.proofs.ClusterMore as more
use Rattle.node_laws.proofs.cluster.cluster_hears.Goals as goal

pub returns : goal.returns
returns c = more.cluster_hears
