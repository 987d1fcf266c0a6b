use Rattle.node_laws.proofs.ClusterLaws as laws
use Rattle.node_laws.proofs.cluster.cluster_loses.Goals as goal

pub returns : goal.returns
returns c = laws.cluster_loses c.crash_stands.ensures c.crash_frees.ensures c.hand_is_guarded.ensures c.others_hold.ensures
