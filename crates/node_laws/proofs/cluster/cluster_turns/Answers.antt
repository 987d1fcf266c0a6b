use Rattle.node_laws.proofs.ClusterLaws as laws
use Rattle.node_laws.proofs.cluster.cluster_turns.Goals as goal

pub returns : goal.returns
returns c = laws.cluster_turns c.turn_is_guarded.ensures c.turn_holds.ensures c.others_hold.ensures c.recorded_stays.ensures
