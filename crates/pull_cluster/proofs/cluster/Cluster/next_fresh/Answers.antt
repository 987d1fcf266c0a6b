use Rattle.std.proofs.Common.{◌∙◌, sym, ap}
use Rattle.pull_laws.specs.Pulled.{fresh}
use Rattle.job_board.specs.Parcels.{lowest}
use Rattle.pull_cluster.specs.Cluster.{Cluster}
use Rattle.pull_cluster.proofs.WireLaws.{lowest_above}
use Rattle.pull_cluster.proofs.cluster.Cluster.next_fresh.Goals as goal

pub returns-clause-value : goal.returns-clause-value
returns-clause-value c = c.next_fresh.ensures.value ∙ (ap lowest (sym c.self.invariant.parcels_are.fresh_is) ∙ ap (λ (k : Cluster). lowest (fresh k.pulling.told)) c.self.view_is)

pub returns-clause-above : goal.returns-clause-above
returns-clause-above c = lowest_above c.self.inside.parcels.fresh c.next_fresh.result c.self.invariant.parcels_are.above c.next_fresh.ensures.value
