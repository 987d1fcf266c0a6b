use Rattle.std.proofs.Common.{◌∙◌, ap}
use Rattle.yard_model.specs.Lawful.{is_held}
use Rattle.pull_laws.specs.Pulled.{is_running}
use Rattle.pull_cluster.specs.Cluster.{Cluster}
use Rattle.pull_cluster.proofs.cluster.Cluster.is_running.Goals as goal

pub returns : goal.returns
returns c = c.is_leased.ensures ∙ (ap is_held c.self.invariant.queue_is.entries_are ∙ ap (λ (k : Cluster). is_running k.pulling.told) c.self.view_is)
