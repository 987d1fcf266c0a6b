use Rattle.std.proofs.Common.{◌∙◌, ap, length}
use Rattle.pull_laws.specs.Pulled.{waiting}
use Rattle.pull_cluster.specs.Cluster.{Cluster}
use Rattle.pull_cluster.proofs.KeptLaws.{waiting_long}
use Rattle.pull_cluster.proofs.cluster.Cluster.waiting.Goals as goal

pub overflow_sub-result : goal.overflow_sub-result
overflow_sub-result c = (waiting_long c.self.inside.charter c.self.inside.story.told c.self.inside.queue c.self.inside.sent c.total.result c.self.invariant.queue_is c.total.ensures).0

pub returns : goal.returns
returns c = (waiting_long c.self.inside.charter c.self.inside.story.told c.self.inside.queue c.self.inside.sent c.total.result c.self.invariant.queue_is c.total.ensures).1 ∙ ap (λ (k : Cluster). length (waiting k.pulling.told)) c.self.view_is
