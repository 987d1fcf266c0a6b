use Rattle.std.proofs.Common.{◌≡◌, ◌∙◌, ◌<◌, ap, subst, length}
use Rattle.std.specs.Prelude.{Some}
use Rattle.std.specs.Option.{option_map}
use Rattle.std.specs.List.{slice_get}
use Rattle.yard_model.specs.declared.charter.Sending.{Sending}
use Rattle.pull_laws.specs.Pulled.{jobs}
use Rattle.pull_cluster.specs.Cluster.{Cluster, name_at}
use Rattle.pull_cluster.proofs.KeptLaws.{place_is, job_named}
use Rattle.pull_cluster.proofs.cluster.Cluster.queued.Goals as goal

pub returns-clause-value : goal.returns-clause-value
returns-clause-value c = c.total.ensures ∙ (place_is c.self.inside.charter c.self.inside.story.told c.self.inside.queue c.self.inside.sent c.self.invariant.queue_is ∙ ap (λ (k : Cluster). length (jobs k.pulling.told)) c.self.view_is)

pub returns-clause-names : goal.returns-clause-names
returns-clause-names c = λ i lt.
    subst (λ (k : Cluster). option_map (λ (j : Sending). j.entity) (slice_get (jobs k.pulling.told) i) ≡ Some (name_at k.script i)) c.self.view_is
    (job_named c.self.inside.charter c.self.inside.story.told c.self.inside.queue c.self.inside.sent c.self.invariant.queue_is i (subst (λ n. i < n) (c.total.ensures ∙ place_is c.self.inside.charter c.self.inside.story.told c.self.inside.queue c.self.inside.sent c.self.invariant.queue_is) lt))
