use Rattle.std.proofs.Common.{◌∙◌, ◌<◌, sym, ap, subst, length}
use Rattle.yard_model.specs.Words.{is_among}
use Rattle.pull_laws.specs.Pulled.{jobs, has_done}
use Rattle.pull_cluster.specs.Cluster.{Cluster, name_at}
use Rattle.pull_cluster.proofs.DoerLaws.{doers_at, doers_long, has_is}
use Rattle.pull_cluster.proofs.KeptLaws.{job_here}
use Rattle.pull_cluster.proofs.cluster.Cluster.has_done.Goals as goal

pub has-requires : goal.has-requires
has-requires c = subst (λ n. c.args.job < n) (sym (doers_long c.self.inside.charter c.self.inside.story.told c.self.inside.doers c.self.invariant.doers_are)) (job_here c.self.inside.charter c.self.inside.story.told c.self.inside.queue c.self.inside.sent c.args.job c.self.invariant.queue_is (subst (λ (k : Cluster). c.args.job < length (jobs k.pulling.told)) (sym c.self.view_is) c.requires))

pub returns : goal.returns
returns c = c.has.ensures ∙ (ap (is_among c.args.who.now) (doers_at c.self.inside.charter c.self.inside.story.told c.self.inside.doers c.args.job (job_here c.self.inside.charter c.self.inside.story.told c.self.inside.queue c.self.inside.sent c.args.job c.self.invariant.queue_is (subst (λ (k : Cluster). c.args.job < length (jobs k.pulling.told)) (sym c.self.view_is) c.requires)) c.self.invariant.doers_are) ∙ (sym (has_is c.args.who.now (name_at c.self.inside.charter c.args.job) c.self.inside.story.told) ∙ ap (λ (k : Cluster). has_done c.args.who.now (name_at k.script c.args.job) k.pulling.told) c.self.view_is))
