use Rattle.std.proofs.Common.{rules, ◌≡◌, ◌∙◌, ◌<◌, sym, ap, subst, length, List}
use Rattle.std.specs.Prelude.{Some}
use Rattle.yard_model.specs.declared.charter.Sending.{Sending}
use Rattle.yard_model.specs.Script.{sends}
use Rattle.pull_laws.specs.Pulled.{jobs}
use Rattle.pull_cluster.specs.Cluster.{Cluster, name_at}
use Rattle.std.specs.Option.{option_map}
use Rattle.std.specs.List.{slice_get}
use Rattle.pull_cluster.proofs.KeptLaws.{entity_is, job_few, job_here, name_read}
use Rattle.pull_cluster.proofs.cluster.Cluster.name.Goals as goal

pub bounds-sends-job : goal.bounds-sends-job
bounds-sends-job c = subst (λ (l : List Sending). c.args.job < length l) (sym (c.sends.ensures ∙ ap (sends c.self.inside.charter) c.self.invariant.first_is)) (job_here c.self.inside.charter c.self.inside.story.told c.self.inside.queue c.self.inside.sent c.args.job c.self.invariant.queue_is (subst (λ (k : Cluster). c.args.job < length (jobs k.pulling.told)) (sym c.self.view_is) c.requires))

pub bounds-sends-job-2 : goal.bounds-sends-job-2
bounds-sends-job-2 c = subst (λ (l : List Sending). c.args.job < length l) (sym (c.sends.ensures ∙ ap (sends c.self.inside.charter) c.self.invariant.first_is)) (job_here c.self.inside.charter c.self.inside.story.told c.self.inside.queue c.self.inside.sent c.args.job c.self.invariant.queue_is (subst (λ (k : Cluster). c.args.job < length (jobs k.pulling.told)) (sym c.self.view_is) c.requires))

pub offset_bounds-sends-job : goal.offset_bounds-sends-job
offset_bounds-sends-job c = let lt : c.args.job < 3000001 = job_few c.self.inside.charter c.self.inside.story.told c.self.inside.queue c.self.inside.sent c.args.job c.self.invariant.pulled_is c.self.invariant.queue_is (subst (λ (k : Cluster). c.args.job < length (jobs k.pulling.told)) (sym c.self.view_is) c.requires) in search (rules, lt)

pub returns-clause-job : goal.returns-clause-job
returns-clause-job c = subst (λ (k : Cluster). option_map (λ (j : Sending). j.entity) (slice_get (jobs k.pulling.told) c.args.job) ≡ Some c.index-sends-job.result.entity) c.self.view_is (entity_is c.self.inside.charter c.self.inside.story.told c.self.inside.queue c.self.inside.sent c.args.job c.sends.result.now c.index-sends-job.result c.self.invariant.queue_is (subst (λ (k : Cluster). c.args.job < length (jobs k.pulling.told)) (sym c.self.view_is) c.requires) (c.sends.ensures ∙ ap (sends c.self.inside.charter) c.self.invariant.first_is) c.index-sends-job.is) ∙ ap (λ (x : Sending). Some x.entity) c.index-sends-job.is

pub returns-clause-value : goal.returns-clause-value
returns-clause-value c = ap (λ (x : Sending). x.entity) (sym c.index-sends-job.is) ∙ (name_read c.self.inside.charter c.self.inside.story.told c.self.inside.queue c.self.inside.sent c.args.job c.sends.result.now c.index-sends-job.result c.self.invariant.queue_is (subst (λ (k : Cluster). c.args.job < length (jobs k.pulling.told)) (sym c.self.view_is) c.requires) (c.sends.ensures ∙ ap (sends c.self.inside.charter) c.self.invariant.first_is) c.index-sends-job.is ∙ ap (λ (k : Cluster). name_at k.script c.args.job) c.self.view_is)
