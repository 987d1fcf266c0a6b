use Rattle.std.proofs.Common.{◌∙◌, ◌<◌, sym, ap, subst, length, [], ◌∷◌, ◌++◌, List}
use Rattle.yard_model.specs.declared.fact.Fact.{Fact}
use Rattle.yard_model.specs.declared.fact.Fact.TheVariants as fact
use Rattle.pull_cluster.specs.Cluster.{Cluster}
use Rattle.pull_cluster.specs.Kept.{IsKept}
use Rattle.yard_model.specs.declared.incarnation.Incarnation.{Incarnation}
use Rattle.pull_laws.specs.Pulled.{jobs}
use Rattle.pull_cluster.specs.Cluster.{name_at}
use Rattle.pull_cluster.proofs.DoerLaws.{doers_long}
use Rattle.pull_cluster.proofs.KeptLaws.{kept_did, job_here, told_leads}
use Rattle.pull_cluster.proofs.cluster.Cluster.tell_did.Goals as goal

pub push-requires : goal.push-requires
push-requires c = subst (λ n. c.args.job < n) (sym (doers_long c.self.inside.charter c.self.inside.story.told c.self.inside.doers c.self.invariant.doers_are)) (job_here c.self.inside.charter c.self.inside.story.told c.self.inside.queue c.self.inside.sent c.args.job c.self.invariant.queue_is (subst (λ (k : Cluster). c.args.job < length (jobs k.pulling.told)) (sym c.self.view_is) c.requires))

pub invariant_of-self : goal.invariant_of-self
invariant_of-self c = subst (λ (d : List (List Incarnation)). IsKept c.self.inside.charter c.self.inside.producer c.self.inside.story.told c.self.inside.queue c.self.inside.sent c.self.inside.board d c.self.inside.numbers c.self.inside.parcels) (sym c.in_err-push.ensures.err) c.self.invariant

pub invariant_of-self-2 : goal.invariant_of-self-2
invariant_of-self-2 c = subst (λ (t : List Fact). IsKept c.self.inside.charter c.self.inside.producer t c.self.inside.queue c.self.inside.sent c.self.inside.board c.push.new.self c.self.inside.numbers c.self.inside.parcels) (sym (c.tell.ensures ∙ ap (λ n. c.self.inside.story.told ++ fact.Did c.args.who.now n ∷ []) (c.name.ensures.value ∙ ap (λ (k : Cluster). name_at k.script c.args.job) (sym c.self.view_is))))
    (kept_did c.self.inside.charter c.self.inside.producer c.self.inside.story.told c.self.inside.queue c.self.inside.sent c.self.inside.board c.self.inside.doers c.push.new.self c.self.inside.numbers c.self.inside.parcels c.args.job c.args.who.now (subst (λ (k : Cluster). c.args.job < length (jobs k.pulling.told)) (sym c.self.view_is) c.requires) c.in_ok-push.ensures.ok c.self.invariant)

pub returns : goal.returns
returns c = told_leads c.self.inside.charter c.self.inside.story.told c.tell.new.self.told c.self.inside.full (fact.Did c.args.who.now (name_at c.args.self.now.script c.args.job)) c.args.self.now c.args.out.now c.push_copy.new.self c.self.view_is (c.tell.ensures ∙ ap (λ n. c.self.inside.story.told ++ fact.Did c.args.who.now n ∷ []) c.name.ensures.value) (c.in_ok-push_copy.ensures.ok ∙ ap (λ n. c.args.out.now ++ fact.Did c.args.who.now n ∷ []) c.name.ensures.value)
