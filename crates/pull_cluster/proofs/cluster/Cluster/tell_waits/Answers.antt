use Rattle.std.proofs.Common.{rules, ◌≡◌, ◌∙◌, ◌<◌, ℕ, ◌+◌, sym, ap, subst, [], ◌∷◌, ◌++◌, List}
use Rattle.yard_model.specs.declared.fact.Fact.{Fact}
use Rattle.yard_model.specs.declared.fact.Fact.TheVariants as fact
use Rattle.pull_cluster.specs.Cluster.{Cluster}
use Rattle.pull_cluster.specs.Kept.{IsKept}
use Rattle.pull_laws.specs.Next.{IsNextSend}
use Rattle.pull_cluster.proofs.KeptLaws.{kept_waits, sent_fits, told_leads}
use Rattle.pull_cluster.proofs.cluster.Cluster.tell_waits.Goals as goal

pub overflow_add-self : goal.overflow_add-self
overflow_add-self c = let few : c.self.inside.sent + 1 < 18446744073709551616 = sent_fits c.self.inside.charter c.self.inside.story.told c.self.inside.queue c.self.inside.sent c.args.entity c.args.command c.self.invariant.pulled_is c.self.invariant.queue_is (subst (λ (k : Cluster). IsNextSend k.script k.pulling.told c.args.entity c.args.command) (sym c.self.view_is) c.requires) in search (rules, few)

pub invariant_of-self : goal.invariant_of-self
invariant_of-self c = subst (λ (t : List Fact). IsKept c.self.inside.charter c.self.inside.producer t c.self.inside.queue (c.self.inside.sent + 1) c.self.inside.board c.self.inside.doers c.self.inside.numbers c.self.inside.parcels) (sym c.tell.ensures)
    (kept_waits c.self.inside.charter c.self.inside.producer c.self.inside.story.told c.self.inside.queue c.self.inside.sent c.self.inside.board c.self.inside.doers c.self.inside.numbers c.self.inside.parcels c.args.entity c.args.command (subst (λ (k : Cluster). IsNextSend k.script k.pulling.told c.args.entity c.args.command) (sym c.self.view_is) c.requires) c.self.invariant)

pub returns : goal.returns
returns c =
    let with_producer : ℕ → Fact = λ p. fact.Waits p c.args.entity c.args.command in
    let same : with_producer c.self.inside.producer ≡ with_producer 1 = ap with_producer c.self.invariant.first_is in
    told_leads c.self.inside.charter c.self.inside.story.told c.tell.new.self.told c.self.inside.full (with_producer 1) c.args.self.now c.args.out.now c.push_copy.new.self c.self.view_is (c.tell.ensures ∙ ap (λ f. c.self.inside.story.told ++ f ∷ []) same) (c.in_ok-push_copy.ensures.ok ∙ ap (λ f. c.args.out.now ++ f ∷ []) same)
