use Rattle.std.proofs.Common.{sym, subst, List}
use Rattle.yard_model.specs.declared.fact.Fact.{Fact}
use Rattle.pull_cluster.specs.Kept.{IsKept}
use Rattle.pull_cluster.proofs.KeptLaws.{kept_plain, told_leads}
use Rattle.pull_cluster.proofs.cluster.Cluster.tell_plain.Goals as goal

pub invariant_of-self : goal.invariant_of-self
invariant_of-self c = subst (λ (t : List Fact). IsKept c.self.inside.charter c.self.inside.producer t c.self.inside.queue c.self.inside.sent c.self.inside.board c.self.inside.doers c.self.inside.numbers c.self.inside.parcels) (sym c.tell.ensures) (kept_plain c.self.inside.charter c.self.inside.producer c.self.inside.story.told c.self.inside.queue c.self.inside.sent c.self.inside.board c.self.inside.doers c.self.inside.numbers c.self.inside.parcels c.args.told.now c.requires c.self.invariant)

pub returns : goal.returns
returns c = told_leads c.self.inside.charter c.self.inside.story.told c.tell.new.self.told c.self.inside.full (c.args.told.now) c.args.self.now c.args.out.now c.push_copy.new.self c.self.view_is c.tell.ensures c.in_ok-push_copy.ensures.ok
