use Rattle.std.proofs.Common.{◌≡◌, sym, subst, List}
use Rattle.std.specs.Prelude.{Some}
use Rattle.yard_model.specs.declared.fact.Fact.{Fact}
use Rattle.yard_model.specs.declared.fact.Fact.TheVariants as fact
use Rattle.pull_cluster.specs.Cluster.{Cluster}
use Rattle.pull_cluster.specs.Kept.{IsKept}
use Rattle.pull_laws.specs.Pulled.{packet}
use Rattle.pull_cluster.specs.Cluster.{parcel_fact}
use Rattle.pull_cluster.proofs.KeptLaws.{kept_got, told_leads}
use Rattle.pull_cluster.proofs.WireLaws.{posted_there}
use Rattle.pull_cluster.proofs.cluster.Cluster.tell_got.Goals as goal

pub got-requires-clause-there : goal.got-requires-clause-there
got-requires-clause-there c = posted_there c.self.inside.charter c.self.inside.story.told c.self.inside.parcels c.args.number (parcel_fact c.self.inside.charter c.args.number c.args.parcel.now) c.requires.above (subst (λ (k : Cluster). packet c.args.number k.pulling.told ≡ Some (parcel_fact k.script c.args.number c.args.parcel.now)) (sym c.self.view_is) c.requires.it) c.self.invariant.parcels_are

pub invariant_of-self : goal.invariant_of-self
invariant_of-self c = subst (λ (t : List Fact). IsKept c.self.inside.charter c.self.inside.producer t c.self.inside.queue c.self.inside.sent c.note_ask.new.board c.self.inside.doers c.self.inside.numbers c.got.new.self) (sym c.tell.ensures)
    (kept_got c.self.inside.charter c.self.inside.producer c.self.inside.story.told c.self.inside.queue c.self.inside.sent c.self.inside.board c.note_ask.new.board c.self.inside.doers c.self.inside.numbers c.self.inside.parcels c.got.new.self c.args.number c.args.parcel.now c.requires.above (subst (λ (k : Cluster). packet c.args.number k.pulling.told ≡ Some (parcel_fact k.script c.args.number c.args.parcel.now)) (sym c.self.view_is) c.requires.it) c.got.ensures.posted c.got.ensures.fresh c.note_ask.ensures c.self.invariant)

pub returns : goal.returns
returns c = told_leads c.self.inside.charter c.self.inside.story.told c.tell.new.self.told c.self.inside.full (fact.Got c.args.number) c.args.self.now c.args.out.now c.push_copy.new.self c.self.view_is c.tell.ensures c.in_ok-push_copy.ensures.ok
