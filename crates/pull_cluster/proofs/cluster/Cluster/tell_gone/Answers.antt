use Rattle.std.proofs.Common.{◌≡◌, ◌∙◌, sym, ap, subst, List}
use Rattle.std.specs.Prelude.{true}
use Rattle.yard_model.specs.declared.fact.Fact.{Fact}
use Rattle.yard_model.specs.declared.fact.Fact.TheVariants as fact
use Rattle.pull_cluster.specs.Cluster.{Cluster}
use Rattle.pull_cluster.specs.Kept.{IsKept}
use Rattle.yard_model.specs.Words.{is_among}
use Rattle.pull_laws.specs.Pulled.{members}
use Rattle.pull_cluster.proofs.KeptLaws.{kept_gone, told_leads}
use Rattle.pull_cluster.proofs.SeatLaws.{whos_are}
use Rattle.pull_cluster.proofs.cluster.Cluster.tell_gone.Goals as goal

pub remove-requires : goal.remove-requires
remove-requires c = ap (is_among c.args.who.now) (whos_are c.self.inside.story.told c.self.inside.board.seats c.self.invariant.seats_are) ∙ subst (λ (k : Cluster). is_among c.args.who.now (members k.pulling.told) ≡ true) (sym c.self.view_is) c.requires

pub invariant_of-self : goal.invariant_of-self
invariant_of-self c = subst (λ (t : List Fact). IsKept c.self.inside.charter c.self.inside.producer t c.self.inside.queue c.self.inside.sent c.remove.new.self c.self.inside.doers c.self.inside.numbers c.self.inside.parcels) (sym c.tell.ensures)
    (kept_gone c.self.inside.charter c.self.inside.producer c.self.inside.story.told c.self.inside.queue c.self.inside.sent c.self.inside.board c.remove.new.self c.self.inside.doers c.self.inside.numbers c.self.inside.parcels c.args.who.now c.remove.ensures c.self.invariant)

pub returns : goal.returns
returns c = told_leads c.self.inside.charter c.self.inside.story.told c.tell.new.self.told c.self.inside.full (fact.Gone c.args.who.now) c.args.self.now c.args.out.now c.push_copy.new.self c.self.view_is c.tell.ensures c.in_ok-push_copy.ensures.ok
