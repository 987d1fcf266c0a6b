use Rattle.std.proofs.Common.{◌≡◌, ◌+◌, ◌-◌, sym, subst, set, List}
use Rattle.std.specs.Prelude.{None}
use Rattle.yard_model.specs.declared.fact.Fact.{Fact}
use Rattle.yard_model.specs.declared.fact.Fact.TheVariants as fact
use Rattle.pull_cluster.specs.Cluster.{Cluster}
use Rattle.pull_cluster.specs.Kept.{IsKept}
use Rattle.pull_laws.specs.Pulled.{worker_at, last_number}
use Rattle.job_board.specs.Boards.{Board}
use Rattle.pull_cluster.proofs.KeptLaws.{kept_up, told_leads}
use Rattle.pull_cluster.proofs.SeatLaws.{not_up}
use Rattle.pull_cluster.proofs.cluster.Cluster.tell_up.Goals as goal

pub add-requires : goal.add-requires
add-requires c = not_up c.self.inside.story.told c.self.inside.board.seats c.args.who.now c.self.invariant.seats_are (subst (λ (k : Cluster). worker_at c.args.who.now.node k.pulling.told ≡ None) (sym c.self.view_is) c.requires.down)

pub invariant_of-self : goal.invariant_of-self
invariant_of-self c = subst (λ (b : Board). IsKept c.self.inside.charter c.self.inside.producer c.self.inside.story.told c.self.inside.queue c.self.inside.sent b c.self.inside.doers c.self.inside.numbers c.self.inside.parcels) (sym c.in_err-add.ensures.err) c.self.invariant

pub invariant_of-self-2 : goal.invariant_of-self-2
invariant_of-self-2 c =
    let next : c.args.who.now.number ≡ last_number c.args.who.now.node c.self.inside.story.told + 1 = subst (λ (k : Cluster). c.args.who.now.number ≡ last_number c.args.who.now.node k.pulling.told + 1) (sym c.self.view_is) c.requires.next in
    subst (λ n. IsKept c.self.inside.charter c.self.inside.producer c.tell.new.self.told c.self.inside.queue c.self.inside.sent c.add.new.self c.self.inside.doers (set c.self.inside.numbers (n - 1) c.args.who.now.number) c.self.inside.parcels) (sym c.get.ensures.value)
    (subst (λ (t : List Fact). IsKept c.self.inside.charter c.self.inside.producer t c.self.inside.queue c.self.inside.sent c.add.new.self c.self.inside.doers (set c.self.inside.numbers (c.args.who.now.node - 1) c.args.who.now.number) c.self.inside.parcels) (sym c.tell.ensures)
    (kept_up c.self.inside.charter c.self.inside.producer c.self.inside.story.told c.self.inside.queue c.self.inside.sent c.self.inside.board c.add.new.self c.self.inside.doers c.self.inside.numbers c.self.inside.parcels c.args.who.now next c.get.ensures.range.0 c.get.ensures.range.1 c.in_ok-add.ensures.ok c.self.invariant))

pub returns : goal.returns
returns c = told_leads c.self.inside.charter c.self.inside.story.told c.tell.new.self.told c.self.inside.full (fact.Up c.args.who.now) c.args.self.now c.args.out.now c.push_copy.new.self c.self.view_is c.tell.ensures c.in_ok-push_copy.ensures.ok
