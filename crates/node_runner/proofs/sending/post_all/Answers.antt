use Rattle.std.proofs.Common.{◌≡◌, ℕ, sym, subst}
use Rattle.lease_table.specs.Belongs.{id_of, charter_of}
use Rattle.lease_table.specs.Leasing.{Pass}
use Rattle.node_runner.specs.Rested.{Rested, ArePublished}
use Rattle.node_runner.proofs.Mailing.{genuine_at}
use Rattle.node_runner.proofs.sending.post_all.Goals as goal

pub post_next-requires-clause-rested : goal.post_next-requires-clause-rested
post_next-requires-clause-rested g c =
    subst (λ (p : Pass). Rested (id_of c.args.table.now) (charter_of c.args.table.now) c.loop-place.mail.pass.node p c.args.node.now) (sym c.loop-place.invariant.same)
    (subst (λ (n : ℕ). Rested (id_of c.args.table.now) (charter_of c.args.table.now) n c.args.pass c.args.node.now) (sym c.loop-place.invariant.kept.1) c.requires.rested)

pub post_next-requires-clause-published : goal.post_next-requires-clause-published
post_next-requires-clause-published g c = subst (λ (p : Pass). ArePublished (charter_of c.args.table.now) p c.args.node.now.state) (sym c.loop-place.invariant.same) c.requires.published

pub post_next-requires-clause-genuine : goal.post_next-requires-clause-genuine
post_next-requires-clause-genuine g c = genuine_at (charter_of c.args.table.now) c.args.packets.now c.loop-place.place c.index-packets-place.result c.requires.genuine c.loop-place-test.true c.index-packets-place.is
