use Rattle.std.proofs.Common.{◌≡◌, refl, sym, subst}
use Rattle.lease_table.specs.Belongs.{id_of, charter_of}
use Rattle.node_runner.specs.Posts.{AreGenuine, ArePackets}
use Rattle.node_runner.proofs.Ways.{done_saw}
use Rattle.node_runner.proofs.worker.work.Goals as goal

pub returns-clause-saw : goal.returns-clause-saw
returns-clause-saw g c = done_saw (id_of c.args.table.now) (charter_of c.args.table.now) c.args.turns c.args.me c.in_ok-place.place.pass c.in_ok-pass.pass c.in_ok-place.place.node c.in_ok-place.ensures.done (c.in_ok-pass.ensures.saw c.args.turns)

pub run_turns-requires-clause-genuine : goal.run_turns-requires-clause-genuine
run_turns-requires-clause-genuine g c = (subst (AreGenuine (charter_of c.args.table.now)) (sym c.new-tray.ensures.out) refl, subst (ArePackets (charter_of c.args.table.now)) (sym c.new-tray.ensures.posts) refl)
