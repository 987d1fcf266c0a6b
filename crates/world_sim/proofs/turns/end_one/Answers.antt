use Rattle.std.proofs.Common.{sym, subst}
use Rattle.shard_lease.specs.Book.{meaning_of}
use Rattle.node_core.specs.Leased.{Rests}
use Rattle.world_sim.proofs.TurnsLaws.{ended_if}
use Rattle.world_sim.proofs.turns.end_one.Goals as goal

pub end_after-requires-clause-rests : goal.end_after-requires-clause-rests
end_after-requires-clause-rests g c =
    let m = c.make_room-room.ensures in
    subst (λ st. Rests (meaning_of c.args.book.now) c.make_room-room.new.node.script st) (sym m.state) (subst (λ k. Rests (meaning_of c.args.book.now) k c.args.node.state) (sym m.script) c.requires)

pub returns : goal.returns
returns g c =
    let m = c.make_room-room.ensures in
    ended_if c.end_after.result c.args.book.now c.end_after.new.book c.args.mail.now c.make_room-room.new.mail c.end_after.new.mail c.args.node c.make_room-room.new.node m.script m.state m.items m.packets m.fresh m.full c.end_after.ensures
