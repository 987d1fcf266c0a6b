use Rattle.world_sim.proofs.TurnsLaws.{handled_first}
use Rattle.world_sim.proofs.turns.hand.Goals as goal

pub returns : goal.returns
returns g c =
    let m = c.make_room.ensures in
    handled_first c.args.input.now c.args.book.now c.hand_roomy.new.book c.args.mail.now c.make_room.new.mail c.hand_roomy.new.mail c.args.node.now c.make_room.new.node c.hand_roomy.new.node m.script m.state m.items m.packets m.fresh m.full c.hand_roomy.ensures
