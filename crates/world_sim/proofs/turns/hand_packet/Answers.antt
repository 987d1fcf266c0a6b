use Rattle.yard_model.specs.declared.input.Input.TheVariants as input
use Rattle.world_sim.proofs.TurnsLaws.{handled_first}
use Rattle.world_sim.proofs.turns.hand_packet.Goals as goal

pub returns : goal.returns
returns g c =
    let m = c.make_room.ensures in
    handled_first (input.Packet c.args.packet.now) c.args.book.now c.hand_roomy_packet.new.book c.args.mail.now c.make_room.new.mail c.hand_roomy_packet.new.mail c.args.node.now c.make_room.new.node c.hand_roomy_packet.new.node m.script m.state m.items m.packets m.fresh m.full c.hand_roomy_packet.ensures
