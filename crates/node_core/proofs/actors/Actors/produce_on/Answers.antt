use Rattle.std.proofs.Common.{◌+◌}
use Rattle.std.specs.Prelude.{◌&&◌, ◌==◌}
use Rattle.yard_model.specs.Genuine.{is_brought, is_producer}
use Rattle.yard_model.specs.Script.{Script}
use Rattle.plain_laws.proofs.Booleans.{and_both, same_number}
use Rattle.node_core.proofs.PacketLaws.{genuine_of}
use Rattle.node_core.proofs.actors.Actors.produce_on.Goals as goal

pub request-requires-clause-window : goal.request-requires-clause-window
request-requires-clause-window g c =
    let script : Script = c.args.self.now.script in
    same_number c.in-Request.up_to (c.in-Request.confirmed + script.config.window)
    (and_both (is_producer script c.in-Request.producer && is_brought script c.in-Request.entity) (c.in-Request.up_to == c.in-Request.confirmed + script.config.window) (genuine_of script c.args.packet.now _ c.in-Request.is c.requires.genuine)).1
