use Rattle.std.proofs.Common.{◌≡◌, List, ◌∙◌, sym, ap, subst, refl, true, arith}
use Rattle.std.specs.Prelude.{Option, Some}
use Rattle.yard_model.specs.Node.{Act}
use Rattle.yard_model.specs.Producer.{Producer}
use Rattle.producer_ctl.specs.Produced.{Gives, queueing}
use Rattle.producer_ctl.specs.Producing.{sending}
use Rattle.yard_model.specs.Script.{sends}
use Rattle.node_core.specs.Standing.{Standing}
use Rattle.node_core.specs.Went.{Went}
use Rattle.node_core.proofs.CallLaws.{AreFew, AreFit, IsLeft, called_left, called_went, left_rooms, left_room, sends_called}
use Rattle.node_core.proofs.FitLaws.{send_fits, send_few}
use Rattle.node_core.proofs.actors.Actors.send.Goals as goal

pub note_send-requires-clause-store : goal.note_send-requires-clause-store
note_send-requires-clause-store g c there = let wide = c.requires.ready.queues c.args.p c.requires.producer there in omega (arith, wide)

pub route_pending-requires-clause-well : goal.route_pending-requires-clause-well
route_pending-requires-clause-well g c =
    let v : Standing = c.args.self.now in
    let F : Producer → Option Gives = (sending (sends v.script c.args.p)) in
    let fit : AreFit v.script c.args.p F v.state = send_fits c.producer_keeps.ensures c.producer_routes.ensures v.script v.state c.args.p c.requires.sound c.requires.producer in
    let few : AreFew v.script.config.window c.args.p F v.state = send_few v.script v.state c.args.p c.knows.ensures.script c.requires.sound c.requires.producer c.knows_demand.ensures in
    let left : IsLeft v.script.config.window v c.note_send.new.self c.args.out.now c.note_send.new.out = called_left c.args.p v.script.config.window F v c.note_send.new.self c.args.out.now c.note_send.new.out fit few c.note_send.ensures in
    left.well

pub route_pending-requires-clause-rooms : goal.route_pending-requires-clause-rooms
route_pending-requires-clause-rooms g c some =
    let v : Standing = c.args.self.now in
    let F : Producer → Option Gives = (sending (sends v.script c.args.p)) in
    let fit : AreFit v.script c.args.p F v.state = send_fits c.producer_keeps.ensures c.producer_routes.ensures v.script v.state c.args.p c.requires.sound c.requires.producer in
    let few : AreFew v.script.config.window c.args.p F v.state = send_few v.script v.state c.args.p c.knows.ensures.script c.requires.sound c.requires.producer c.knows_demand.ensures in
    let left : IsLeft v.script.config.window v c.note_send.new.self c.args.out.now c.note_send.new.out = called_left c.args.p v.script.config.window F v c.note_send.new.self c.args.out.now c.note_send.new.out fit few c.note_send.ensures in
    left_rooms _ left c.requires.sound c.requires.ready

pub route_pending-requires-clause-room : goal.route_pending-requires-clause-room
route_pending-requires-clause-room g c =
    let v : Standing = c.args.self.now in
    let F : Producer → Option Gives = (sending (sends v.script c.args.p)) in
    let fit : AreFit v.script c.args.p F v.state = send_fits c.producer_keeps.ensures c.producer_routes.ensures v.script v.state c.args.p c.requires.sound c.requires.producer in
    let few : AreFew v.script.config.window c.args.p F v.state = send_few v.script v.state c.args.p c.knows.ensures.script c.requires.sound c.requires.producer c.knows_demand.ensures in
    let left : IsLeft v.script.config.window v c.note_send.new.self c.args.out.now c.note_send.new.out = called_left c.args.p v.script.config.window F v c.note_send.new.self c.args.out.now c.note_send.new.out fit few c.note_send.ensures in
    left_room c.knows.ensures.script left c.requires.ready

pub returns : goal.returns
returns g c =
    let v : Standing = c.args.self.now in
    let F : Producer → Option Gives = (sending (sends v.script c.args.p)) in
    let fit : AreFit v.script c.args.p F v.state = send_fits c.producer_keeps.ensures c.producer_routes.ensures v.script v.state c.args.p c.requires.sound c.requires.producer in
    subst (λ (acts : List Act). Went v c.route_pending.new.self c.args.out.now c.route_pending.new.out acts) (sends_called c.rules_are_calls.ensures.sends v.script c.args.p v.state c.requires.producer)
    (called_went c.args.p F v c.note_send.new.self c.route_pending.new.self c.args.out.now c.note_send.new.out c.route_pending.new.out fit c.note_send.ensures c.route_pending.ensures.went)
