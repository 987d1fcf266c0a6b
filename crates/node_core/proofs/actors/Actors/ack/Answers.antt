use Rattle.std.proofs.Common.{◌≡◌, List, ◌∙◌, sym, ap, subst, refl, true, arith}
use Rattle.std.specs.Prelude.{Option, Some}
use Rattle.yard_model.specs.Node.{Act}
use Rattle.yard_model.specs.Producer.{Producer}
use Rattle.producer_ctl.specs.Produced.{Gives, acking}
use Rattle.node_core.specs.Standing.{Standing}
use Rattle.node_core.specs.Went.{Went}
use Rattle.node_core.proofs.CallLaws.{AreFew, AreFit, IsLeft, called_left, called_went, left_rooms, left_room}
use Rattle.node_core.proofs.FitLaws.{ack_fits, ack_few}
use Rattle.node_core.proofs.actors.Actors.ack.Goals as goal

pub note_ack-requires-clause-store : goal.note_ack-requires-clause-store
note_ack-requires-clause-store g c there = let wide = c.requires.ready.queues c.args.p c.requires.producer there in omega (arith, wide)

pub route_pending-requires-clause-well : goal.route_pending-requires-clause-well
route_pending-requires-clause-well g c =
    let v : Standing = c.args.self.now in
    let F : Producer → Option Gives = (λ k. Some (acking c.args.entity.now c.args.confirmed k)) in
    let fit : AreFit v.script c.args.p F v.state = ack_fits c.producer_keeps.ensures c.producer_routes.ensures v.script v.state c.args.p c.requires.sound c.requires.producer c.args.entity.now c.args.confirmed c.requires.queued in
    let few : AreFew v.script.config.window c.args.p F v.state = ack_few v.script v.state c.args.p c.knows.ensures.script c.requires.sound c.requires.producer c.knows_demand.ensures c.args.entity.now c.args.confirmed in
    let left : IsLeft v.script.config.window v c.note_ack.new.self c.args.out.now c.note_ack.new.out = called_left c.args.p v.script.config.window F v c.note_ack.new.self c.args.out.now c.note_ack.new.out fit few c.note_ack.ensures in
    left.well

pub route_pending-requires-clause-rooms : goal.route_pending-requires-clause-rooms
route_pending-requires-clause-rooms g c some =
    let v : Standing = c.args.self.now in
    let F : Producer → Option Gives = (λ k. Some (acking c.args.entity.now c.args.confirmed k)) in
    let fit : AreFit v.script c.args.p F v.state = ack_fits c.producer_keeps.ensures c.producer_routes.ensures v.script v.state c.args.p c.requires.sound c.requires.producer c.args.entity.now c.args.confirmed c.requires.queued in
    let few : AreFew v.script.config.window c.args.p F v.state = ack_few v.script v.state c.args.p c.knows.ensures.script c.requires.sound c.requires.producer c.knows_demand.ensures c.args.entity.now c.args.confirmed in
    let left : IsLeft v.script.config.window v c.note_ack.new.self c.args.out.now c.note_ack.new.out = called_left c.args.p v.script.config.window F v c.note_ack.new.self c.args.out.now c.note_ack.new.out fit few c.note_ack.ensures in
    left_rooms _ left c.requires.sound c.requires.ready

pub route_pending-requires-clause-room : goal.route_pending-requires-clause-room
route_pending-requires-clause-room g c =
    let v : Standing = c.args.self.now in
    let F : Producer → Option Gives = (λ k. Some (acking c.args.entity.now c.args.confirmed k)) in
    let fit : AreFit v.script c.args.p F v.state = ack_fits c.producer_keeps.ensures c.producer_routes.ensures v.script v.state c.args.p c.requires.sound c.requires.producer c.args.entity.now c.args.confirmed c.requires.queued in
    let few : AreFew v.script.config.window c.args.p F v.state = ack_few v.script v.state c.args.p c.knows.ensures.script c.requires.sound c.requires.producer c.knows_demand.ensures c.args.entity.now c.args.confirmed in
    let left : IsLeft v.script.config.window v c.note_ack.new.self c.args.out.now c.note_ack.new.out = called_left c.args.p v.script.config.window F v c.note_ack.new.self c.args.out.now c.note_ack.new.out fit few c.note_ack.ensures in
    left_room c.knows.ensures.script left c.requires.ready

pub returns : goal.returns
returns g c =
    let v : Standing = c.args.self.now in
    let F : Producer → Option Gives = (λ k. Some (acking c.args.entity.now c.args.confirmed k)) in
    let fit : AreFit v.script c.args.p F v.state = ack_fits c.producer_keeps.ensures c.producer_routes.ensures v.script v.state c.args.p c.requires.sound c.requires.producer c.args.entity.now c.args.confirmed c.requires.queued in
    subst (λ (acts : List Act). Went v c.route_pending.new.self c.args.out.now c.route_pending.new.out acts) (sym (c.rules_are_calls.ensures.acks c.args.p c.args.entity.now c.args.confirmed v.state))
    (called_went c.args.p F v c.note_ack.new.self c.route_pending.new.self c.args.out.now c.note_ack.new.out c.route_pending.new.out fit c.note_ack.ensures c.route_pending.ensures.went)
