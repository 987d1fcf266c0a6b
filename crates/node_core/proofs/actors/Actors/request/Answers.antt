use Rattle.std.proofs.Common.{◌≡◌, List, ◌∙◌, sym, ap, subst, refl, true, arith}
use Rattle.std.specs.Prelude.{Option, Some}
use Rattle.yard_model.specs.Node.{Act}
use Rattle.yard_model.specs.Producer.{Producer}
use Rattle.producer_ctl.specs.Produced.{Gives, asking}
use Rattle.node_core.specs.Standing.{Standing}
use Rattle.node_core.specs.Went.{Went}
use Rattle.node_core.proofs.CallLaws.{AreFew, AreFit, IsLeft, called_left, called_went, left_rooms, left_room}
use Rattle.node_core.proofs.FitLaws.{request_fits, request_few}
use Rattle.node_core.proofs.actors.Actors.request.Goals as goal

pub note_request-requires-clause-store : goal.note_request-requires-clause-store
note_request-requires-clause-store g c there = let wide = c.requires.ready.queues c.args.p c.requires.producer there in omega (arith, wide)

pub route_pending-requires-clause-well : goal.route_pending-requires-clause-well
route_pending-requires-clause-well g c =
    let v : Standing = c.args.self.now in
    let F : Producer → Option Gives = (λ k. Some (asking c.args.entity.now c.args.confirmed c.args.up_to k)) in
    let fit : AreFit v.script c.args.p F v.state = request_fits c.producer_keeps.ensures c.producer_routes.ensures v.script v.state c.args.p c.requires.sound c.requires.producer c.args.entity.now c.args.confirmed c.args.up_to c.requires.queued in
    let few : AreFew v.script.config.window c.args.p F v.state = request_few v.script v.state c.args.p c.knows.ensures.script c.requires.sound c.requires.producer c.knows_demand.ensures c.producer_keeps.ensures c.args.entity.now c.args.confirmed c.args.up_to c.requires.queued (let near = c.requires.window in omega (arith, near)) in
    let left : IsLeft v.script.config.window v c.note_request.new.self c.args.out.now c.note_request.new.out = called_left c.args.p v.script.config.window F v c.note_request.new.self c.args.out.now c.note_request.new.out fit few c.note_request.ensures in
    left.well

pub route_pending-requires-clause-rooms : goal.route_pending-requires-clause-rooms
route_pending-requires-clause-rooms g c some =
    let v : Standing = c.args.self.now in
    let F : Producer → Option Gives = (λ k. Some (asking c.args.entity.now c.args.confirmed c.args.up_to k)) in
    let fit : AreFit v.script c.args.p F v.state = request_fits c.producer_keeps.ensures c.producer_routes.ensures v.script v.state c.args.p c.requires.sound c.requires.producer c.args.entity.now c.args.confirmed c.args.up_to c.requires.queued in
    let few : AreFew v.script.config.window c.args.p F v.state = request_few v.script v.state c.args.p c.knows.ensures.script c.requires.sound c.requires.producer c.knows_demand.ensures c.producer_keeps.ensures c.args.entity.now c.args.confirmed c.args.up_to c.requires.queued (let near = c.requires.window in omega (arith, near)) in
    let left : IsLeft v.script.config.window v c.note_request.new.self c.args.out.now c.note_request.new.out = called_left c.args.p v.script.config.window F v c.note_request.new.self c.args.out.now c.note_request.new.out fit few c.note_request.ensures in
    left_rooms _ left c.requires.sound c.requires.ready

pub route_pending-requires-clause-room : goal.route_pending-requires-clause-room
route_pending-requires-clause-room g c =
    let v : Standing = c.args.self.now in
    let F : Producer → Option Gives = (λ k. Some (asking c.args.entity.now c.args.confirmed c.args.up_to k)) in
    let fit : AreFit v.script c.args.p F v.state = request_fits c.producer_keeps.ensures c.producer_routes.ensures v.script v.state c.args.p c.requires.sound c.requires.producer c.args.entity.now c.args.confirmed c.args.up_to c.requires.queued in
    let few : AreFew v.script.config.window c.args.p F v.state = request_few v.script v.state c.args.p c.knows.ensures.script c.requires.sound c.requires.producer c.knows_demand.ensures c.producer_keeps.ensures c.args.entity.now c.args.confirmed c.args.up_to c.requires.queued (let near = c.requires.window in omega (arith, near)) in
    let left : IsLeft v.script.config.window v c.note_request.new.self c.args.out.now c.note_request.new.out = called_left c.args.p v.script.config.window F v c.note_request.new.self c.args.out.now c.note_request.new.out fit few c.note_request.ensures in
    left_room c.knows.ensures.script left c.requires.ready

pub returns : goal.returns
returns g c =
    let v : Standing = c.args.self.now in
    let F : Producer → Option Gives = (λ k. Some (asking c.args.entity.now c.args.confirmed c.args.up_to k)) in
    let fit : AreFit v.script c.args.p F v.state = request_fits c.producer_keeps.ensures c.producer_routes.ensures v.script v.state c.args.p c.requires.sound c.requires.producer c.args.entity.now c.args.confirmed c.args.up_to c.requires.queued in
    subst (λ (acts : List Act). Went v c.route_pending.new.self c.args.out.now c.route_pending.new.out acts) (sym (c.rules_are_calls.ensures.requests c.args.p c.args.entity.now c.args.confirmed c.args.up_to v.state))
    (called_went c.args.p F v c.note_request.new.self c.route_pending.new.self c.args.out.now c.note_request.new.out c.route_pending.new.out fit c.note_request.ensures c.route_pending.ensures.went)
