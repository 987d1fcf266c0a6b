use Rattle.std.proofs.Common.{sym, ap, subst, ◌∙◌, length}
use Rattle.std.specs.Prelude.{Option, Some}
use Rattle.yard_model.specs.Coordinator.{Coordinator, coordinate}
use Rattle.coordinator_actor.specs.Held.{Held}
use Rattle.node_core.specs.Went.{CoordinatorWent}
use Rattle.std.proofs.Common.{◌≤◌, arith}
use Rattle.std.specs.List.{flat_map}
use Rattle.yard_model.specs.Move.{item_of}
use Rattle.room_laws.proofs.CoordinatorRoom.{coordinate_room}
use Rattle.room_laws.proofs.Limits.{few_shards_in}
use Rattle.node_core.proofs.StepLaws.{coordinator_did, coordinator_absent}
use Rattle.node_core.proofs.coordinator_part.coordinate.Goals as goal

pub returns-in-Some : goal.returns-in-Some
returns-in-Some c =
    let k : Held = c.in-Some.coordinator in
    subst (λ (o : Option Held). CoordinatorWent (coordinate c.args.packet.now.from c.args.packet.now.body c.args.region.now.state.view) o (Some c.handle.new.self) c.args.out.now c.handle.new.out) (sym c.in-Some.is)
    (subst (λ v. CoordinatorWent (coordinate c.args.packet.now.from c.args.packet.now.body v) (Some k) (Some c.handle.new.self) c.args.out.now c.handle.new.out) c.view.ensures.members
    (coordinator_did (coordinate c.args.packet.now.from c.args.packet.now.body c.view.result.now.members) k c.handle.new.self c.args.out.now c.handle.new.out c.handle.ensures.state c.handle.ensures.items c.handle.ensures.spare c.handle.ensures.entries c.handle.ensures.script
    (ap (λ (s : Coordinator). s.who) c.handle.ensures.state ∙ c.same_law.ensures.who k.state (coordinate c.args.packet.now.from c.args.packet.now.body c.view.result.now.members k.state))
    (ap (λ (s : Coordinator). s.set) c.handle.ensures.state ∙ c.same_law.ensures.set k.state (coordinate c.args.packet.now.from c.args.packet.now.body c.view.result.now.members k.state))))

pub returns-in_default : goal.returns-in_default
returns-in_default c = coordinator_absent (coordinate c.args.packet.now.from c.args.packet.now.body c.args.region.now.state.view) c.args.coordinator.now c.args.out.now c.in_default.is

pub handle-requires-clause-room : goal.handle-requires-clause-room
handle-requires-clause-room c =
    let k : Held = c.in-Some.coordinator in
    let most : length (flat_map item_of (coordinate c.args.packet.now.from c.args.packet.now.body c.view.result.now.members k.state)) ≤ 2176 =
    coordinate_room c.args.packet.now.from c.args.packet.now.body c.view.result.now.members k.state c.room.ensures.regions c.room.ensures.moving (few_shards_in k.script k.state.set c.who.ensures.script c.who.ensures.set) in
    let room : 2500 ≤ c.args.out.now.spare = c.requires.room in
    omega (arith, most, room)
