use Rattle.std.proofs.Common.{◌+◌, ◌≤◌, sym, ap, subst, ◌∙◌, length, arith}
use Rattle.std.specs.List.{flat_map}
use Rattle.std.specs.Prelude.{Option, Some}
use Rattle.yard_model.specs.Coordinator.{Coordinator, tick_coordinator}
use Rattle.yard_model.specs.Move.{item_of}
use Rattle.coordinator_actor.specs.Held.{Held}
use Rattle.node_core.specs.Went.{CoordinatorWent}
use Rattle.room_laws.proofs.CoordinatorRoom.{tick_coordinator_room}
use Rattle.room_laws.proofs.Limits.{few_shards_in}
use Rattle.node_core.proofs.StepLaws.{coordinator_did, coordinator_absent}
use Rattle.node_core.proofs.coordinator_part.tick_coordinator.Goals as goal

pub returns-in-Some-clause-went : goal.returns-in-Some-clause-went
returns-in-Some-clause-went c =
    let k : Held = c.in-Some.coordinator in
    subst (λ (o : Option Held). CoordinatorWent tick_coordinator o (Some c.tick.new.self) c.args.out.now c.tick.new.out) (sym c.in-Some.is)
    (coordinator_did tick_coordinator k c.tick.new.self c.args.out.now c.tick.new.out c.tick.ensures.state c.tick.ensures.items c.tick.ensures.spare (ap (λ l. length l + c.tick.new.self.spare) c.tick.ensures.kept ∙ ap (λ n. length k.state.entries + n) c.tick.ensures.entries) c.tick.ensures.script
    (ap (λ (s : Coordinator). s.who) c.tick.ensures.state ∙ c.same_law.ensures.who k.state (tick_coordinator k.state))
    (ap (λ (s : Coordinator). s.set) c.tick.ensures.state ∙ c.same_law.ensures.set k.state (tick_coordinator k.state)))

pub returns-in-Some-clause-room : goal.returns-in-Some-clause-room
returns-in-Some-clause-room c =
    let k : Held = c.in-Some.coordinator in
    let most : length (flat_map item_of (tick_coordinator k.state)) ≤ 2304 = tick_coordinator_room k.state c.room.ensures.regions c.room.ensures.moving c.room.ensures.awaited (few_shards_in k.script k.state.set c.who.ensures.script c.who.ensures.set) in
    let spent = c.tick.ensures.spare in
    omega (arith, most, spent)

pub returns-in_default-clause-went : goal.returns-in_default-clause-went
returns-in_default-clause-went c = coordinator_absent tick_coordinator c.args.coordinator.now c.args.out.now c.in_default.is

pub tick-requires : goal.tick-requires
tick-requires c =
    let k : Held = c.in-Some.coordinator in
    let most : length (flat_map item_of (tick_coordinator k.state)) ≤ 2304 = tick_coordinator_room k.state c.room.ensures.regions c.room.ensures.moving c.room.ensures.awaited (few_shards_in k.script k.state.set c.who.ensures.script c.who.ensures.set) in
    let room : 2304 ≤ c.args.out.now.spare = c.requires.room in
    record { room = omega (arith, most, room) }
