use Rattle.std.proofs.Common.{◌≡◌, ℕ, ◌≤◌, ◌+◌, ◌-◌, List, length, map, ap, subst, ◌∙◌, sym, arith}
use Rattle.std.specs.Prelude.{Option}
use Rattle.std.specs.List.{flat_map}
use Rattle.yard_model.specs.Entities.{tick_entities}
use Rattle.yard_model.specs.Move.{item_of}
use Rattle.yard_model.specs.Node as rules
use Rattle.yard_model.specs.Producer.{Producer}
use Rattle.yard_model.specs.Region.{Region}
use Rattle.yard_model.specs.Script.{Script, IsScript}
use Rattle.yard_model.specs.declared.out.Item.{Item}
use Rattle.yard_model.specs.Spared.{Spared}
use Rattle.coordinator_actor.specs.Held.{Held}
use Rattle.shard_entities.specs.Lodged.{Lodged}
use Rattle.producer_ctl.specs.Producing.{Producing}
use Rattle.node_core.specs.Standing.{Standing, standing_of}
use Rattle.node_core.specs.Went.{Went}
use Rattle.node_core.proofs.AgainLaws.{reminds_went, reminded_room}
use Rattle.room_laws.proofs.Limits.{few_names_in}
use Rattle.room_laws.proofs.EntitiesRoom.{tick_entities_moves, tick_entities_room}
use Rattle.node_core.proofs.StepLaws.{given_spare}
use Rattle.node_core.proofs.actors.Actors.tick_entities.Goals as goal

pub tick-requires : goal.tick-requires
tick-requires g c =
    let script : IsScript c.self.inside.script.value = c.self.invariant.0.script_is in
    let few : length c.self.inside.entities.state.set.names ≤ 1000 = few_names_in c.self.inside.script.value c.self.inside.entities.state.set script c.self.invariant.0.entities_set in
    let most = tick_entities_moves c.self.inside.entities.state in
    let room = c.requires.room in
    record { room = omega (arith, few, most, room) }

pub returns-clause-went : goal.returns-clause-went
returns-clause-went g c =
    let script : Script = c.self.inside.script.value in
    let r : Region = c.self.inside.region.state in
    let e : Lodged = c.self.inside.entities in
    let ps : Producing = c.self.inside.producers in
    let k : Option Held = c.self.inside.coordinator in
    subst (λ (v : Standing). Went v v c.args.out.now c.tick.new.out (rules.of_entities tick_entities v.state)) c.self.view_is
    (reminds_went script r e ps k c.args.out.now c.tick.new.out c.self.invariant.0.entities_set c.tick.ensures)

pub returns-clause-room : goal.returns-clause-room
returns-clause-room g c =
    let few : length c.self.inside.entities.state.set.names ≤ 1000 = few_names_in c.self.inside.script.value c.self.inside.entities.state.set c.self.invariant.0.script_is c.self.invariant.0.entities_set in
    let most : length (flat_map item_of (tick_entities c.self.inside.entities.state)) ≤ length c.self.inside.entities.state.set.names = tick_entities_room c.self.inside.entities.state in
    let less : c.tick.new.out.spare ≡ c.args.out.now.spare - length (flat_map item_of (tick_entities c.self.inside.entities.state)) = ap (λ (x : Spared Item). x.spare) c.tick.ensures ∙ given_spare c.args.out.now (tick_entities c.self.inside.entities.state) in
    omega (arith, few, most, less)

pub returns-clause-rooms : goal.returns-clause-rooms
returns-clause-rooms g c = λ t n room.
    let script : Script = c.self.inside.script.value in
    let r : Region = c.self.inside.region.state in
    let e : Lodged = c.self.inside.entities in
    let ps : Producing = c.self.inside.producers in
    let k : Option Held = c.self.inside.coordinator in
    reminded_room t n (subst (λ (v : Standing). Went v v c.args.out.now c.tick.new.out (rules.of_entities tick_entities v.state)) c.self.view_is
    (reminds_went script r e ps k c.args.out.now c.tick.new.out c.self.invariant.0.entities_set c.tick.ensures)) room
