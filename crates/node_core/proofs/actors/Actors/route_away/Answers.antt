use Rattle.std.proofs.Common.{◌≡◌, sym, ap, subst}
use Rattle.std.specs.Prelude.{Option}
use Rattle.yard_model.specs.declared.packet.Message.{Message}
use Rattle.yard_model.specs.Node as rules
use Rattle.yard_model.specs.Region.{Region, route_away}
use Rattle.yard_model.specs.Script.{Script}
use Rattle.coordinator_actor.specs.Held.{Held}
use Rattle.shard_entities.specs.Lodged.{Lodged}
use Rattle.node_core.specs.Standing.{Standing, standing_of}
use Rattle.node_core.specs.Went.{Went}
use Rattle.node_core.proofs.StepLaws.{region_went}
use Rattle.node_core.proofs.actors.Actors.route_away.Goals as goal

pub returns-clause-went : goal.returns-clause-went
returns-clause-went g c =
    let script : Script = c.self.inside.script.value in
    let r : Region = c.self.inside.region.state in
    let e : Lodged = c.self.inside.entities in
    let k : Option Held = c.self.inside.coordinator in
    let m : Message = c.args.message.now in
    subst (λ (v : Standing). Went v (standing_of script c.route_away.new.self.state e c.self.inside.producers k) c.args.out.now c.route_away.new.out (rules.of_region (route_away m) v.state)) c.self.view_is
    (region_went script r c.route_away.new.self.state e c.self.inside.producers k (route_away m r) c.args.out.now c.route_away.new.out c.route_away.ensures.state c.route_away.ensures.items c.route_away.ensures.spare)

pub returns-clause-rooms : goal.returns-clause-rooms
returns-clause-rooms g c = ap (λ (v : Standing). v.rooms) c.self.view_is

pub returns-clause-pending : goal.returns-clause-pending
returns-clause-pending g c = ap (λ (v : Standing). v.pending) c.self.view_is
