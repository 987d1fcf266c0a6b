use Rattle.std.proofs.Common.{List, sym, subst}
use Rattle.std.specs.Prelude.{Option}
use Rattle.yard_model.specs.Node as rules
use Rattle.yard_model.specs.Producer.{Producer}
use Rattle.yard_model.specs.Region.{Region}
use Rattle.yard_model.specs.Script.{Script}
use Rattle.coordinator_actor.specs.Held.{Held}
use Rattle.shard_entities.specs.Lodged.{Lodged}
use Rattle.producer_ctl.specs.Producing.{Producing}
use Rattle.node_core.specs.Standing.{Standing, standing_of}
use Rattle.node_core.specs.Went.{Went}
use Rattle.yard_model.specs.Coordinator.{coordinate}
use Rattle.node_laws.specs.NodeStands.{IsViewed}
use Rattle.node_core.proofs.PacketLaws.{seen_of}
use Rattle.node_core.proofs.StepLaws.{coordinator_went}
use Rattle.node_core.proofs.OfficeLaws.{takes_coordinate}
use Rattle.node_core.proofs.actors.Actors.coordinate.Goals as goal

pub returns : goal.returns
returns g c =
    let script : Script = c.self.inside.script.value in
    let r : Region = c.self.inside.region.state in
    let e : Lodged = c.self.inside.entities in
    let ps : Producing = c.self.inside.producers in
    let k : Option Held = c.self.inside.coordinator in
    subst (λ (v : Standing). Went v (standing_of script r e ps c.coordinate.new.coordinator) c.args.out.now c.coordinate.new.out (rules.of_coordinator (coordinate c.args.packet.now.from c.args.packet.now.body v.state.region.view) v.state)) c.self.view_is
    (coordinator_went script r e ps (coordinate c.args.packet.now.from c.args.packet.now.body r.view) k c.coordinate.new.coordinator c.args.out.now c.coordinate.new.out (takes_coordinate script c.args.packet.now.from c.args.packet.now.body r.view) c.coordinate.ensures)

pub coordinate-requires-clause-seen : goal.coordinate-requires-clause-seen
coordinate-requires-clause-seen g c = seen_of c.self.inside.script.value c.self.inside.region.state c.self.inside.entities c.self.inside.producers c.self.inside.coordinator (subst (λ (v : Standing). IsViewed v.state) (sym c.self.view_is) c.requires.viewed)
