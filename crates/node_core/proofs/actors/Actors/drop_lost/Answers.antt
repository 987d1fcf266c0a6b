use Rattle.std.proofs.Common.{List, subst}
use Rattle.std.specs.Prelude.{Option}
use Rattle.yard_model.specs.Node as rules
use Rattle.yard_model.specs.Producer.{Producer}
use Rattle.yard_model.specs.Region.{Region}
use Rattle.yard_model.specs.Script.{Script}
use Rattle.coordinator_actor.specs.Held.{Held}
use Rattle.shard_entities.specs.Lodged.{Lodged}
use Rattle.producer_ctl.specs.Producing.{Producing}
use Rattle.node_core.specs.Standing.{Standing, standing_of}
use Rattle.node_core.specs.Went.{Went}
use Rattle.yard_model.specs.Coordinator.{terminate_lost}
use Rattle.node_core.proofs.StepLaws.{coordinator_went}
use Rattle.node_core.proofs.OfficeLaws.{takes_drop_lost}
use Rattle.node_core.proofs.actors.Actors.drop_lost.Goals as goal

pub returns-clause-went : goal.returns-clause-went
returns-clause-went g c =
    let script : Script = c.self.inside.script.value in
    let r : Region = c.self.inside.region.state in
    let e : Lodged = c.self.inside.entities in
    let ps : Producing = c.self.inside.producers in
    let k : Option Held = c.self.inside.coordinator in
    subst (λ (v : Standing). Went v (standing_of script r e ps c.drop_lost.new.coordinator) c.args.out.now c.drop_lost.new.out (rules.of_coordinator (terminate_lost v.state.region.view) v.state)) c.self.view_is
    (coordinator_went script r e ps (terminate_lost r.view) k c.drop_lost.new.coordinator c.args.out.now c.drop_lost.new.out (takes_drop_lost script r.view) c.drop_lost.ensures.went)
