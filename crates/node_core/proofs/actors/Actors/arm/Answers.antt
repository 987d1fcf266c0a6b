use Rattle.std.proofs.Common.{subst}
use Rattle.std.specs.Prelude.{Option}
use Rattle.yard_model.specs.Node as rules
use Rattle.yard_model.specs.Region.{Region}
use Rattle.yard_model.specs.Script.{Script}
use Rattle.coordinator_actor.specs.Held.{Held}
use Rattle.shard_entities.specs.Lodged.{Lodged}
use Rattle.producer_ctl.specs.Producing.{Producing}
use Rattle.node_core.specs.Standing.{Standing, standing_of}
use Rattle.node_core.specs.Went.{Went}
use Rattle.yard_model.specs.Entities.{arm}
use Rattle.node_core.proofs.StepLaws.{entities_went}
use Rattle.node_core.proofs.actors.Actors.arm.Goals as goal

pub returns : goal.returns
returns g c =
    let script : Script = c.self.inside.script.value in
    let r : Region = c.self.inside.region.state in
    let e : Lodged = c.self.inside.entities in
    let ps : Producing = c.self.inside.producers in
    let k : Option Held = c.self.inside.coordinator in
    subst (λ (v : Standing). Went v (standing_of script r c.arm.new.self ps k) c.args.out.now c.arm.new.out (rules.of_entities (arm c.args.entity.now c.args.keep) v.state)) c.self.view_is
    (entities_went script r e c.arm.new.self ps k (arm c.args.entity.now c.args.keep e.state) c.args.out.now c.arm.new.out c.self.invariant.0.entities_set c.arm.ensures.state c.arm.ensures.out)
