use Rattle.std.proofs.Common.{subst}
use Rattle.std.specs.Prelude.{Option}
use Rattle.yard_model.specs.Entities.{ask_to_passivate}
use Rattle.yard_model.specs.Node as rules
use Rattle.yard_model.specs.Region.{Region}
use Rattle.yard_model.specs.Script.{Script}
use Rattle.coordinator_actor.specs.Held.{Held}
use Rattle.shard_entities.specs.Lodged.{Lodged}
use Rattle.producer_ctl.specs.Producing.{Producing}
use Rattle.node_core.specs.Standing.{Standing}
use Rattle.node_core.specs.Went.{Went}
use Rattle.node_core.proofs.StepLaws.{asks_went}
use Rattle.node_core.proofs.actors.Actors.ask_to_passivate.Goals as goal

pub returns : goal.returns
returns g c =
    let script : Script = c.self.inside.script.value in
    let r : Region = c.self.inside.region.state in
    let e : Lodged = c.self.inside.entities in
    let ps : Producing = c.self.inside.producers in
    let k : Option Held = c.self.inside.coordinator in
    subst (λ (v : Standing). Went v v c.args.out.now c.ask_to_passivate.new.out (rules.of_entities (ask_to_passivate c.args.entity.now) v.state)) c.self.view_is
    (asks_went script r e ps k c.args.entity.now c.args.out.now c.ask_to_passivate.new.out c.self.invariant.0.entities_set c.ask_to_passivate.ensures)
