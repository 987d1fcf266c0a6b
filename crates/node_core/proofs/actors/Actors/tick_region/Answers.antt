use Rattle.std.proofs.Common.{List, subst}
use Rattle.std.specs.Prelude.{Option}
use Rattle.yard_model.specs.Node as rules
use Rattle.yard_model.specs.Producer.{Producer}
use Rattle.yard_model.specs.Region.{Region}
use Rattle.yard_model.specs.Script.{Script}
use Rattle.coordinator_actor.specs.Held.{Held}
use Rattle.shard_entities.specs.Lodged.{Lodged}
use Rattle.producer_ctl.specs.Producing.{Producing}
use Rattle.node_core.specs.Standing.{Standing, standing_of}
use Rattle.node_core.specs.Went.{Went}
use Rattle.yard_model.specs.Region.{tick_region}
use Rattle.node_core.proofs.StepLaws.{region_went}
use Rattle.node_core.proofs.actors.Actors.tick_region.Goals as goal

pub returns-clause-went : goal.returns-clause-went
returns-clause-went g c =
    let script : Script = c.self.inside.script.value in
    let r : Region = c.self.inside.region.state in
    let e : Lodged = c.self.inside.entities in
    let ps : Producing = c.self.inside.producers in
    let k : Option Held = c.self.inside.coordinator in
    subst (λ (v : Standing). Went v (standing_of script c.tick.new.self.state e ps k) c.args.out.now c.tick.new.out (rules.of_region tick_region v.state)) c.self.view_is
    (region_went script r c.tick.new.self.state e ps k (tick_region r) c.args.out.now c.tick.new.out c.tick.ensures.state c.tick.ensures.items c.tick.ensures.spare)
