use Rattle.std.proofs.Common.{◌≡◌, ◌<◌, ◌*◌, List, sym, subst, arith}
use Rattle.std.specs.Prelude.{Option, None, slice_index_or}
use Rattle.yard_model.specs.Node as rules
use Rattle.yard_model.specs.Producer.{Producer}
use Rattle.yard_model.specs.Region.{Region}
use Rattle.yard_model.specs.Script.{Script, setting}
use Rattle.yard_model.specs.Setting.{shard_of}
use Rattle.coordinator_actor.specs.Held.{Held}
use Rattle.shard_entities.specs.Lodged.{Lodged}
use Rattle.producer_ctl.specs.Producing.{Producing}
use Rattle.node_core.specs.Standing.{Standing, IsReady, standing_of}
use Rattle.node_core.specs.Went.{Went}
use Rattle.yard_model.specs.Entities.{hosted, recovered}
use Rattle.node_core.proofs.PartLaws.{parts_moved}
use Rattle.node_core.proofs.StepLaws.{entities_went}
use Rattle.node_core.proofs.actors.Actors.recovered.Goals as goal

pub returns : goal.returns
returns g c =
    let script : Script = c.self.inside.script.value in
    let r : Region = c.self.inside.region.state in
    let e : Lodged = c.self.inside.entities in
    let ps : Producing = c.self.inside.producers in
    let k : Option Held = c.self.inside.coordinator in
    subst (λ (v : Standing). Went v (standing_of script r c.recovered.new.self ps k) c.args.out.now c.recovered.new.out (rules.of_entities (recovered c.args.entity.now) v.state)) c.self.view_is
    (entities_went script r e c.recovered.new.self ps k (recovered c.args.entity.now e.state) c.args.out.now c.recovered.new.out c.self.invariant.0.entities_set c.recovered.ensures.state c.recovered.ensures.out)

pub invariant_of-self : goal.invariant_of-self
invariant_of-self g c = (parts_moved (recovered c.args.entity.now c.self.inside.entities.state) c.recovered.ensures.state c.self.invariant.0, c.self.invariant.1)

pub recovered-requires-clause-there : goal.recovered-requires-clause-there
recovered-requires-clause-there g c =
    let script : Script = c.self.inside.script.value in
    let e : Lodged = c.self.inside.entities in
    let ready : IsReady (standing_of script c.self.inside.region.state e c.self.inside.producers c.self.inside.coordinator) c.args.out.now.spare = subst (λ (v : Standing). IsReady v c.args.out.now.spare) (sym c.self.view_is) c.requires.ready in
    subst (λ (d : Script). (hosted e.state (shard_of (setting d) c.args.entity.now) ≡ None → ⊥) → 2 * d.config.window < slice_index_or e.rooms (shard_of (setting d) c.args.entity.now) 0) (sym c.self.invariant.0.entities_script)
    (λ there. let wide = ready.rooms (shard_of (setting script) c.args.entity.now) there in omega (arith, wide))
