use Rattle.std.proofs.Common.{List, sym, ap, subst, ◌≡◌, true}
use Rattle.std.specs.Prelude.{Option, if◌then◌else◌}
use Rattle.yard_model.specs.Genuine.{is_genuine, is_producer}
use Rattle.yard_model.specs.Node as rules
use Rattle.yard_model.specs.Producer.{Producer}
use Rattle.yard_model.specs.Region.{Region}
use Rattle.yard_model.specs.Script.{Script, setting}
use Rattle.coordinator_actor.specs.Held.{Held}
use Rattle.shard_entities.specs.Lodged.{Lodged}
use Rattle.producer_ctl.specs.Producing.{Producing}
use Rattle.node_core.specs.Standing.{Standing, standing_of}
use Rattle.node_core.specs.Went.{Went}
use Rattle.yard_model.specs.declared.input.Phase.TheVariants as phase
use Rattle.yard_model.specs.declared.packet.Message.{Message}
use Rattle.yard_model.specs.Entities.{deliver, is_in_phase}
use Rattle.yard_model.specs.Setting.{shard_of}
use Rattle.shard_entities.specs.Placed.{IsPlace}
use Rattle.shard_entities.specs.Roomy.{Takes}
use Rattle.node_core.specs.Releasing.{TookRoom}
use Rattle.node_core.proofs.PartLaws.{parts_moved}
use Rattle.node_core.proofs.StepLaws.{entities_went}
use Rattle.node_core.proofs.actors.Actors.deliver.Goals as goal

pub returns-clause-went : goal.returns-clause-went
returns-clause-went g c =
    let script : Script = c.self.inside.script.value in
    let r : Region = c.self.inside.region.state in
    let e : Lodged = c.self.inside.entities in
    let ps : Producing = c.self.inside.producers in
    let k : Option Held = c.self.inside.coordinator in
    subst (λ (v : Standing). Went v (standing_of script r c.deliver_at.new.self ps k) c.args.out.now c.deliver_at.new.out (rules.of_entities (deliver c.args.message.now) v.state)) c.self.view_is
    (entities_went script r e c.deliver_at.new.self ps k (deliver c.args.message.now e.state) c.args.out.now c.deliver_at.new.out c.self.invariant.0.entities_set c.deliver_at.ensures.state c.deliver_at.ensures.out)

pub invariant_of-self : goal.invariant_of-self
invariant_of-self g c = (parts_moved (deliver c.args.message.now c.self.inside.entities.state) c.deliver_at.ensures.state c.self.invariant.0, c.self.invariant.1)

pub deliver_at-requires-clause-producer : goal.deliver_at-requires-clause-producer
deliver_at-requires-clause-producer g c = subst (λ (d : Script). is_producer d c.args.message.now.producer ≡ true) (sym c.self.invariant.0.entities_script)
    (c.genuine_is_message.ensures c.self.inside.script.value c.args.message.now c.self.invariant.0.script_is (subst (λ (v : Standing). is_genuine v.script c.args.message.now ≡ true) (sym c.self.view_is) c.requires.genuine)).producer_is

pub returns-clause-taken : goal.returns-clause-taken
returns-clause-taken g c =
    let script : Script = c.self.inside.script.value in
    let e : Lodged = c.self.inside.entities in
    let now : Lodged = c.deliver_at.new.self in
    let m : Message = c.args.message.now in
    let takes : Takes e now (shard_of (setting script) m.entity) (if is_in_phase phase.Active e.state m.entity then 2 else 0) = subst (λ (d : Script). Takes e now (shard_of (setting d) m.entity) (if is_in_phase phase.Active e.state m.entity then 2 else 0)) c.self.invariant.0.entities_script c.deliver_at.ensures.takes in
    subst (λ (v : Standing). TookRoom (shard_of v.state.set m.entity) (if is_in_phase phase.Active v.state.entities m.entity then 2 else 0) v (standing_of script c.self.inside.region.state now c.self.inside.producers c.self.inside.coordinator)) c.self.view_is takes.room_is

pub returns-clause-pending : goal.returns-clause-pending
returns-clause-pending g c = ap (λ (v : Standing). v.pending) c.self.view_is

pub deliver_at-requires-clause-place : goal.deliver_at-requires-clause-place
deliver_at-requires-clause-place g c = subst (λ (d : Script). IsPlace d c.args.place.now) (sym c.self.invariant.0.entities_script) (subst (λ (v : Standing). IsPlace v.script c.args.place.now) (sym c.self.view_is) c.requires.place)
