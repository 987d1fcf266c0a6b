use Rattle.std.proofs.Common.{◌≡◌, ◌∙◌, ◌-◌, sym, ap, subst, refl}
use Rattle.std.specs.Prelude.{Option, Some}
use Rattle.yard_model.specs.Region.{Region}
use Rattle.yard_model.specs.Script.{Script}
use Rattle.yard_model.specs.Words.{at}
use Rattle.coordinator_actor.specs.Held.{Held}
use Rattle.shard_entities.specs.Lodged.{Lodged}
use Rattle.producer_ctl.specs.Produced.{acking}
use Rattle.producer_ctl.specs.Producing.{Producing, of_held}
use Rattle.node_core.specs.Calling.{Called, given_of}
use Rattle.node_core.specs.Standing.{Standing, standing_of}
use Rattle.node_core.proofs.CallLaws.{called_of, then_is}
use Rattle.node_core.proofs.actors.Actors.note_ack.Goals as goal

pub returns : goal.returns
returns g c =
    let script : Script = c.self.inside.script.value in
    let r : Region = c.self.inside.region.state in
    let e : Lodged = c.self.inside.entities in
    let ps : Producing = c.self.inside.producers in
    let k : Option Held = c.self.inside.coordinator in
    let p = c.args.p in
    subst (λ (v : Standing). Called p (given_of (λ x. Some (acking c.args.entity.now c.args.confirmed x)) p v.state) v (standing_of script r e c.ack.new.self k) c.args.out.now c.ack.new.out) c.self.view_is
    (called_of script r e ps c.ack.new.self k p (of_held (acking c.args.entity.now c.args.confirmed) p ps) (given_of (λ x. Some (acking c.args.entity.now c.args.confirmed x)) p (standing_of script r e ps k).state) c.args.out.now c.ack.new.out c.self.invariant.0.queues_script c.self.invariant.0.queues_who
    (then_is (acking c.args.entity.now c.args.confirmed) (at ps.producers (p - 1))) c.ack.ensures.state c.ack.ensures.out)
