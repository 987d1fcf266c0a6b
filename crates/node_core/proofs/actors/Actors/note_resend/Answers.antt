use Rattle.std.proofs.Common.{◌≡◌, ◌∙◌, ◌-◌, sym, ap, subst, refl}
use Rattle.std.specs.Prelude.{Option, Some}
use Rattle.yard_model.specs.Region.{Region}
use Rattle.yard_model.specs.Script.{Script}
use Rattle.yard_model.specs.Words.{at}
use Rattle.coordinator_actor.specs.Held.{Held}
use Rattle.shard_entities.specs.Lodged.{Lodged}
use Rattle.producer_ctl.specs.Produced.{given, resending}
use Rattle.producer_ctl.specs.Producing.{Producing, of_held}
use Rattle.node_core.specs.Calling.{Called, given_of}
use Rattle.node_core.specs.Standing.{Standing, standing_of}
use Rattle.node_core.proofs.CallLaws.{called_of, resend_told, then_is}
use Rattle.node_core.proofs.actors.Actors.note_resend.Goals as goal

pub returns : goal.returns
returns g c =
    let script : Script = c.self.inside.script.value in
    let r : Region = c.self.inside.region.state in
    let e : Lodged = c.self.inside.entities in
    let ps : Producing = c.self.inside.producers in
    let k : Option Held = c.self.inside.coordinator in
    let p = c.args.p in
    subst (λ (v : Standing). Called p (given_of (λ x. Some (resending c.args.entity.now c.args.from x)) p v.state) v (standing_of script r e c.resend.new.self k) c.args.out.now c.args.out.now) c.self.view_is
    (called_of script r e ps c.resend.new.self k p (of_held (resending c.args.entity.now c.args.from) p ps) (given_of (λ x. Some (resending c.args.entity.now c.args.from x)) p (standing_of script r e ps k).state) c.args.out.now c.args.out.now c.self.invariant.0.queues_script c.self.invariant.0.queues_who
    (then_is (resending c.args.entity.now c.args.from) (at ps.producers (p - 1))) c.resend.ensures (ap (given c.args.out.now) (sym (resend_told c.args.entity.now c.args.from (at ps.producers (p - 1))))))
