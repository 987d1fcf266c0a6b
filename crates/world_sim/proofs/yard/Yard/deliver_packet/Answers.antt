use Rattle.std.specs.Prelude.{Some}
use Rattle.yard_model.specs.World.{deliver_by, hand_over}
use Rattle.world_sim.specs.Steps.{marked}
use Rattle.world_sim.specs.Yard.{IsSound, IsSoundTo, Delivers}
use Rattle.world_sim.proofs.DeliveryLaws.{marked_sound, over_stepped, posted_inside}
use Rattle.world_sim.proofs.StepLaws.{cut_from, step_cut, step_err}
use Rattle.world_sim.proofs.yard.Yard.deliver_packet.Goals as goal

pub mark-requires-clause-world : goal.mark-requires-clause-world
mark-requires-clause-world g c = (c.requires.world.0, c.requires.world.1.sound)

pub hand_over-requires : goal.hand_over-requires
hand_over-requires g c =
    let r = c.requires.world in
    let m = c.in_ok-mark.ensures in
    ((marked c.args.number r.0).world, marked_sound c.standing_is_kept.ensures c.args.self.now c.mark.new.self r.0 c.args.number c.args.packet.now c.args.facts.now c.mark.new.facts r.1 c.requires.above c.requires.posted m.script_is (m.goes r.0 r.1.sound))

pub returns : goal.returns
returns g c = over_stepped c.standing_is_kept.ensures c.args.self.now c.mark.new.self c.args.number c.args.packet.now c.hand_over.result c.hand_over.new.self c.args.facts.now c.mark.new.facts c.hand_over.new.facts c.requires.above c.requires.posted c.in_ok-mark.ensures c.hand_over.ensures

pub returns-in_err-mark : goal.returns-in_err-mark
returns-in_err-mark g c = step_err (IsSoundTo (Delivers c.args.number)) 0 (deliver_by c.args.number (Some c.args.packet.now)) c.from_residual.result _ _ _ _ c.from_residual.ensures.0 (step_cut (IsSoundTo (Delivers c.args.number)) (marked c.args.number) (hand_over c.args.number c.args.packet.now) c.args.self.now c.mark.new.self c.args.facts.now c.mark.new.facts
    (cut_from IsSound (IsSoundTo (Delivers c.args.number)) (marked c.args.number) c.args.self.now c.mark.new.self c.args.facts.now c.mark.new.facts (λ w s. s.sound) c.in_err-mark.ensures))

pub mark-requires-clause-posted : goal.mark-requires-clause-posted
mark-requires-clause-posted g c = posted_inside c.args.self.now.mail.packets c.args.number c.args.packet.now c.requires.above c.requires.posted
