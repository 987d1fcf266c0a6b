use Rattle.std.proofs.Common.{◌<◌, ◌≤◌, sym, ap, ◌∙◌, subst, arith}
use Rattle.world_sim.specs.Found.{is_up_in}
use Rattle.world_sim.specs.Yard.{Yard}
use Rattle.world_sim.proofs.DeliveryLaws.{may_packet, over_apart, over_given, over_past, up_is}
use Rattle.world_sim.proofs.yard.Yard.hand_over.Goals as goal

pub give_packet-requires : goal.give_packet-requires
give_packet-requires g c = (
  c.requires.0,
  may_packet c.args.number c.args.self.now c.requires.0 c.args.packet.now c.requires.1 (subst (λ (v : Yard). v.force.past < c.args.number) c.self.view_is (omega (arith, c.if-number-self.false)))
      (sym (up_is c.args.self.now c.requires.0 c.args.packet.now.to c.requires.1.sound) ∙ (ap (λ (v : Yard). is_up_in c.args.packet.now.to v.nodes) (sym c.self.view_is) ∙ (sym c.is_up.ensures ∙ c.if-not-is_up.false))),
)

pub returns-then-number-self : goal.returns-then-number-self
returns-then-number-self g c = over_past c.args.self.now c.args.number c.args.packet.now c.args.facts.now (subst (λ (v : Yard). c.args.number ≤ v.force.past) c.self.view_is c.if-number-self.true)

pub returns-then-not-is_up : goal.returns-then-not-is_up
returns-then-not-is_up g c =
    over_apart c.args.self.now c.args.number c.args.packet.now c.args.facts.now
    (sym (up_is c.args.self.now c.requires.0 c.args.packet.now.to c.requires.1.sound) ∙ (ap (λ (v : Yard). is_up_in c.args.packet.now.to v.nodes) (sym c.self.view_is) ∙ (sym c.is_up.ensures ∙ c.if-not-is_up.true)))

pub returns : goal.returns
returns g c =
    over_given c.args.self.now c.args.packet.now c.args.number c.give_packet.result c.give_packet.new.self c.args.facts.now c.give_packet.new.facts (subst (λ (v : Yard). v.force.past < c.args.number) c.self.view_is (omega (arith, c.if-number-self.false)))
    (sym (up_is c.args.self.now c.requires.0 c.args.packet.now.to c.requires.1.sound) ∙ (ap (λ (v : Yard). is_up_in c.args.packet.now.to v.nodes) (sym c.self.view_is) ∙ (sym c.is_up.ensures ∙ c.if-not-is_up.false))) c.give_packet.ensures.stepped
