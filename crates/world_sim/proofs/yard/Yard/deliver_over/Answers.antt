use Rattle.std.proofs.Common.{sym, ap, ◌∙◌}
use Rattle.std.specs.Prelude.{Some, None}
use Rattle.wire_packet.specs.Wire.{packet_at}
use Rattle.world_sim.specs.Yard.{Yard, Delivers}
use Rattle.world_sim.proofs.DeliveryLaws.{deliver_stepped, nothing_stepped, deliver_as, weak_to}
use Rattle.world_sim.proofs.yard.Yard.deliver_over.Goals as goal

pub returns-then-not-has : goal.returns-then-not-has
returns-then-not-has g c =
    weak_to (Delivers c.args.number) 0 _ c.push.result c.args.self.now _ c.args.facts.now c.push.new.self
    (nothing_stepped _ 0 c.push.result c.args.self.now c.args.facts.now c.push.new.self c.push.ensures.ok c.push.ensures.err (λ w s.
    deliver_as c.args.self.now c.args.number None w (ap (λ (v : Yard). packet_at v.mail.packets c.args.number) (sym c.self.view_is) ∙ c.has.ensures.packet.0 c.if-not-has.true) s))

pub returns : goal.returns
returns g c =
    deliver_stepped c.args.self.now c.args.number (Some c.write.new.packet) c.deliver_packet.result c.deliver_packet.new.self c.args.facts.now c.deliver_packet.new.facts
    (ap (λ (v : Yard). packet_at v.mail.packets c.args.number) (sym c.self.view_is) ∙ c.write.ensures) c.deliver_packet.ensures
