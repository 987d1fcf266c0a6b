use Rattle.std.proofs.Common.{◌≡◌, sym, ap, subst, ◌∙◌}
use Rattle.yard_model.specs.declared.input.Input.TheVariants as input
use Rattle.yard_model.specs.Node.{Node, turn}
use Rattle.yard_model.specs.Script.{Script}
use Rattle.yard_model.specs.World.{all_sends}
use Rattle.node_laws.specs.NodeStands.{IsSoundNode, IsViewed}
use Rattle.shard_lease.specs.Meaning.{Meaning}
use Rattle.node_core.specs.Standing.{Standing}
use Rattle.node_core.specs.Gave.{Moment, moment}
use Rattle.node_core.specs.Turned.{Turned}
use Rattle.node_core.proofs.GaveLaws.{who_after}
use Rattle.node_core.proofs.TurnLaws.{input_turned, turned_sound, turned_viewed}
use Rattle.node_core.proofs.node.Node.handle_packet.Goals as goal

pub returns-clause-turned : goal.returns-clause-turned
returns-clause-turned g c =
    let old : Meaning = g.L.Leases.meaning c.args.leases.now in
    let new : Meaning = g.L.Leases.meaning c.packet.new.leases in
    input_turned c.self.inside.actors c.args.self.now c.args.charter.now (input.Packet c.args.packet.now) old new c.args.out.now.items c.packet.new.out.items c.packet.new.self.state c.self.view_is c.requires.charter c.config.ensures.script c.turn_stands.ensures c.self.invariant c.requires.may c.packet.ensures.gave

pub returns-clause-who : goal.returns-clause-who
returns-clause-who g c =
    let old : Meaning = g.L.Leases.meaning c.args.leases.now in
    let new : Meaning = g.L.Leases.meaning c.packet.new.leases in
    let turned = input_turned c.self.inside.actors c.args.self.now c.args.charter.now (input.Packet c.args.packet.now) old new c.args.out.now.items c.packet.new.out.items c.packet.new.self.state c.self.view_is c.requires.charter c.config.ensures.script c.turn_stands.ensures c.self.invariant c.requires.may c.packet.ensures.gave in
    ap (λ (x : Node). x.who) turned.node_is ∙ who_after c.args.self.now.state turned.told

pub invariant_of-self : goal.invariant_of-self
invariant_of-self g c =
    let old : Meaning = g.L.Leases.meaning c.args.leases.now in
    let new : Meaning = g.L.Leases.meaning c.packet.new.leases in
    let script : Script = c.args.self.now.script in
    let before : Moment = moment old c.args.self.now.state c.args.out.now.items in
    let now : Moment = moment new c.packet.new.self.state c.packet.new.out.items in
    let turned : Turned script (λ lists. turn (all_sends script) lists (input.Packet c.args.packet.now) c.args.self.now.state) before now = input_turned c.self.inside.actors c.args.self.now c.args.charter.now (input.Packet c.args.packet.now) old new c.args.out.now.items c.packet.new.out.items c.packet.new.self.state c.self.view_is c.requires.charter c.config.ensures.script c.turn_stands.ensures c.self.invariant c.requires.may c.packet.ensures.gave in
    let same : c.packet.new.self.script ≡ script = c.packet.ensures.script ∙ ap (λ (v : Standing). v.script) c.self.view_is in (
      subst (λ (s : Script). IsSoundNode s c.packet.new.self.state) (sym same) (turned_sound script (input.Packet c.args.packet.now) before now turned),
      turned_viewed script (input.Packet c.args.packet.now) before now c.turn_viewed.ensures (subst (λ (v : Standing). IsViewed v.state) c.self.view_is c.self.invariant.1) turned,
    )
