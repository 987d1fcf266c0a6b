use Rattle.std.proofs.Common.{sym, subst}
use Rattle.std.specs.Prelude.{Bool}
use Rattle.yard_model.specs.declared.incarnation.Slot.{Slot}
use Rattle.yard_model.specs.Node as rules
use Rattle.yard_model.specs.Node.{Node}
use Rattle.yard_model.specs.Script.{Script}
use Rattle.shard_lease.specs.Meaning.{Meaning}
use Rattle.node_laws.specs.NodeTurns.{MayTake}
use Rattle.node_core.specs.Calling.{asks_queue}
use Rattle.node_core.specs.Found.{none}
use Rattle.node_core.specs.Gave.{Gave, moment}
use Rattle.yard_model.specs.declared.input.Input.{Input}
use Rattle.yard_model.specs.Region.{leave}
use Rattle.yard_model.specs.World.{all_sends}
use Rattle.node_core.proofs.GiveLaws.{region_gave}
use Rattle.node_core.proofs.ProduceLaws.{sent_gave}
use Rattle.node_core.proofs.PacketLaws.{leaves_free, rebalanced_gave, ask_gave, armed_gave}
use Rattle.node_core.proofs.actors.Actors.input.Goals as goal

pub returns-in-Packet-clause-gave : goal.returns-in-Packet-clause-gave
returns-in-Packet-clause-gave g c =
    let old : Meaning = g.L.Leases.meaning c.args.leases.now in
    let script : Script = c.args.self.now.script in
    let st : Node = c.args.self.now.state in
    subst (λ (i : Input). (asked : (Slot → Bool)) × Gave script asked (λ lists. rules.turn (all_sends script) lists i st) (moment old st c.args.out.now.items) (moment (g.L.Leases.meaning c.packet.new.leases) c.packet.new.self.state c.packet.new.out.items)) (sym c.in-Packet.is)
    (c.packet.ensures.gave.0, c.packet.ensures.gave.1)

pub returns-in-Tick-clause-gave : goal.returns-in-Tick-clause-gave
returns-in-Tick-clause-gave g c =
    let old : Meaning = g.L.Leases.meaning c.args.leases.now in
    let script : Script = c.args.self.now.script in
    let st : Node = c.args.self.now.state in
    subst (λ (i : Input). (asked : (Slot → Bool)) × Gave script asked (λ lists. rules.turn (all_sends script) lists i st) (moment old st c.args.out.now.items) (moment (g.L.Leases.meaning c.tick.new.leases) c.tick.new.self.state c.tick.new.out.items)) (sym c.in-Tick.is)
    (c.tick.ensures.gave.0, c.tick.ensures.gave.1)

pub returns-in-Leave-clause-gave : goal.returns-in-Leave-clause-gave
returns-in-Leave-clause-gave g c =
    let old : Meaning = g.L.Leases.meaning c.args.leases.now in
    let script : Script = c.args.self.now.script in
    let st : Node = c.args.self.now.state in
    subst (λ (i : Input). (asked : (Slot → Bool)) × Gave script asked (λ lists. rules.turn (all_sends script) lists i st) (moment old st c.args.out.now.items) (moment old c.leave.new.self.state c.leave.new.out.items)) (sym c.in-Leave.is)
    (none, region_gave old c.args.self.now c.leave.new.self (leave st.region) c.args.out.now c.leave.new.out c.knows.ensures.entities (leaves_free st.region) c.requires.rests c.leave.ensures)

pub returns-in-Rebalance-clause-gave : goal.returns-in-Rebalance-clause-gave
returns-in-Rebalance-clause-gave g c =
    let old : Meaning = g.L.Leases.meaning c.args.leases.now in
    let script : Script = c.args.self.now.script in
    let st : Node = c.args.self.now.state in
    subst (λ (i : Input). (asked : (Slot → Bool)) × Gave script asked (λ lists. rules.turn (all_sends script) lists i st) (moment old st c.args.out.now.items) (moment old c.rebalance.new.self.state c.rebalance.new.out.items)) (sym c.in-Rebalance.is)
    (none, rebalanced_gave old c.args.self.now c.rebalance.new.self c.in-Rebalance.limit c.args.out.now c.rebalance.new.out c.requires.sound c.requires.rests c.rebalance.ensures)

pub returns-in-Passivate-clause-gave : goal.returns-in-Passivate-clause-gave
returns-in-Passivate-clause-gave g c =
    let old : Meaning = g.L.Leases.meaning c.args.leases.now in
    let script : Script = c.args.self.now.script in
    let st : Node = c.args.self.now.state in
    subst (λ (i : Input). (asked : (Slot → Bool)) × Gave script asked (λ lists. rules.turn (all_sends script) lists i st) (moment old st c.args.out.now.items) (moment old c.ask_to_passivate.new.self.state c.ask_to_passivate.new.out.items)) (sym c.in-Passivate.is)
    (none, ask_gave old c.args.self.now c.ask_to_passivate.new.self c.in-Passivate.entity c.args.out.now c.ask_to_passivate.new.out c.requires.sound c.requires.rests c.ask_to_passivate.ensures)

pub returns-in-FailWrite-clause-gave : goal.returns-in-FailWrite-clause-gave
returns-in-FailWrite-clause-gave g c =
    let old : Meaning = g.L.Leases.meaning c.args.leases.now in
    let script : Script = c.args.self.now.script in
    let st : Node = c.args.self.now.state in
    subst (λ (i : Input). (asked : (Slot → Bool)) × Gave script asked (λ lists. rules.turn (all_sends script) lists i st) (moment old st c.args.out.now.items) (moment old c.arm.new.self.state c.arm.new.out.items)) (sym c.in-FailWrite.is)
    (none, armed_gave old c.args.self.now c.arm.new.self c.in-FailWrite.entity c.in-FailWrite.keep c.args.out.now c.arm.new.out c.requires.sound c.requires.rests c.arm.ensures)

pub returns-in-Produce-clause-gave : goal.returns-in-Produce-clause-gave
returns-in-Produce-clause-gave g c =
    let old : Meaning = g.L.Leases.meaning c.args.leases.now in
    let script : Script = c.args.self.now.script in
    let st : Node = c.args.self.now.state in
    subst (λ (i : Input). (asked : (Slot → Bool)) × Gave script asked (λ lists. rules.turn (all_sends script) lists i st) (moment old st c.args.out.now.items) (moment (g.L.Leases.meaning c.produce.new.leases) c.produce.new.self.state c.produce.new.out.items)) (sym c.in-Produce.is)
    (asks_queue c.in-Produce.p st, c.produce.ensures.gave)

pub returns-in-Rest-clause-gave : goal.returns-in-Rest-clause-gave
returns-in-Rest-clause-gave g c =
    let old : Meaning = g.L.Leases.meaning c.args.leases.now in
    let script : Script = c.args.self.now.script in
    let st : Node = c.args.self.now.state in
    subst (λ (i : Input). (asked : (Slot → Bool)) × Gave script asked (λ lists. rules.turn (all_sends script) lists i st) (moment old st c.args.out.now.items) (moment (g.L.Leases.meaning c.rest.new.leases) c.rest.new.self.state c.rest.new.out.items)) (sym c.in-Rest.is)
    (none, c.rest.ensures.gave)

pub returns-in-Send-clause-gave : goal.returns-in-Send-clause-gave
returns-in-Send-clause-gave g c =
    let old : Meaning = g.L.Leases.meaning c.args.leases.now in
    let script : Script = c.args.self.now.script in
    let st : Node = c.args.self.now.state in
    subst (λ (i : Input). (asked : (Slot → Bool)) × Gave script asked (λ lists. rules.turn (all_sends script) lists i st) (moment old st c.args.out.now.items) (moment old c.send.new.self.state c.send.new.out.items)) (sym c.in-Send.is) (
      none,
      sent_gave c.producer_keeps.ensures c.producer_routes.ensures (record { region = c.region_keeps.ensures; entities = c.entities_stand.ensures; message = c.genuine_is_message.ensures }) c.shards_are_there.ensures old c.args.self.now c.send.new.self
          c.knows.ensures.script c.requires.sound c.requires.rests c.in-Send.p c.args.out.now c.send.new.out c.rules_are_calls.ensures.sends
          (subst (λ (i : Input). MayTake script old.vouches st i) c.in-Send.is c.requires.may) c.send.ensures,
    )
