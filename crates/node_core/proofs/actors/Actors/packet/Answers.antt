use Rattle.std.proofs.Common.{◌∙◌, sym, refl}
use Rattle.yard_model.specs.declared.packet.Body.{Body}
use Rattle.yard_model.specs.declared.incarnation.Incarnation.{Incarnation}
use Rattle.yard_model.specs.Node as rules
use Rattle.yard_model.specs.Node.{Node}
use Rattle.yard_model.specs.Script.{Script}
use Rattle.shard_lease.specs.Meaning.{Meaning}
use Rattle.node_core.specs.Calling.{producer_rule}
use Rattle.node_core.specs.Found.{none}
use Rattle.node_core.specs.Gave.{Moment, moment}
use Rattle.node_core.specs.Standing.{Standing}
use Rattle.node_core.proofs.GaveLaws.{gave_same}
use Rattle.node_core.proofs.PacketLaws.{coordinated_gave, genuine_of, office_packet}
use Rattle.node_core.proofs.ProduceLaws.{confirms_queued, produced_gave, producer_packet}
use Rattle.node_core.proofs.actors.Actors.packet.Goals as goal

pub returns-then-is_for_coordinator-clause-gave : goal.returns-then-is_for_coordinator-clause-gave
returns-then-is_for_coordinator-clause-gave g c =
    let old : Meaning = g.L.Leases.meaning c.args.leases.now in
    let script : Script = c.args.self.now.script in
    let st : Node = c.args.self.now.state in
    let from = c.args.packet.now.from in
    let b : Body = c.args.packet.now.body in (
      none,
      office_packet script old c.args.self.now c.coordinate.new.self from b c.args.out.now c.coordinate.new.out refl (sym c.is_for_coordinator.ensures ∙ c.if-is_for_coordinator.true)
          (coordinated_gave old c.args.self.now c.coordinate.new.self from b c.args.out.now c.coordinate.new.out c.requires.sound c.requires.within c.requires.rests c.coordinate.ensures),
    )

pub produce_on-requires-clause-queued : goal.produce_on-requires-clause-queued
produce_on-requires-clause-queued g c = confirms_queued (g.L.Leases.meaning c.args.leases.now).vouches c.args.self.now.state c.args.packet.now.body c.requires.promised

pub returns-then-is_for_producer-clause-gave : goal.returns-then-is_for_producer-clause-gave
returns-then-is_for_producer-clause-gave g c =
    let old : Meaning = g.L.Leases.meaning c.args.leases.now in
    let v : Standing = c.args.self.now in
    let from : Incarnation = c.args.packet.now.from in
    let b : Body = c.args.packet.now.body in
    let before : Moment = moment old v.state c.args.out.now.items in
    let late : Moment = moment old c.produce_on.new.self.state c.produce_on.new.out.items in (
      none,
      gave_same v.script none (λ lists. producer_rule b v.state) (λ lists. rules.packet lists from b v.state) before late (λ lists. producer_packet lists from b v.state (sym c.is_for_producer.ensures ∙ c.if-is_for_producer.true))
          (produced_gave c.producer_keeps.ensures c.producer_routes.ensures (record { region = c.region_keeps.ensures; entities = c.entities_stand.ensures; message = c.genuine_is_message.ensures }) c.shards_are_there.ensures old v c.produce_on.new.self
          c.knows.ensures.script c.requires.sound c.requires.rests b c.args.out.now c.produce_on.new.out c.rules_are_calls.ensures.requests c.rules_are_calls.ensures.acks c.rules_are_calls.ensures.resends
          (genuine_of v.script c.args.packet.now b refl c.requires.genuine) c.requires.promised c.produce_on.ensures),
    )
