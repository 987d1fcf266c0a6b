use Rattle.std.proofs.Common.{sym, subst, arith}
use Rattle.std.specs.Prelude.{Bool}
use Rattle.yard_model.specs.declared.incarnation.Slot.{Slot}
use Rattle.yard_model.specs.declared.packet.Body.{Body}
use Rattle.yard_model.specs.Node as rules
use Rattle.yard_model.specs.Node.{Node}
use Rattle.yard_model.specs.Script.{Script}
use Rattle.yard_model.specs.Setting.{shard_of}
use Rattle.shard_lease.specs.Meaning.{Meaning}
use Rattle.node_core.specs.Found.{none}
use Rattle.node_core.specs.Gave.{Gave, moment}
use Rattle.region_actor.specs.Handled.{handled}
use Rattle.node_core.proofs.GiveLaws.{region_gave}
use Rattle.node_core.proofs.PacketLaws.{brought_of, genuine_of, handled_free, passivated_gave, recovered_gave, routed_gave}
use Rattle.node_core.proofs.ProduceLaws.{no_other}
use Rattle.node_core.proofs.actors.Actors.other_packet.Goals as goal

pub returns-in-HandOff-clause-gave : goal.returns-in-HandOff-clause-gave
returns-in-HandOff-clause-gave g c =
    let old : Meaning = g.L.Leases.meaning c.args.leases.now in
    let script : Script = c.args.self.now.script in
    let st : Node = c.args.self.now.state in
    subst (λ (b : Body). (asked : (Slot → Bool)) × Gave script asked (λ lists. rules.packet lists c.args.packet.now.from b st) (moment old st c.args.out.now.items) (moment (g.L.Leases.meaning c.hand_off.new.leases) c.hand_off.new.self.state c.hand_off.new.out.items)) (sym c.in-HandOff.is)
    (none, c.hand_off.ensures.gave)

pub returns-in-StopEntity-clause-gave : goal.returns-in-StopEntity-clause-gave
returns-in-StopEntity-clause-gave g c =
    let old : Meaning = g.L.Leases.meaning c.args.leases.now in
    let script : Script = c.args.self.now.script in
    let st : Node = c.args.self.now.state in
    subst (λ (b : Body). (asked : (Slot → Bool)) × Gave script asked (λ lists. rules.packet lists c.args.packet.now.from b st) (moment old st c.args.out.now.items) (moment (g.L.Leases.meaning c.stop.new.leases) c.stop.new.self.state c.stop.new.out.items)) (sym c.in-StopEntity.is)
    (none, c.stop.ensures.gave)

pub returns-in-RegisterAck-clause-gave : goal.returns-in-RegisterAck-clause-gave
returns-in-RegisterAck-clause-gave g c =
    let old : Meaning = g.L.Leases.meaning c.args.leases.now in
    let script : Script = c.args.self.now.script in
    let st : Node = c.args.self.now.state in
    subst (λ (b : Body). (asked : (Slot → Bool)) × Gave script asked (λ lists. rules.packet lists c.args.packet.now.from b st) (moment old st c.args.out.now.items) (moment old c.hear.new.self.state c.hear.new.out.items)) (sym c.in-RegisterAck.is)
    (none, subst (λ (b : Body). Gave script none (λ lists. rules.of_region (handled c.args.packet.now.from b) st) (moment old st c.args.out.now.items) (moment old c.hear.new.self.state c.hear.new.out.items)) c.in-RegisterAck.is (region_gave old c.args.self.now c.hear.new.self (handled c.args.packet.now.from c.args.packet.now.body st.region) c.args.out.now c.hear.new.out c.knows.ensures.entities (handled_free c.args.packet.now.from c.args.packet.now.body st.region) c.requires.rests c.hear.ensures.went))

pub returns-in-BeginHandOff-clause-gave : goal.returns-in-BeginHandOff-clause-gave
returns-in-BeginHandOff-clause-gave g c =
    let old : Meaning = g.L.Leases.meaning c.args.leases.now in
    let script : Script = c.args.self.now.script in
    let st : Node = c.args.self.now.state in
    subst (λ (b : Body). (asked : (Slot → Bool)) × Gave script asked (λ lists. rules.packet lists c.args.packet.now.from b st) (moment old st c.args.out.now.items) (moment old c.hear-in-BeginHandOff.new.self.state c.hear-in-BeginHandOff.new.out.items)) (sym c.in-BeginHandOff.is)
    (none, subst (λ (b : Body). Gave script none (λ lists. rules.of_region (handled c.args.packet.now.from b) st) (moment old st c.args.out.now.items) (moment old c.hear-in-BeginHandOff.new.self.state c.hear-in-BeginHandOff.new.out.items)) c.in-BeginHandOff.is (region_gave old c.args.self.now c.hear-in-BeginHandOff.new.self (handled c.args.packet.now.from c.args.packet.now.body st.region) c.args.out.now c.hear-in-BeginHandOff.new.out c.knows.ensures.entities (handled_free c.args.packet.now.from c.args.packet.now.body st.region) c.requires.rests c.hear-in-BeginHandOff.ensures.went))

pub returns-in-Recovered-clause-gave : goal.returns-in-Recovered-clause-gave
returns-in-Recovered-clause-gave g c =
    let old : Meaning = g.L.Leases.meaning c.args.leases.now in
    let script : Script = c.args.self.now.script in
    let st : Node = c.args.self.now.state in
    subst (λ (b : Body). (asked : (Slot → Bool)) × Gave script asked (λ lists. rules.packet lists c.args.packet.now.from b st) (moment old st c.args.out.now.items) (moment old c.recovered.new.self.state c.recovered.new.out.items)) (sym c.in-Recovered.is)
    (none, recovered_gave old c.args.self.now c.recovered.new.self c.in-Recovered.entity c.args.out.now c.recovered.new.out c.shards_are_there.ensures c.knows.ensures.script c.requires.sound (brought_of script c.in-Recovered.entity c.args.packet.now c.in-Recovered.is c.requires.genuine) c.requires.rests c.recovered.ensures)

pub returns-in-Passivate-clause-gave : goal.returns-in-Passivate-clause-gave
returns-in-Passivate-clause-gave g c =
    let old : Meaning = g.L.Leases.meaning c.args.leases.now in
    let script : Script = c.args.self.now.script in
    let st : Node = c.args.self.now.state in
    subst (λ (b : Body). (asked : (Slot → Bool)) × Gave script asked (λ lists. rules.packet lists c.args.packet.now.from b st) (moment old st c.args.out.now.items) (moment old c.passivate.new.self.state c.passivate.new.out.items)) (sym c.in-Passivate.is)
    (none, passivated_gave old c.args.self.now c.passivate.new.self c.in-Passivate.entity c.args.out.now c.passivate.new.out c.requires.sound c.requires.rests c.passivate.ensures)

pub returns-in-Sequenced-clause-gave : goal.returns-in-Sequenced-clause-gave
returns-in-Sequenced-clause-gave g c =
    let old : Meaning = g.L.Leases.meaning c.args.leases.now in
    let script : Script = c.args.self.now.script in
    let st : Node = c.args.self.now.state in
    subst (λ (b : Body). (asked : (Slot → Bool)) × Gave script asked (λ lists. rules.packet lists c.args.packet.now.from b st) (moment old st c.args.out.now.items) (moment old c.route.new.self.state c.route.new.out.items)) (sym c.in-Sequenced.is)
    (none, routed_gave old c.args.self.now c.route.new.self c.in-Sequenced.message c.args.out.now c.route.new.out c.shards_are_there.ensures c.knows.ensures.script c.requires.sound c.requires.rests c.route.ensures.went)

pub returns-in-ShardHome-clause-gave : goal.returns-in-ShardHome-clause-gave
returns-in-ShardHome-clause-gave g c =
    let old : Meaning = g.L.Leases.meaning c.args.leases.now in
    let script : Script = c.args.self.now.script in
    let st : Node = c.args.self.now.state in
    subst (λ (b : Body). (asked : (Slot → Bool)) × Gave script asked (λ lists. rules.packet lists c.args.packet.now.from b st) (moment old st c.args.out.now.items) (moment (g.L.Leases.meaning c.shard_home.new.leases) c.shard_home.new.self.state c.shard_home.new.out.items)) (sym c.in-ShardHome.is)
    c.shard_home.ensures.gave

pub returns-in-HostShard-clause-gave : goal.returns-in-HostShard-clause-gave
returns-in-HostShard-clause-gave g c =
    let old : Meaning = g.L.Leases.meaning c.args.leases.now in
    let script : Script = c.args.self.now.script in
    let st : Node = c.args.self.now.state in
    subst (λ (b : Body). (asked : (Slot → Bool)) × Gave script asked (λ lists. rules.packet lists c.args.packet.now.from b st) (moment old st c.args.out.now.items) (moment (g.L.Leases.meaning c.host_shard.new.leases) c.host_shard.new.self.state c.host_shard.new.out.items)) (sym c.in-HostShard.is)
    c.host_shard.ensures.gave

-- what a genuine packet is about

pub hand_off-requires-clause-shard : goal.hand_off-requires-clause-shard
hand_off-requires-clause-shard g c = genuine_of c.args.self.now.script c.args.packet.now _ c.in-HandOff.is c.requires.genuine

pub route-requires-clause-genuine : goal.route-requires-clause-genuine
route-requires-clause-genuine g c = genuine_of c.args.self.now.script c.args.packet.now _ c.in-Sequenced.is c.requires.genuine

pub route-requires-clause-rooms : goal.route-requires-clause-rooms
route-requires-clause-rooms g c there = let wide = c.requires.ready.rooms (shard_of c.args.self.now.state.set c.in-Sequenced.message.entity) there in omega (arith, wide)

pub unreachable-requires : goal.unreachable-requires
unreachable-requires g c = no_other c.args.packet.now.body c.requires.other c.requires.others c.in_default.not-View c.in_default.not-RegisterAck c.in_default.not-ShardHome c.in_default.not-HostShard c.in_default.not-BeginHandOff c.in_default.not-HandOff
    c.in_default.not-StopEntity c.in_default.not-Recovered c.in_default.not-Passivate c.in_default.not-Sequenced
