use Rattle.std.proofs.Common.{◌≡◌, ◌≤◌, sym, subst, true, arith}
use Rattle.std.specs.Prelude.{Option, IfSome, MatchOption}
use Rattle.yard_model.specs.Genuine.{is_producer}
use Rattle.yard_model.specs.Node as rules
use Rattle.yard_model.specs.Producer.{give_back}
use Rattle.yard_model.specs.Region.{Region}
use Rattle.yard_model.specs.Script.{Script}
use Rattle.yard_model.specs.Turns.{where_some}
use Rattle.node_laws.specs.NodeStands.{IsSoundNode}
use Rattle.coordinator_actor.specs.Held.{Held}
use Rattle.producer_ctl.specs.Producing.{Producing, held, no_routing}
use Rattle.shard_entities.specs.Lodged.{Lodged}
use Rattle.shard_lease.specs.Meaning.{Meaning}
use Rattle.node_core.specs.Found.{none}
use Rattle.node_core.specs.Gave.{Gave, moment}
use Rattle.node_core.specs.Leased.{Rests, MayGiveQueue, GaveQueue}
use Rattle.node_core.specs.Standing.{Standing, IsReady, standing_of, node_of}
use Rattle.node_core.proofs.CrashLaws.{back_of_queue}
use Rattle.node_core.proofs.PartLaws.{parts_produced}
use Rattle.node_core.proofs.ProduceLaws.{rest_gave}
use Rattle.node_core.proofs.actors.Actors.rest.Goals as goal

pub give_queue_back-requires : goal.give_queue_back-requires
give_queue_back-requires g c =
    let script : Script = c.self.inside.script.value in
    let r : Region = c.self.inside.region.state in
    let e : Lodged = c.self.inside.entities in
    let ps : Producing = c.self.inside.producers in
    let k : Option Held = c.self.inside.coordinator in
    let m : Meaning = g.L.Leases.meaning c.args.leases.now in
    let valid : is_producer script c.args.p ≡ true = subst (λ (v : Standing). is_producer v.script c.args.p ≡ true) (sym c.self.view_is) c.requires.producer in
    let ready : IsReady (standing_of script r e ps k) c.args.out.now.spare = subst (λ (v : Standing). IsReady v c.args.out.now.spare) (sym c.self.view_is) c.requires.ready in
    subst (λ w. IfSome c.end-store.result (MayGiveQueue m w c.args.p)) (sym c.who.ensures)
    (back_of_queue script m r e ps k c.args.p c.self.invariant.0.who_is valid c.self.invariant.0.queues_script c.self.invariant.0.queues_who
    (λ there. let wide = ready.queues c.args.p valid there in omega (arith, wide))
    (subst (λ (v : Standing). Rests m v.script v.state) (sym c.self.view_is) c.requires.rests) c.end-store.result c.end-store.ensures.store)

pub returns-clause-gave : goal.returns-clause-gave
returns-clause-gave g c =
    let script : Script = c.self.inside.script.value in
    let r : Region = c.self.inside.region.state in
    let e : Lodged = c.self.inside.entities in
    let ps : Producing = c.self.inside.producers in
    let k : Option Held = c.self.inside.coordinator in
    let old : Meaning = g.L.Leases.meaning c.args.leases.now in
    let new : Meaning = g.L.Leases.meaning c.give_queue_back.new.leases in
    subst (λ (v : Standing). Gave v.script none (λ lists. rules.of_producer c.args.p give_back v.state) (moment old v.state c.args.out.now.items) (moment new (node_of script r e c.end-store.new.self k) c.end-store.new.out.items)) c.self.view_is
    (rest_gave script old new r e ps c.end-store.new.self k c.args.p c.args.out.now c.end-store.new.out
    (subst (λ (v : Standing). is_producer v.script c.args.p ≡ true) (sym c.self.view_is) c.requires.producer) (subst (λ (v : Standing). IsSoundNode v.script v.state) (sym c.self.view_is) c.requires.sound)
    c.self.invariant.0.queues_script c.self.invariant.0.queues_who (subst (λ (v : Standing). Rests old v.script v.state) (sym c.self.view_is) c.requires.rests)
    c.end-store.ensures.state c.end-store.ensures.out c.end-store.result c.end-store.ensures.store
    (subst (λ w. MatchOption c.end-store.result (new ≡ old) (λ x. GaveQueue old w c.args.p x.entries new)) c.who.ensures c.give_queue_back.ensures))

pub invariant_of-self : goal.invariant_of-self
invariant_of-self g c = (parts_produced c.args.p (where_some give_back (held c.args.p c.self.inside.producers)) no_routing c.end-store.ensures.state c.self.invariant.0, c.self.invariant.1)
