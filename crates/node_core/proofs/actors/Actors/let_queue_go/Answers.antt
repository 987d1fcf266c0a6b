use Rattle.std.proofs.Common.{◌≡◌, [], ◌∷◌, sym, subst, refl, true, ◌∙◌}
use Rattle.std.specs.Prelude.{Option, IfSome}
use Rattle.std.specs.Option.{option_map}
use Rattle.yard_model.specs.declared.incarnation.Slot.TheVariants as slot
use Rattle.yard_model.specs.Genuine.{is_producer}
use Rattle.yard_model.specs.Region.{Region}
use Rattle.yard_model.specs.Script.{Script}
use Rattle.coordinator_actor.specs.Held.{Held}
use Rattle.durable_queue.specs.Queue.{Queue}
use Rattle.producer_ctl.specs.Producing.{Producing, without}
use Rattle.shard_entities.specs.Lodged.{Lodged}
use Rattle.shard_lease.specs.Meaning.{Meaning}
use Rattle.node_core.specs.Leased.{Rests, MayGiveQueue}
use Rattle.node_core.specs.LetGo.{AreFreed, IsSlotFreed}
use Rattle.node_core.specs.Standing.{Standing, IsEnding, standing_of}
use Rattle.node_core.proofs.CrashLaws.{freed_one, queue_list_is, queue_ending, queue_frees, back_of_queue, none_freed, no_queue}
use Rattle.node_core.proofs.actors.Actors.let_queue_go.Goals as goal

pub free_queue_if_there-requires-clause-store : goal.free_queue_if_there-requires-clause-store
free_queue_if_there-requires-clause-store g c =
    let script : Script = c.self.inside.script.value in
    let r : Region = c.self.inside.region.state in
    let e : Lodged = c.self.inside.entities in
    let ps : Producing = c.self.inside.producers in
    let k : Option Held = c.self.inside.coordinator in
    let old : Meaning = g.L.Leases.meaning c.args.leases.now in
    let valid : is_producer script c.args.p ≡ true = subst (λ (v : Standing). is_producer v.script c.args.p ≡ true) (sym c.self.view_is) c.requires.producer in
    subst (λ w. IfSome c.take_all-store.result (MayGiveQueue old w c.args.p)) (sym c.who.ensures)
    (back_of_queue script old r e ps k c.args.p c.self.invariant.0.who_is valid c.self.invariant.0.queues_script c.self.invariant.0.queues_who
    ((subst IsEnding (sym c.self.view_is) c.requires.ending).queues c.args.p valid)
    (subst (λ (v : Standing). Rests old v.script v.state) (sym c.self.view_is) c.requires.rests) c.take_all-store.result c.take_all-store.ensures.store)

pub returns-then-holds_queue : goal.returns-then-holds_queue
returns-then-holds_queue g c =
    let script : Script = c.self.inside.script.value in
    let r : Region = c.self.inside.region.state in
    let e : Lodged = c.self.inside.entities in
    let ps : Producing = c.self.inside.producers in
    let k : Option Held = c.self.inside.coordinator in
    let p = c.args.p in
    let old : Meaning = g.L.Leases.meaning c.args.leases.now in
    let new : Meaning = g.L.Leases.meaning c.free_queue_if_there.new.leases in
    let valid : is_producer script p ≡ true = subst (λ (v : Standing). is_producer v.script p ≡ true) (sym c.self.view_is) c.requires.producer in
    subst (λ (x : Producing). AreFreed (slot.Queue p ∷ []) c.args.self.now (standing_of script r e x k) old new c.args.out.now c.free_queue_if_there.new.out) (sym c.take_all-store.ensures.state)
    (subst (λ (v : Standing). AreFreed (slot.Queue p ∷ []) v (standing_of script r e (without p ps) k) old new c.args.out.now c.free_queue_if_there.new.out) c.self.view_is
    (freed_one (standing_of script r e ps k) (standing_of script r e (without p ps) k) (slot.Queue p) (option_map (λ (x : Queue). x.entries) c.take_all-store.result) old new c.args.out.now c.free_queue_if_there.new.out refl valid
    (queue_list_is script r e ps k p c.take_all-store.result c.take_all-store.ensures.store) (queue_frees script r e ps k p valid)
    (subst (λ w. IsSlotFreed (slot.Queue p) w (option_map (λ (x : Queue). x.entries) c.take_all-store.result) old new c.args.out.now c.free_queue_if_there.new.out) c.who.ensures c.free_queue_if_there.ensures)
    (subst (λ (v : Standing). Rests old v.script v.state) (sym c.self.view_is) c.requires.rests)
    (queue_ending script r e ps k p valid (subst IsEnding (sym c.self.view_is) c.requires.ending))))

pub returns-else-holds_queue : goal.returns-else-holds_queue
returns-else-holds_queue g c =
    let v : Standing = c.args.self.now in
    none_freed v (slot.Queue c.args.p) (g.L.Leases.meaning c.args.leases.now) c.args.out.now c.requires.producer
    (no_queue v.state c.args.p (sym c.holds_queue.ensures ∙ c.if-holds_queue.false)) c.requires.rests c.requires.ending
