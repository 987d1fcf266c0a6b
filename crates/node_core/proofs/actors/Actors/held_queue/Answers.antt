use Rattle.std.proofs.Common.{◌≡◌, ◌<◌, ◌≤◌, ◌-◌, ◌+◌, ◌∙◌, ℕ, length, sym, ap, subst, arith}
use Rattle.std.specs.Prelude.{Option, Some, None, slice_get, MatchOption}
use Rattle.yard_model.specs.declared.incarnation.Slot.TheVariants as slot
use Rattle.yard_model.specs.Node.{Node}
use Rattle.yard_model.specs.Region.{Region}
use Rattle.yard_model.specs.Script.{Script}
use Rattle.coordinator_actor.specs.Held.{Held}
use Rattle.shard_entities.specs.Lodged.{Lodged}
use Rattle.producer_ctl.specs.Producing.{Producing, IsStore, held}
use Rattle.node_core.specs.Slots.{held_of, queue_slots}
use Rattle.node_core.specs.Standing.{Standing, node_of}
use Rattle.node_core.proofs.SlotLaws.{IsReached, queue_held, queue_free, reached_first, reached_it, reached_past, reached_over, reached_end, queues_from, queues_first, queues_next, queues_last}
use Rattle.node_core.proofs.actors.Actors.held_queue.Goals.{in-Some+else-left-eq0, in_default}
use Rattle.node_core.proofs.actors.Actors.held_queue.Goals as goal

pub loop-place-init : goal.loop-place-init
loop-place-init g c = reached_first (queue_slots c.args.self.now.script) (queues_from c.args.self.now.script 0) c.args.self.now.state c.args.at (queues_first c.args.self.now.script)

pub returns-then-left-eq0-clause-slot : goal.returns-then-left-eq0-clause-slot
returns-then-left-eq0-clause-slot g c =
    let script : Script = c.self.inside.script.value in
    let r : Region = c.self.inside.region.state in
    let e : Lodged = c.self.inside.entities in
    let ps : Producing = c.self.inside.producers in
    let k : Option Held = c.self.inside.coordinator in
    let st : Node = node_of script r e ps k in
    let i : ℕ = c.loop-place.place in
    let is : IsStore ps (i + 1) c.in-Some.store.now = subst (λ n. IsStore ps n c.in-Some.store.now) c.producer_at-p.ensures (subst (λ o. MatchOption o (held c.producer_at-p.result ps ≡ None) (λ x. IsStore ps c.producer_at-p.result x.now)) c.in-Some.is c.store.ensures) in
    let within : i < script.config.producers = subst (λ n. i < n) c.self.invariant.1.1 c.loop-place-test.true in
    let was : IsReached (queue_slots script) (queues_from script i) st c.loop-place.left c.args.at = subst (λ (v : Standing). IsReached (queue_slots v.script) (queues_from v.script i) v.state c.loop-place.left c.args.at) (sym c.self.view_is) c.loop-place.invariant in
    subst (λ (v : Standing). slice_get (held_of (queue_slots v.script) v.state) c.args.at ≡ Some (slot.Queue c.producer_at-p.result)) c.self.view_is
    (reached_it (queue_slots script) (queues_from script i) (queues_from script (i + 1)) (slot.Queue (i + 1)) st c.loop-place.left c.args.at (queues_next script i within) (queue_held script r e ps k (i + 1) c.in-Some.store.now is) c.if-left-eq0.true was ∙ ap (λ n. Some (slot.Queue n)) (sym c.producer_at-p.ensures))

pub loop-place-preserved : goal.loop-place-preserved
loop-place-preserved g c =
    let script : Script = c.self.inside.script.value in
    let r : Region = c.self.inside.region.state in
    let e : Lodged = c.self.inside.entities in
    let ps : Producing = c.self.inside.producers in
    let k : Option Held = c.self.inside.coordinator in
    let st : Node = node_of script r e ps k in
    let i : ℕ = c.loop-place.place in
    let within : i < script.config.producers = subst (λ n. i < n) c.self.invariant.1.1 c.loop-place-test.true in
    let was : IsReached (queue_slots script) (queues_from script i) st c.loop-place.left c.args.at = subst (λ (v : Standing). IsReached (queue_slots v.script) (queues_from v.script i) v.state c.loop-place.left c.args.at) (sym c.self.view_is) c.loop-place.invariant in
    subst (λ (v : Standing). IsReached (queue_slots v.script) (queues_from v.script (i + 1)) v.state c.match-store.left c.args.at) c.self.view_is (elim c.match-store.branch [
      | in-Some+else-left-eq0 w ↦
          let is : IsStore ps (i + 1) w.in-Some.store.now = subst (λ n. IsStore ps n w.in-Some.store.now) c.producer_at-p.ensures (subst (λ o. MatchOption o (held c.producer_at-p.result ps ≡ None) (λ x. IsStore ps c.producer_at-p.result x.now)) w.in-Some.is c.store.ensures) in
          subst (λ n. IsReached (queue_slots script) (queues_from script (i + 1)) st n c.args.at) (sym w.left-is)
          (reached_past (queue_slots script) (queues_from script i) (queues_from script (i + 1)) (slot.Queue (i + 1)) st c.loop-place.left (c.loop-place.left - 1) c.args.at (queues_next script i within) (queue_held script r e ps k (i + 1) w.in-Some.store.now is) (let some = w.if-left-eq0.false in omega (arith, some)) was)
      | in_default w ↦
          let none : held (i + 1) ps ≡ None = subst (λ n. held n ps ≡ None) c.producer_at-p.ensures (subst (λ o. MatchOption o (held c.producer_at-p.result ps ≡ None) (λ x. IsStore ps c.producer_at-p.result x.now)) w.in_default.is c.store.ensures) in
          subst (λ n. IsReached (queue_slots script) (queues_from script (i + 1)) st n c.args.at) (sym w.left-is)
          (reached_over (queue_slots script) (queues_from script i) (queues_from script (i + 1)) (slot.Queue (i + 1)) st c.loop-place.left c.args.at (queues_next script i within) (queue_free script r e ps k (i + 1) none) was)
    ])

pub returns-clause-slot : goal.returns-clause-slot
returns-clause-slot g c =
    let script : Script = c.args.self.now.script in
    let count : c.self.inside.queues ≡ script.config.producers = c.self.invariant.1.1 ∙ ap (λ (v : Standing). v.script.config.producers) c.self.view_is in
    let over : c.loop-place.place ≡ script.config.producers = let past = c.loop-place-test.false in let within = c.loop-place.auto.place-end in omega (arith, past, within, count) in
    reached_end (queue_slots script) (queues_from script c.loop-place.place) c.args.self.now.state c.loop-place.left c.args.at (queues_last script c.loop-place.place over) c.loop-place.invariant
