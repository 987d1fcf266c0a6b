use Rattle.std.proofs.Common.{◌≡◌, ◌<◌, ◌-◌, ◌+◌, ◌∙◌, ℕ, sym, ap, subst, arith}
use Rattle.std.specs.Prelude.{Option, Some, None, slice_get, MatchOption}
use Rattle.yard_model.specs.declared.incarnation.Slot.TheVariants as slot
use Rattle.yard_model.specs.Entities.{hosted}
use Rattle.yard_model.specs.Node.{Node}
use Rattle.yard_model.specs.Region.{Region}
use Rattle.yard_model.specs.Script.{Script}
use Rattle.coordinator_actor.specs.Held.{Held}
use Rattle.shard_entities.specs.Lodged.{Lodged, IsStore}
use Rattle.producer_ctl.specs.Producing.{Producing}
use Rattle.node_core.specs.Slots.{held_slots, slots, last_slots}
use Rattle.node_core.specs.Standing.{Standing, node_of}
use Rattle.node_core.proofs.SlotLaws.{IsReached, shard_held, shard_free, reached_first, reached_it, reached_past, reached_over, reached_rest, slots_from, slots_first, slots_next, slots_last}
use Rattle.node_core.proofs.actors.Actors.held.Goals.{in-Some+else-left-eq0, in_default}
use Rattle.node_core.proofs.actors.Actors.held.Goals as goal

pub loop-s-init : goal.loop-s-init
loop-s-init g c = reached_first (slots c.args.self.now.script) (slots_from c.args.self.now.script 0) c.args.self.now.state c.args.at (slots_first c.args.self.now.script)

pub returns-then-left-eq0-clause-slot : goal.returns-then-left-eq0-clause-slot
returns-then-left-eq0-clause-slot g c =
    let script : Script = c.self.inside.script.value in
    let r : Region = c.self.inside.region.state in
    let e : Lodged = c.self.inside.entities in
    let ps : Producing = c.self.inside.producers in
    let k : Option Held = c.self.inside.coordinator in
    let st : Node = node_of script r e ps k in
    let s : ℕ = c.loop-s.s in
    let is : IsStore e s c.in-Some.store.now = subst (λ n. IsStore e n c.in-Some.store.now) c.shard_at-shard.ensures (subst (λ o. MatchOption o (hosted e.state c.shard_at-shard.result ≡ None) (λ x. IsStore e c.shard_at-shard.result x.now)) c.in-Some.is c.store.ensures) in
    let within : s < script.config.shards = subst (λ n. s < n) (c.shards-s-end.ensures.count ∙ ap (λ (d : Script). d.config.shards) c.self.invariant.0.region_script) c.loop-s-test.true in
    let was : IsReached (slots script) (slots_from script s) st c.loop-s.left c.args.at = subst (λ (v : Standing). IsReached (slots v.script) (slots_from v.script s) v.state c.loop-s.left c.args.at) (sym c.self.view_is) c.loop-s.invariant in
    subst (λ (v : Standing). slice_get (held_slots v.script v.state) c.args.at ≡ Some (slot.Shard c.shard_at-shard.result)) c.self.view_is
    (reached_it (slots script) (slots_from script s) (slots_from script (s + 1)) (slot.Shard s) st c.loop-s.left c.args.at (slots_next script s within) (shard_held script r e ps k s c.in-Some.store.now is) c.if-left-eq0.true was ∙ ap (λ n. Some (slot.Shard n)) (sym c.shard_at-shard.ensures))

pub loop-s-preserved : goal.loop-s-preserved
loop-s-preserved g c =
    let script : Script = c.self.inside.script.value in
    let r : Region = c.self.inside.region.state in
    let e : Lodged = c.self.inside.entities in
    let ps : Producing = c.self.inside.producers in
    let k : Option Held = c.self.inside.coordinator in
    let st : Node = node_of script r e ps k in
    let s : ℕ = c.loop-s.s in
    let within : s < script.config.shards = subst (λ n. s < n) (c.shards-s-end.ensures.count ∙ ap (λ (d : Script). d.config.shards) c.self.invariant.0.region_script) c.loop-s-test.true in
    let was : IsReached (slots script) (slots_from script s) st c.loop-s.left c.args.at = subst (λ (v : Standing). IsReached (slots v.script) (slots_from v.script s) v.state c.loop-s.left c.args.at) (sym c.self.view_is) c.loop-s.invariant in
    subst (λ (v : Standing). IsReached (slots v.script) (slots_from v.script (s + 1)) v.state c.match-store.left c.args.at) c.self.view_is (elim c.match-store.branch [
      | in-Some+else-left-eq0 w ↦
          let is : IsStore e s w.in-Some.store.now = subst (λ n. IsStore e n w.in-Some.store.now) c.shard_at-shard.ensures (subst (λ o. MatchOption o (hosted e.state c.shard_at-shard.result ≡ None) (λ x. IsStore e c.shard_at-shard.result x.now)) w.in-Some.is c.store.ensures) in
          subst (λ n. IsReached (slots script) (slots_from script (s + 1)) st n c.args.at) (sym w.left-is)
          (reached_past (slots script) (slots_from script s) (slots_from script (s + 1)) (slot.Shard s) st c.loop-s.left (c.loop-s.left - 1) c.args.at (slots_next script s within) (shard_held script r e ps k s w.in-Some.store.now is) (let some = w.if-left-eq0.false in omega (arith, some)) was)
      | in_default w ↦
          let none : hosted e.state s ≡ None = subst (λ n. hosted e.state n ≡ None) c.shard_at-shard.ensures (subst (λ o. MatchOption o (hosted e.state c.shard_at-shard.result ≡ None) (λ x. IsStore e c.shard_at-shard.result x.now)) w.in_default.is c.store.ensures) in
          subst (λ n. IsReached (slots script) (slots_from script (s + 1)) st n c.args.at) (sym w.left-is)
          (reached_over (slots script) (slots_from script s) (slots_from script (s + 1)) (slot.Shard s) st c.loop-s.left c.args.at (slots_next script s within) (shard_free script r e ps k s none) was)
    ])

pub returns-clause-slot : goal.returns-clause-slot
returns-clause-slot g c =
    let script : Script = c.args.self.now.script in
    let count : c.shards-s-end.result ≡ script.config.shards = c.shards-s-end.ensures.count ∙ (ap (λ (d : Script). d.config.shards) c.self.invariant.0.region_script ∙ ap (λ (v : Standing). v.script.config.shards) c.self.view_is) in
    let over : c.loop-s.s ≡ script.config.shards = let past = c.loop-s-test.false in let within = c.loop-s.auto.s-end in omega (arith, past, within, count) in
    reached_rest (slots script) (last_slots script) c.args.self.now.state c.loop-s.left c.args.at c.held_last.result
    (subst (λ ss. IsReached (slots script) ss c.args.self.now.state c.loop-s.left c.args.at) (slots_last script c.loop-s.s over) c.loop-s.invariant) c.held_last.ensures.slot
