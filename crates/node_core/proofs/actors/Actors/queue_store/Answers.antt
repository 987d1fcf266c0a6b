use Rattle.std.proofs.Common.{◌≡◌, ℕ, subst}
use Rattle.std.specs.Prelude.{Option, Some, None, MatchOption}
use Rattle.yard_model.specs.declared.incarnation.Slot.TheVariants as slot
use Rattle.yard_model.specs.Region.{Region}
use Rattle.yard_model.specs.Script.{Script}
use Rattle.actor_laws.specs.Hands.{held_list}
use Rattle.coordinator_actor.specs.Held.{Held}
use Rattle.shard_entities.specs.Lodged.{Lodged}
use Rattle.producer_ctl.specs.Producing.{Producing, IsStore, held}
use Rattle.node_core.specs.Standing.{Standing, node_of}
use Rattle.node_core.proofs.SlotLaws.{queue_free}
use Rattle.node_core.proofs.actors.Actors.queue_store.Goals as goal

pub returns-in-Some-clause-store : goal.returns-in-Some-clause-store
returns-in-Some-clause-store g c =
    let script : Script = c.self.inside.script.value in
    let r : Region = c.self.inside.region.state in
    let e : Lodged = c.self.inside.entities in
    let ps : Producing = c.self.inside.producers in
    let k : Option Held = c.self.inside.coordinator in
    let p : ℕ = c.args.p in
    let is : IsStore ps p c.in-Some.store.now = subst (λ o. MatchOption o (held p ps ≡ None) (λ x. IsStore ps p x.now)) c.in-Some.is c.store.ensures in
    subst (λ (v : Standing). held_list (slot.Queue p) v.state ≡ Some c.in-Some.store.now.entries) c.self.view_is is.entries_are

pub returns-in-None-clause-store : goal.returns-in-None-clause-store
returns-in-None-clause-store g c =
    let script : Script = c.self.inside.script.value in
    let r : Region = c.self.inside.region.state in
    let e : Lodged = c.self.inside.entities in
    let ps : Producing = c.self.inside.producers in
    let k : Option Held = c.self.inside.coordinator in
    let p : ℕ = c.args.p in
    let none : held p ps ≡ None = subst (λ o. MatchOption o (held p ps ≡ None) (λ x. IsStore ps p x.now)) c.in-None.is c.store.ensures in
    subst (λ (v : Standing). held_list (slot.Queue p) v.state ≡ None) c.self.view_is (queue_free script r e ps k p none)
