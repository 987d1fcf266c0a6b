use Rattle.std.proofs.Common.{◌≡◌, ℕ, subst}
use Rattle.std.specs.Prelude.{Option, Some, None, MatchOption}
use Rattle.yard_model.specs.declared.incarnation.Slot.TheVariants as slot
use Rattle.yard_model.specs.Entities.{hosted}
use Rattle.yard_model.specs.Node.{Node}
use Rattle.yard_model.specs.Region.{Region}
use Rattle.yard_model.specs.Script.{Script}
use Rattle.actor_laws.specs.Hands.{held_list}
use Rattle.coordinator_actor.specs.Held.{Held}
use Rattle.shard_entities.specs.Lodged.{Lodged, IsStore}
use Rattle.producer_ctl.specs.Producing.{Producing}
use Rattle.node_core.specs.Standing.{Standing, node_of}
use Rattle.node_core.proofs.PartLaws.{held_is, store_hosted}
use Rattle.node_core.proofs.SlotLaws.{shard_free}
use Rattle.node_core.proofs.actors.Actors.shard_store.Goals as goal

pub returns-in-Some-clause-store : goal.returns-in-Some-clause-store
returns-in-Some-clause-store g c =
    let script : Script = c.self.inside.script.value in
    let r : Region = c.self.inside.region.state in
    let e : Lodged = c.self.inside.entities in
    let ps : Producing = c.self.inside.producers in
    let k : Option Held = c.self.inside.coordinator in
    let st : Node = node_of script r e ps k in
    let s : ℕ = c.args.s in
    let is : IsStore e s c.in-Some.store.now = subst (λ o. MatchOption o (hosted e.state s ≡ None) (λ x. IsStore e s x.now)) c.in-Some.is c.store.ensures in
    subst (λ (v : Standing). held_list (slot.Shard s) v.state ≡ Some c.in-Some.store.now.entries) c.self.view_is (held_is st s c.in-Some.store.now.entries (store_hosted e s c.in-Some.store.now is))

pub returns-in-None-clause-store : goal.returns-in-None-clause-store
returns-in-None-clause-store g c =
    let script : Script = c.self.inside.script.value in
    let r : Region = c.self.inside.region.state in
    let e : Lodged = c.self.inside.entities in
    let ps : Producing = c.self.inside.producers in
    let k : Option Held = c.self.inside.coordinator in
    let s : ℕ = c.args.s in
    let none : hosted e.state s ≡ None = subst (λ o. MatchOption o (hosted e.state s ≡ None) (λ x. IsStore e s x.now)) c.in-None.is c.store.ensures in
    subst (λ (v : Standing). held_list (slot.Shard s) v.state ≡ None) c.self.view_is (shard_free script r e ps k s none)
