use Rattle.std.proofs.Common.{◌≡◌, ℕ, List, [], ◌∷◌, ◌++◌, ap, subst, ◌∙◌}
use Rattle.std.specs.Prelude.{Option}
use Rattle.yard_model.specs.declared.fact.Fact.TheVariants as fact
use Rattle.yard_model.specs.declared.incarnation.Incarnation.{Incarnation}
use Rattle.yard_model.specs.declared.incarnation.Slot.TheVariants as slot
use Rattle.yard_model.specs.declared.out.Item.{Item}
use Rattle.yard_model.specs.declared.out.Item.TheVariants as item
use Rattle.yard_model.specs.Entities.{start_remembered}
use Rattle.yard_model.specs.Move.{Move, told}
use Rattle.yard_model.specs.Region.{Region}
use Rattle.yard_model.specs.Script.{Script}
use Rattle.yard_model.specs.SlotReads.{epoch}
use Rattle.yard_model.specs.Spared.{Spared}
use Rattle.coordinator_actor.specs.Held.{Held}
use Rattle.shard_entities.specs.Lodged.{Lodged, hosting, given}
use Rattle.shard_store.specs.Shelf.{Shelf}
use Rattle.node_core.specs.Standing.{Standing, standing_of}
use Rattle.node_core.specs.Started.{Hosts}
use Rattle.node_core.proofs.PartLaws.{parts_moved}
use Rattle.node_core.proofs.StartLaws.{parts_hosting, spared_is}
use Rattle.node_core.proofs.StepLaws.{entities_went}
use Rattle.node_core.proofs.actors.Actors.host.Goals as goal

pub invariant_of-self : goal.invariant_of-self
invariant_of-self g c = (parts_moved (start_remembered c.args.s (hosting c.self.inside.entities c.args.s c.args.store).state) c.start.ensures.state (parts_hosting c.args.s c.args.store c.self.invariant.0), c.self.invariant.1)

pub returns : goal.returns
returns g c =
    let script : Script = c.self.inside.script.value in
    let r : Region = c.self.inside.region.state in
    let e : Lodged = c.self.inside.entities in
    let now : Lodged = c.start.new.self in
    let k : Option Held = c.self.inside.coordinator in
    let s : ℕ = c.args.s in
    let x : Shelf = c.args.store in
    let mid : Lodged = hosting e s x in
    let ms : List Move = start_remembered s mid.state in
    let before : Spared Item = c.args.out.now in
    let items : c.push.new.self.items ≡ before.items ++ item.Fact (fact.Granted (slot.Shard s) (epoch x.entries) r.who) ∷ []
    = c.push.ensures.items ∙ (ap (λ n. before.items ++ item.Fact (fact.Granted (slot.Shard s) n c.who-who.result) ∷ []) c.epoch-epoch.ensures ∙ ap (λ (w : Incarnation). before.items ++ item.Fact (fact.Granted (slot.Shard s) (epoch x.entries) w) ∷ []) c.who-who.ensures) in
    let pushed : c.push.new.self ≡ given before (told (fact.Granted (slot.Shard s) (epoch x.entries) r.who) ∷ []) = spared_is c.push.new.self before (item.Fact (fact.Granted (slot.Shard s) (epoch x.entries) r.who)) items c.push.ensures.spare in
    subst (λ (v : Standing). Hosts s x v (standing_of script r now c.self.inside.producers k) before c.start.new.out) c.self.view_is
    (entities_went script r mid now c.self.inside.producers k ms (given before (told (fact.Granted (slot.Shard s) (epoch x.entries) r.who) ∷ [])) c.start.new.out c.self.invariant.0.entities_set
    c.start.ensures.state (subst (λ (o : Spared Item). c.start.new.out ≡ given o ms) pushed c.start.ensures.out))
