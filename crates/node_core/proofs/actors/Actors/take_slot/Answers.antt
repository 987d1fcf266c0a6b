use Rattle.std.proofs.Common.{◌≡◌, ◌∙◌, sym, ap, subst, true}
use Rattle.std.specs.Prelude.{Option}
use Rattle.yard_model.specs.declared.incarnation.Incarnation.{Incarnation}
use Rattle.yard_model.specs.declared.incarnation.Slot.TheVariants as slot
use Rattle.yard_model.specs.Region.{Region}
use Rattle.yard_model.specs.Script.{Script}
use Rattle.coordinator_actor.specs.Held.{Held}
use Rattle.shard_entities.specs.Lodged.{Lodged}
use Rattle.shard_lease.specs.Meaning.{Meaning, Acquired}
use Rattle.node_core.specs.Gave.{Gave, moment, take_lead, is_to_lead, office}
use Rattle.node_core.specs.Leased.{Rests}
use Rattle.node_core.specs.Standing.{Standing, node_of}
use Rattle.node_core.specs.Taken.{Took}
use Rattle.node_core.proofs.LeadLaws.{slot_gave}
use Rattle.node_core.proofs.actors.Actors.take_slot.Goals as goal

pub returns-clause-gave : goal.returns-clause-gave
returns-clause-gave g c =
    let script : Script = c.self.inside.script.value in
    let r : Region = c.self.inside.region.state in
    let e : Lodged = c.self.inside.entities in
    let k : Option Held = c.self.inside.coordinator in
    let old : Meaning = g.L.Leases.meaning c.args.leases.now in
    let new : Meaning = g.L.Leases.meaning c.acquire-answer.new.self in
    let now : Option Held = c.take.new.coordinator in
    let same : c.args.charter.now ≡ script = c.requires.charter ∙ sym (ap (λ (v : Standing). v.script) c.self.view_is) in
    subst (λ (v : Standing). Gave v.script office (λ lists. take_lead lists v.state) (moment old v.state c.args.out.now.items) (moment new (node_of script r e c.self.inside.producers now) c.take.new.out.items)) c.self.view_is
    (slot_gave script old new r e c.self.inside.producers k c.acquire-answer.result now c.args.out.now.items c.take.new.out.items
    (subst (λ (v : Standing). is_to_lead v.state ≡ true) (sym c.self.view_is) c.requires.lead) (subst (λ (v : Standing). Rests old v.script v.state) (sym c.self.view_is) c.requires.rests)
    c.acquire-answer.ensures.stays
    (subst (λ (x : Incarnation). Acquired old x slot.Coordinator c.acquire-answer.result new) c.who-who.ensures c.acquire-answer.ensures.answer)
    (subst (λ (s : Script). Took s r.who c.acquire-answer.result now c.args.out.now.items c.take.new.out.items) same (subst (λ (x : Incarnation). Took c.args.charter.now x c.acquire-answer.result now c.args.out.now.items c.take.new.out.items) c.who-who.ensures c.take.ensures.took)))
