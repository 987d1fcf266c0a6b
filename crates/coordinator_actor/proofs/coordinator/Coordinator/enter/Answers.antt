use Rattle.std.proofs.Common.{ap, ◌∙◌}
use Rattle.yard_model.specs.declared.fact.Fact.TheVariants as fact
use Rattle.yard_model.specs.Coordinator.{coordinator_after}
use Rattle.yard_model.specs.Move.{told}
use Rattle.handoff_steps.specs.Places.{moving}
use Rattle.coordinator_actor.specs.Held.{Held}
use Rattle.coordinator_actor.proofs.HeldLaws.{registered_held}
use Rattle.coordinator_actor.proofs.coordinator.Coordinator.enter.Goals as goal

pub invariant_of-self : goal.invariant_of-self
invariant_of-self c =
    let old = c.self.inside in
    rw c.registered.ensures.script (rw c.registered.ensures.entries (registered_held old.store.script old.who old.store.entries old.started (moving old.round) old.round.stamp c.args.r.now c.self.invariant))

pub returns-clause-state : goal.returns-clause-state
returns-clause-state c =
    rw c.registered.ensures.script (rw c.registered.ensures.entries (ap (λ (h : Held). coordinator_after h.state (told (fact.Registered c.args.r.now))) c.self.view_is))

pub returns-clause-script : goal.returns-clause-script
returns-clause-script c = c.registered.ensures.script ∙ ap (λ (h : Held). h.script) c.self.view_is

pub returns-clause-entries : goal.returns-clause-entries
returns-clause-entries c = c.registered.ensures.spare ∙ ap (λ (h : Held). h.spare) c.self.view_is

pub returns-clause-places : goal.returns-clause-places
returns-clause-places c = ap (λ (h : Held). h.places) c.self.view_is
