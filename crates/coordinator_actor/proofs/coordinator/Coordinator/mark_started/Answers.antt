use Rattle.std.proofs.Common.{ap, ◌∙◌, true}
use Rattle.std.proofs.lemmas.List.{length-set}
use Rattle.yard_model.specs.Coordinator.{coordinator_after}
use Rattle.yard_model.specs.Move.{started}
use Rattle.coordinator_actor.specs.Held.{Held}
use Rattle.coordinator_actor.proofs.coordinator.Coordinator.mark_started.Goals as goal

pub invariant_of-self : goal.invariant_of-self
invariant_of-self c =
    let old = c.self.invariant in
    rw c.set.ensures (record {
      script_is = old.script_is;
      leased = old.leased;
      started_there = length-set c.self.inside.started c.args.s true ∙ old.started_there;
      at_home = old.at_home;
      epoch_is = old.epoch_is;
      counted = old.counted;
    })

pub returns-clause-state : goal.returns-clause-state
returns-clause-state c = rw c.set.ensures (ap (λ (h : Held). coordinator_after h.state (started c.args.s)) c.self.view_is)

pub returns-clause-kept : goal.returns-clause-kept
returns-clause-kept c = ap (λ (h : Held). h.state.entries) c.self.view_is

pub returns-clause-script : goal.returns-clause-script
returns-clause-script c = ap (λ (h : Held). h.script) c.self.view_is

pub returns-clause-entries : goal.returns-clause-entries
returns-clause-entries c = ap (λ (h : Held). h.spare) c.self.view_is

pub returns-clause-places : goal.returns-clause-places
returns-clause-places c = ap (λ (h : Held). h.places) c.self.view_is
