use Rattle.std.proofs.Common.{sym, ap, subst, ◌∙◌}
use Rattle.std.specs.Prelude.{Option, Some}
use Rattle.yard_model.specs.Coordinator.{Coordinator, terminate_lost}
use Rattle.coordinator_actor.specs.Held.{Held}
use Rattle.node_core.specs.Went.{CoordinatorWent}
use Rattle.node_core.proofs.StepLaws.{coordinator_did, coordinator_absent}
use Rattle.node_core.proofs.coordinator_part.drop_lost.Goals as goal

pub returns-in-Some-clause-went : goal.returns-in-Some-clause-went
returns-in-Some-clause-went c =
    let k : Held = c.in-Some.coordinator in
    subst (λ (o : Option Held). CoordinatorWent (terminate_lost c.args.region.now.state.view) o (Some c.view_taken.new.self) c.args.out.now c.view_taken.new.out) (sym c.in-Some.is)
    (subst (λ v. CoordinatorWent (terminate_lost v) (Some k) (Some c.view_taken.new.self) c.args.out.now c.view_taken.new.out) c.view.ensures.members
    (coordinator_did (terminate_lost c.view.result.now.members) k c.view_taken.new.self c.args.out.now c.view_taken.new.out c.view_taken.ensures.state c.view_taken.ensures.items c.view_taken.ensures.spare c.view_taken.ensures.entries c.view_taken.ensures.script
    (ap (λ (s : Coordinator). s.who) c.view_taken.ensures.state ∙ c.same_law.ensures.who k.state (terminate_lost c.view.result.now.members k.state))
    (ap (λ (s : Coordinator). s.set) c.view_taken.ensures.state ∙ c.same_law.ensures.set k.state (terminate_lost c.view.result.now.members k.state))))

pub returns-in_default-clause-went : goal.returns-in_default-clause-went
returns-in_default-clause-went c = coordinator_absent (terminate_lost c.args.region.now.state.view) c.args.coordinator.now c.args.out.now c.in_default.is
