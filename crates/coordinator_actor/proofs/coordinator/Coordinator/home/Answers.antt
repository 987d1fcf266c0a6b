use Rattle.std.proofs.Common.{◌≡◌, ap, subst, ◌∙◌, true}
use Rattle.std.specs.Prelude.{IfSome}
use Rattle.yard_model.specs.Coordinator.{home_of, registered}
use Rattle.yard_model.specs.Words.{is_among}
use Rattle.coordinator_actor.specs.Held.{Held}
use Rattle.coordinator_actor.proofs.coordinator.Coordinator.home.Goals as goal

pub returns-clause-value : goal.returns-clause-value
returns-clause-value c = c.home.ensures.value ∙ ap (λ (h : Held). home_of h.state c.args.s) c.self.view_is

pub returns-clause-registered : goal.returns-clause-registered
returns-clause-registered c =
    subst (λ (h : Held). IfSome c.home.result (λ r. is_among r (registered h.state) ≡ true)) c.self.view_is c.home.ensures.registered
