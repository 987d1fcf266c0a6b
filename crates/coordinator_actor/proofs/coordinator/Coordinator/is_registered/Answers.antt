use Rattle.std.proofs.Common.{ap, ◌∙◌}
use Rattle.yard_model.specs.Coordinator.{registered}
use Rattle.yard_model.specs.Words.{is_among}
use Rattle.coordinator_actor.specs.Held.{Held}
use Rattle.coordinator_actor.proofs.coordinator.Coordinator.is_registered.Goals as goal

pub returns : goal.returns
returns c = c.is_registered.ensures ∙ ap (λ (h : Held). is_among c.args.r.now (registered h.state)) c.self.view_is
