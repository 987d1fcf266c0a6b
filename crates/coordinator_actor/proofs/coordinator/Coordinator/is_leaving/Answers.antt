use Rattle.std.proofs.Common.{ap, ◌∙◌}
use Rattle.yard_model.specs.Words.{is_among}
use Rattle.coordinator_actor.specs.Held.{Held}
use Rattle.coordinator_actor.proofs.coordinator.Coordinator.is_leaving.Goals as goal

pub returns : goal.returns
returns c = c.has.ensures ∙ ap (λ (h : Held). is_among c.args.r.now h.state.quitting) c.self.view_is
