use Rattle.std.proofs.Common.{ap, ◌∙◌}
use Rattle.std.specs.Prelude.{List}
use Rattle.std.specs.List.{list_all}
use Rattle.yard_model.specs.declared.incarnation.Incarnation.{Incarnation}
use Rattle.yard_model.specs.Words.{is_among}
use Rattle.coordinator_actor.specs.Held.{Held, are_viewed}
use Rattle.coordinator_actor.proofs.coordinator.Coordinator.are_viewed.Goals as goal

pub returns : goal.returns
returns c = c.all_viewed.ensures ∙ (ap (λ (rs : List Incarnation). list_all (λ r. is_among r c.args.view.now.members) rs) c.lent_loads.ensures.regions ∙ ap (λ (h : Held). are_viewed c.args.view.now.members h.state.entries) c.self.view_is)
