use Rattle.std.proofs.Common.{◌≡◌, ◌-◌, List, sym, ap, ◌∙◌}
use Rattle.std.specs.Prelude.{Some, None, Option}
use Rattle.std.specs.Option.{option_map}
use Rattle.yard_model.specs.declared.fact.Fact.{Fact}
use Rattle.yard_model.specs.Producer.{Producer}
use Rattle.yard_model.specs.Words.{at}
use Rattle.plain_laws.proofs.Lists.{none_is_not_some}
use Rattle.node_runner.proofs.Shown.{queued_there}
use Rattle.node_runner.proofs.offer.is_queued.Goals as goal

pub returns-in-None : goal.returns-in-None
returns-in-None g c = λ yes k there. absurd (none_is_not_some k.entries (sym (c.in-None.ensures.store) ∙ ap (option_map (λ (x : Producer). x.entries)) there))
