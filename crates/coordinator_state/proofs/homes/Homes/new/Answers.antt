use Rattle.std.proofs.Common.{rules}
use Rattle.coordinator_state.proofs.homes.Homes.new.Goals as goal

pub returns-clause-homes : goal.returns-clause-homes
returns-clause-homes c = c.in_ok-homes.ensures.items_if_clones_equal (λ y h. search rules)
