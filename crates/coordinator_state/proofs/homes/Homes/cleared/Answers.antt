use Rattle.std.proofs.Common.{rules, sym, subst}
use Rattle.coordinator_state.specs.Homes.{AreHomes}
use Rattle.coordinator_state.proofs.HomesLaws.{cleared_homes}
use Rattle.coordinator_state.proofs.homes.Homes.cleared.Goals as goal

pub invariant_of-result : goal.invariant_of-result
invariant_of-result c =
    subst (λ ls. AreHomes c.in_ok-homes.homes.items ls) (sym c.in_ok-loads.ensures) (cleared_homes c.in_ok-homes.homes.items c.self.inside.homes.items c.self.inside.loads.value c.loads_cleared.result c.self.invariant (c.in_ok-homes.ensures.items_if_clones_equal (λ y h. search rules)) (rw c.deref.ensures at c.loads_cleared.ensures.regions) c.loads_cleared.ensures.none)

pub returns-clause-homes : goal.returns-clause-homes
returns-clause-homes c = c.in_ok-homes.ensures.items_if_clones_equal (λ y h. search rules)
