use Rattle.std.proofs.Common.{sym, subst}
use Rattle.std.specs.List.{AllPairs}
use Rattle.coordinator_state.specs.Coord.{AreApart}
use Rattle.coordinator_state.proofs.HomesLaws.{loads_apart}
use Rattle.coordinator_state.proofs.homes.Homes.loads.Goals as goal

pub returns-clause-apart : goal.returns-clause-apart
returns-clause-apart c = subst (λ ls. AllPairs AreApart ls) (sym c.deref.ensures) (loads_apart c.self.inside.homes.items c.self.inside.loads.value c.self.invariant)
