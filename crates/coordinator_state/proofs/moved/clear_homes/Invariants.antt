use Rattle.std.proofs.Common.{◌≡◌, take, drop, map}
use Rattle.coordinator_state.specs.Homes.{home_without}
use Rattle.coordinator_state.proofs.moved.clear_homes.Given as goal

abbrev pub invariant-loop-home : goal.invariant-loop-home
invariant-loop-home l = (take l.home-index l.homes ≡ map (home_without l.r) (take l.home-index l.fn.homes)) × (drop l.home-index l.homes ≡ drop l.home-index l.fn.homes)
