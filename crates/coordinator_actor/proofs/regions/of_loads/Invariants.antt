use Rattle.std.proofs.Common.{◌≡◌, ◌≤◌, take, length}
use Rattle.coordinator_state.specs.Homes.{regions_of}
use Rattle.coordinator_actor.proofs.regions.of_loads.Given as goal

abbrev pub invariant-loop-load : goal.invariant-loop-load
invariant-loop-load l = (l.regions ≡ regions_of (take l.load-index l.load-items)) × (length l.regions ≤ l.load-index)
