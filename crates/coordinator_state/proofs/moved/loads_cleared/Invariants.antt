use Rattle.std.proofs.Common.{◌≡◌, ◌≤◌, take, length}
use Rattle.std.specs.List.{All}
use Rattle.coordinator_state.specs.Homes.{regions_of, HasNone}
use Rattle.coordinator_state.proofs.moved.loads_cleared.Given as goal

abbrev pub invariant-loop-load : goal.invariant-loop-load
invariant-loop-load l = (regions_of l.cleared ≡ regions_of (take l.load-index l.load-items)) × (length l.cleared ≤ l.load-index) × All HasNone l.cleared
