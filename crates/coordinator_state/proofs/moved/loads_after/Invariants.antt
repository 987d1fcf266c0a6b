use Rattle.std.proofs.Common.{◌≡◌, ◌<◌, ◌≤◌, take, length}
use Rattle.std.specs.Prelude.{List, Option, slice_set}
use Rattle.std.specs.List.{All}
use Rattle.yard_model.specs.declared.incarnation.Incarnation.{Incarnation}
use Rattle.coordinator_state.specs.Homes.{regions_of, HasHomes}
use Rattle.coordinator_state.proofs.moved.loads_after.Given as goal

abbrev pub invariant-loop-load : goal.invariant-loop-load
invariant-loop-load l = (regions_of l.after ≡ regions_of (take l.load-index l.load-items)) × (length l.after ≤ l.load-index)
    × ((homes : List (Option Incarnation)) → l.s < length homes → All (HasHomes homes) l.loads → All (HasHomes (slice_set homes l.s l.home)) l.after)
