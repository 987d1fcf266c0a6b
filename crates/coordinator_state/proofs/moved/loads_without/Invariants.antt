use Rattle.std.proofs.Common.{◌≡◌, ◌≤◌, take, length}
use Rattle.std.specs.Prelude.{filter}
use Rattle.coordinator_state.specs.Homes.{is_of_other}
use Rattle.coordinator_state.proofs.moved.loads_without.Given as goal

abbrev pub invariant-loop-load : goal.invariant-loop-load
invariant-loop-load l = (l.others ≡ filter (is_of_other l.r) (take l.load-index l.load-items)) × (length l.others ≤ l.load-index)
