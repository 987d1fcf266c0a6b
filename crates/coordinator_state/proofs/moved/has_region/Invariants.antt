use Rattle.std.proofs.Common.{◌≡◌, drop}
use Rattle.yard_model.specs.Words.{is_among}
use Rattle.coordinator_state.specs.Homes.{regions_of}
use Rattle.coordinator_state.proofs.moved.has_region.Given as goal

abbrev pub invariant-loop-load : goal.invariant-loop-load
invariant-loop-load l = is_among l.r (regions_of (drop l.load-index l.load-items)) ≡ is_among l.r (regions_of l.loads)
