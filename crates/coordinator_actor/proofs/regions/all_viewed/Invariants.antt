use Rattle.std.proofs.Common.{◌≡◌, drop}
use Rattle.std.specs.List.{list_all}
use Rattle.yard_model.specs.Words.{is_among}
use Rattle.coordinator_state.specs.Homes.{regions_of}
use Rattle.coordinator_actor.proofs.regions.all_viewed.Given as goal

abbrev pub invariant-loop-load : goal.invariant-loop-load
invariant-loop-load l = list_all (λ r. is_among r l.view.members) (regions_of (drop l.load-index l.load-items)) ≡ list_all (λ r. is_among r l.view.members) (regions_of l.loads)
