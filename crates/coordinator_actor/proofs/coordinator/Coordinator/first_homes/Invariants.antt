use Rattle.std.proofs.Common.{◌≡◌, drop}
use Rattle.yard_model.specs.Coordinator.{registered}
use Rattle.coordinator_actor.specs.Parts.{first_homes}
use Rattle.coordinator_actor.proofs.coordinator.Coordinator.first_homes.Given as goal

abbrev pub invariant-loop-region : goal.invariant-loop-region
invariant-loop-region l = first_homes l.self.state (drop l.region-index l.region-items) ≡ first_homes l.self.state (registered l.self.state)
