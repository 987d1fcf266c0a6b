use Rattle.std.proofs.Common.{◌≡◌, ◌+◌, drop, length, ◌++◌}
use Rattle.std.specs.List.{flat_map}
use Rattle.yard_model.specs.Move.{item_of}
use Rattle.coordinator_actor.specs.Parts.{ask}
use Rattle.coordinator_actor.proofs.coordinator.Coordinator.ask.Given as goal

abbrev pub invariant-loop-region : goal.invariant-loop-region
invariant-loop-region l = (l.out.items ++ flat_map item_of (ask l.s l.given (drop l.region-index l.region-items) l.self.state) ≡ l.fn.out.items ++ flat_map item_of (ask l.s l.given l.regions l.self.state))
    × (l.fn.out.spare + length (flat_map item_of (ask l.s l.given (drop l.region-index l.region-items) l.self.state)) ≡ l.out.spare + length (flat_map item_of (ask l.s l.given l.regions l.self.state)))
