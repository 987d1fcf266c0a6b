use Rattle.std.proofs.Common.{◌≡◌, ◌≤◌, take, length}
use Rattle.coordinator_actor.specs.Parts.{staying_of}
use Rattle.coordinator_actor.proofs.quitters.Quitters.staying.Given as goal

abbrev pub invariant-loop-load : goal.invariant-loop-load
invariant-loop-load l = (l.staying ≡ staying_of l.self.items (take l.load-index l.load-items)) × (length l.staying ≤ l.load-index)
