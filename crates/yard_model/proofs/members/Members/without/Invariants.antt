use Rattle.std.proofs.Common.{◌≡◌, ◌≤◌, take, length}
use Rattle.yard_model.specs.Words.{without}
use Rattle.yard_model.proofs.members.Members.without.Given as goal

abbrev pub invariant-loop-place : goal.invariant-loop-place
invariant-loop-place l = (l.rest ≡ without l.who (take l.place l.self)) × (length l.rest ≤ l.place)
