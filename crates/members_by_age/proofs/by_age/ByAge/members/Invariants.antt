use Rattle.std.proofs.Common.{◌≡◌}
use Rattle.members_by_age.specs.Aged.{members_of}
use Rattle.members_by_age.proofs.by_age.ByAge.members.Given as goal

abbrev pub invariant-loop-place : goal.invariant-loop-place
invariant-loop-place l = l.members ≡ members_of l.self-inside.numbers.entries l.place
