use Rattle.std.proofs.Common.{◌≡◌, drop}
use Rattle.std.specs.Cmp.Lexicographic.{pointwise}
use Rattle.yard_model.specs.Words.{is_same}
use Rattle.yard_model.proofs.members.Members.has_each.Given as goal

abbrev pub invariant-loop-place : goal.invariant-loop-place
invariant-loop-place l = pointwise is_same (drop l.place l.self) (drop l.place l.other) ≡ pointwise is_same l.self l.other
