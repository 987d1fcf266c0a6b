use Rattle.std.proofs.Common.{◌≡◌, drop}
use Rattle.yard_model.specs.Words.{is_among}
use Rattle.yard_model.proofs.members.Members.has.Given as goal

abbrev pub invariant-loop-place : goal.invariant-loop-place
invariant-loop-place l = is_among l.who (drop l.place l.self) ≡ is_among l.who l.self
