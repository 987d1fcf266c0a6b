use Rattle.std.proofs.Common.{◌≡◌, map, replicate, []}
use Rattle.yard_model.proofs.charter.no_sends.Given as goal

abbrev pub invariant-loop-place : goal.invariant-loop-place
invariant-loop-place l = map (λ v. v.items) l.all.items ≡ replicate l.place []
