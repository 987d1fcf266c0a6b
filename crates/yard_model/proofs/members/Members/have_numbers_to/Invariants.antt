use Rattle.std.proofs.Common.{◌≡◌, drop}
use Rattle.std.specs.Prelude.{nat_le}
use Rattle.std.specs.List.{list_all}
use Rattle.yard_model.specs.declared.incarnation.Incarnation.{Incarnation}
use Rattle.yard_model.proofs.members.Members.have_numbers_to.Given as goal

abbrev pub invariant-loop-place : goal.invariant-loop-place
invariant-loop-place l = list_all (λ (x : Incarnation). nat_le x.number l.limit) (drop l.place l.self) ≡ list_all (λ (x : Incarnation). nat_le x.number l.limit) l.self
