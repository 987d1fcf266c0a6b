use Rattle.std.proofs.Common.{◌≡◌}
use Rattle.lease_tests.proofs.boxes.talk.Given as goal

abbrev pub invariant-loop-number : goal.invariant-loop-number
invariant-loop-number g l = record { belongs : l.pass.tables ≡ l.boxes.tables; own : l.own ≡ l.pass.node }
