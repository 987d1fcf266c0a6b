use Rattle.std.proofs.Common.{◌≡◌}
use Rattle.top_tests.proofs.mails.taken.Given as goal

abbrev pub invariant-loop-count : goal.invariant-loop-count
invariant-loop-count g l = record { belongs : l.pass.tables ≡ l.boxes.tables; own : l.own ≡ l.pass.node }
