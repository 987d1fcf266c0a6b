use Rattle.std.proofs.Common.{◌≡◌}
use Rattle.node_runner.specs.Mailed.{IsSameHolder}
use Rattle.node_runner.proofs.sending.post_all.Given as goal

abbrev pub invariant-loop-place : goal.invariant-loop-place
invariant-loop-place g l = record { kept : IsSameHolder l.fn.mail.pass l.mail.pass; same : l.pass ≡ l.fn.pass }
