use Rattle.node_runner.specs.Mailed.{IsSameHolder}
use Rattle.node_runner.proofs.sending.post_views.Given as goal

abbrev pub invariant-loop-place : goal.invariant-loop-place
invariant-loop-place g l = IsSameHolder l.fn.mail.pass l.mail.pass
