use Rattle.node_runner.specs.Mailed.{IsSameHolder}
use Rattle.node_runner.proofs.mail.Mail.await_answer.Given as goal

abbrev pub invariant-loop : goal.invariant-loop
invariant-loop g l = IsSameHolder l.fn.self.pass l.self.pass
