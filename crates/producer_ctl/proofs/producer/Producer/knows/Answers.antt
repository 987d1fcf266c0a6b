use Rattle.producer_ctl.proofs.SendLaws.{stands_as}
use Rattle.producer_ctl.proofs.producer.Producer.knows.Goals as goal

pub returns : goal.returns
returns c = stands_as c.self.invariant c.self.view_is
