use Rattle.producer_ctl.proofs.SendLaws.{stands_at}
use Rattle.producer_ctl.proofs.producers.Producers.knows.Goals as goal

pub returns : goal.returns
returns c = stands_at c.args.p c.self.invariant.0 c.self.view_is c.requires.producer c.place_of.ensures c.index.ensures c.knows_in.ensures
