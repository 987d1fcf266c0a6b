use Rattle.std.proofs.Common.{◌∙◌}
use Rattle.producer_ctl.proofs.SendLaws.{next_is}
use Rattle.producer_ctl.proofs.producers.Producers.next.Goals as goal

pub returns : goal.returns
returns c = c.next_in.ensures ∙ next_is c.args.p c.self.invariant.0 c.self.view_is c.requires.producer c.place_of.ensures c.index.ensures
