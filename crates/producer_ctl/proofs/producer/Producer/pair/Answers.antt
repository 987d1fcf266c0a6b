use Rattle.producer_ctl.proofs.PairLaws.{pair_of, progress_is}
use Rattle.producer_ctl.proofs.producer.Producer.pair.Goals as goal

pub returns : goal.returns
returns c = record {
  pair_is = pair_of c.self.invariant c.self.view_is c.requires.place c.get.ensures;
  progress_is = progress_is c.self.invariant c.self.view_is c.requires.place c.get.ensures;
}
