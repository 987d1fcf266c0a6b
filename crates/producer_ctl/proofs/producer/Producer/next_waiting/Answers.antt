use Rattle.producer_ctl.proofs.TableLaws.{next_pair}
use Rattle.producer_ctl.proofs.producer.Producer.next_waiting.Goals as goal

pub returns : goal.returns
returns c = next_pair c.args.from c.next.result c.self.invariant c.self.view_is c.next.ensures
