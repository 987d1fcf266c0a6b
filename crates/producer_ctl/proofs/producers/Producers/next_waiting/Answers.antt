use Rattle.producer_ctl.proofs.TableLaws.{next_held}
use Rattle.producer_ctl.proofs.producers.Producers.next_waiting.Goals as goal

pub returns : goal.returns
returns c = next_held c.args.p c.args.from c.next_waiting_in.result c.self.invariant.0 c.self.view_is c.requires.producer c.place_of.ensures c.index.ensures c.names.ensures c.next_waiting_in.ensures
