use Rattle.std.proofs.Common.{◌∙◌}
use Rattle.producer_ctl.proofs.StoreLaws.{freed_is, freed_told, number_of}
use Rattle.producer_ctl.proofs.producers.Producers.end.Goals as goal

pub returns-clause-state : goal.returns-clause-state
returns-clause-state c = c.take_all-store.ensures.state ∙ freed_is c.args.p c.args.self.now c.knows.ensures.empty

pub returns-clause-out : goal.returns-clause-out
returns-clause-out c = freed_told c.args.p c.args.self.now c.args.out.now c.take_all-store.result (number_of c.args.p c.args.self.now c.knows.ensures.each) c.take_all-store.ensures.store c.tell_freed.ensures
