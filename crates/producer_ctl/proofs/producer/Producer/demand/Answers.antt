use Rattle.producer_ctl.proofs.RuleLaws.{bounded_by}
use Rattle.producer_ctl.proofs.producer.Producer.demand.Goals as goal

pub set_demand-requires-clause-bounded : goal.set_demand-requires-clause-bounded
set_demand-requires-clause-bounded c = bounded_by c.args.place.now.entity c.args.confirmed c.args.up_to c.args.self.now c.confirm.ensures.state c.requires.bounded
