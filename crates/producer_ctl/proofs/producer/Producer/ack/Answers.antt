use Rattle.std.proofs.Common.{refl}
use Rattle.producer_ctl.proofs.RuleLaws.{then_moved, then_given, then_numbers}
use Rattle.yard_model.specs.Producer.{confirm}
use Rattle.producer_ctl.specs.Produced.{pushing}
use Rattle.producer_ctl.proofs.producer.Producer.ack.Goals as goal

pub returns-clause-state : goal.returns-clause-state
returns-clause-state c = then_moved (confirm c.args.place.now.entity c.args.confirmed) (pushing c.args.place.now.entity) c.args.self.now c.confirm.ensures.state c.push.ensures.state

pub returns-clause-out : goal.returns-clause-out
returns-clause-out c = then_given (confirm c.args.place.now.entity c.args.confirmed) (pushing c.args.place.now.entity) c.args.self.now c.args.out.now c.confirm.ensures.state c.confirm.ensures.out refl

pub returns-clause-numbers : goal.returns-clause-numbers
returns-clause-numbers c = then_numbers (confirm c.args.place.now.entity c.args.confirmed) (pushing c.args.place.now.entity) c.args.self.now c.confirm.ensures.state c.push.ensures.numbers
