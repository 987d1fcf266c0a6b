use Rattle.std.proofs.Common.{◌∙◌, sym}
use Rattle.producer_ctl.proofs.RuleLaws.{push_is}
use Rattle.producer_ctl.proofs.producer.Producer.push.Goals as goal

pub returns-clause-numbers : goal.returns-clause-numbers
returns-clause-numbers c = c.to_push.ensures ∙ sym (push_is c.pair-pair.ensures)
