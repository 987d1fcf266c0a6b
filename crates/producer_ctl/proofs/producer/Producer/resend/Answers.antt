use Rattle.std.proofs.Common.{◌∙◌, sym}
use Rattle.producer_ctl.proofs.RuleLaws.{resend_is}
use Rattle.producer_ctl.proofs.producer.Producer.resend.Goals as goal

pub returns : goal.returns
returns c = c.to_resend.ensures ∙ sym (resend_is c.args.from c.pair-pair.ensures)
