use Rattle.script_text.proofs.FitLaws.{known_if}
use Rattle.script_text.proofs.orders.said.Goals as goal

pub returns-in-FailWrite-clause-known : goal.returns-in-FailWrite-clause-known
returns-in-FailWrite-clause-known c = known_if c.args.mode c.args.config.now c.fail_write.result c.fail_write.ensures.valid
