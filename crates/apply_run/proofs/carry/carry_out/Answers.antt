use Rattle.log_resume.specs.Restored.{restored}
use Rattle.apply_run.proofs.carry.carry_out.Goals as goal

pub carry_within-requires : goal.carry_within-requires
carry_within-requires g c = c.few_orders_fit.ensures c.args.charter.now 1 (restored c.args.charter.now c.args.batches.now) c.config.ensures.script c.requires.few
