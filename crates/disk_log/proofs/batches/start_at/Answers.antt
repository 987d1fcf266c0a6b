use Rattle.std.proofs.Common.{arith}
use Rattle.disk_log.proofs.KeptLaws.{begins_at}
use Rattle.disk_log.proofs.batches.start_at.Goals as goal

pub returns : goal.returns
returns c = begins_at c.args.ends.now c.args.place (omega (arith, c.if-place-eq0.false))
