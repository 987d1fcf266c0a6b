use Rattle.std.proofs.Common.{length, ap, arith}
use Rattle.disk_log.proofs.KeptLaws.{length-cut}
use Rattle.disk_log.proofs.batches.Batches.len.Goals as goal

pub returns : goal.returns
returns c = omega (arith, c.len.ensures, ap length c.self.view_is, length-cut 0 c.self.inside.ends.items c.self.inside.facts)
