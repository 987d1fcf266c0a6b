use Rattle.apply_run.proofs.ApplyLaws.{complete}
use Rattle.apply_run.proofs.apply.apply_text.Goals as goal

pub returns-clause-complete : goal.returns-clause-complete
returns-clause-complete g c =
    complete g.D.Disk.tells (g.D.Disk.content c.args.disk.now) c.args.charter.now (g.D.Disk.faults c.args.disk.now) (g.D.Disk.faults c.apply_on.new.disk) c.apply_on.result c.apply_on.ensures.cause c.apply_on.ensures.damaged
    c.apply_on.ensures.foreign c.one_reading.ensures.spelled c.one_reading.ensures.batches
