use Rattle.resume_run.proofs.ResumeLaws.{complete}
use Rattle.resume_run.proofs.resume.resume_text.Goals as goal

pub returns-clause-complete : goal.returns-clause-complete
returns-clause-complete g c =
    complete g.D.Disk.tells (g.D.Disk.content c.args.disk.now) c.args.charter.now (g.D.Disk.faults c.args.disk.now) (g.D.Disk.faults c.text_on.new.disk) c.text_on.result c.text_on.ensures.cause c.text_on.ensures.damaged
    c.text_on.ensures.foreign c.one_reading.ensures.spelled c.texts_tell.ensures c.entries_are_readable.ensures
