use Rattle.live_run.proofs.PuttingLaws.{puts_of}
use Rattle.live_run.proofs.writing.write_piece.Goals as goal

pub returns : goal.returns
returns g c = puts_of c.write_all.result _ _ _ c.write_all.ensures.ok c.write_all.ensures.err c.write_all.ensures.flushed c.write_all.ensures.cause c.write_all.ensures.never_falls
