use Rattle.live_run.proofs.PuttingLaws.{puts_same}
use Rattle.live_run.proofs.writing.write_head.Goals as goal

pub returns : goal.returns
returns g c = puts_same c.write_piece.result _ _ _ _ c.put_head-end.ensures.items c.write_piece.ensures
