use Rattle.post_box.proofs.Rows.{rows_more}
use Rattle.post_box.proofs.make.all_rows.Goals as goal

pub loop-place-preserved : goal.loop-place-preserved
loop-place-preserved g c = record { takers = c.in_ok-next_row.ensures.takers; rows = rows_more _ _ _ _ _ c.loop-place.invariant.rows c.in_ok-next_row.ensures.row c.in_ok-push.ensures.items }
