use Rattle.std.proofs.Common.{map}
use Rattle.post_box.specs.Tables.{queue_table}
use Rattle.post_box.proofs.Rows.{Row}
use Rattle.post_box.proofs.make.next_row.Given as goal

abbrev pub invariant-loop-place : goal.invariant-loop-place
invariant-loop-place g l = Row (map queue_table l.queues) l.node l.place l.row.items l.takers.items
