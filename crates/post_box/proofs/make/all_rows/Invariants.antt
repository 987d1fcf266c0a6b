use Rattle.std.proofs.Common.{◌+◌, map}
use Rattle.post_box.specs.Making.{idle_taker, AreAll, AreRows}
use Rattle.post_box.specs.Tables.{queue_table}
use Rattle.post_box.proofs.make.all_rows.Given as goal

abbrev pub invariant-loop-place : goal.invariant-loop-place
invariant-loop-place g l = record {
  takers : AreAll (map queue_table l.queues) (idle_taker (l.place + 1)) l.takers.items;
  rows : AreRows (map queue_table l.queues) l.place l.rows.items;
}
