use Rattle.std.proofs.Common.{◌≡◌, ◌+◌, ◌≤◌, ◌++◌, length, map}
use Rattle.post_box.specs.Making.{idle_taker, AreRows, AreTakers, dealt_down}
use Rattle.post_box.specs.Tables.{queue_table}
use Rattle.post_box.proofs.make.join_all.Given as goal

abbrev pub invariant-loop-node : goal.invariant-loop-node
invariant-loop-node g l = record {
  within : l.node ≤ length l.queues;
  rows : AreRows (map queue_table l.queues) l.node l.rows.items;
  takers : AreTakers (map queue_table l.queues) l.node (idle_taker (length l.queues + 1)) l.takers.items;
  passed : l.passes.items ++ dealt_down (map queue_table l.queues) l.node ≡ dealt_down (map queue_table l.queues) (length l.queues);
}

abbrev pub decreases-loop-node : goal.decreases-loop-node
decreases-loop-node g l = l.node
