use Rattle.std.proofs.Common.{◌≡◌, length, map, replicate}
use Rattle.post_box.specs.Making.{idle_taker, AreAll}
use Rattle.post_box.specs.Tables.{queue_table, queue_room}
use Rattle.post_box.proofs.make.open_all.Given as goal

abbrev pub invariant-loop : goal.invariant-loop
invariant-loop g l = record {
  long : length l.queues.items ≡ l.counter;
  rooms : map queue_room l.queues.items ≡ replicate l.counter l.capacity;
  takers : AreAll (map queue_table l.queues.items) (idle_taker 1) l.takers.items;
}
