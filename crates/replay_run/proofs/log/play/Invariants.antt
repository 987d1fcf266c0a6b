use Rattle.std.proofs.Common.{◌≡◌, ◌+◌, ◌*◌, ◌≤◌, ◌^◌, take}
use Rattle.std.specs.Prelude.{IsTrue}
use Rattle.std.specs.List.{flat_map}
use Rattle.yard_model.specs.Text.{fact_line}
use Rattle.disk_log.specs.Images.{LeavesOnly}
use Rattle.disk_log.specs.Spelled.{SpellsPrefix}
use Rattle.log_orders.specs.Gathered.{RestsOn}
use Rattle.log_orders.specs.Orders.{batches}
use Rattle.logged_lines.specs.Logged.{batches_of, orders_of}
use Rattle.run_parts.specs.Stops.{course}
use Rattle.run_parts.specs.Writing.{Took}
use Rattle.world_sim.specs.Played.{made_of}
use Rattle.replay_run.specs.Replays.{IsOn}
use Rattle.replay_run.proofs.log.play.Given as goal

-- the batches of the orders so far are logged, their lines were taken, and the trace goes on
abbrev pub invariant-loop-k : goal.invariant-loop-k
invariant-loop-k g l = record {
  on : IsOn l.fn.world.script l.k l.world;
  course_is : l.desk.course ≡ course (made_of l.fn.world.script l.k).facts;
  took : Took (flat_map fact_line (made_of l.fn.world.script l.k).facts)
      (record { taken = g.K.Sink.taken l.fn.sink; flushed = g.K.Sink.flushed l.fn.sink; faults = g.K.Sink.faults l.fn.sink })
      (record { taken = g.K.Sink.taken l.sink; flushed = g.K.Sink.flushed l.sink; faults = g.K.Sink.faults l.sink });
  rests : RestsOn g.D.Disk.tells l.log (g.D.Disk.content l.disk) (g.D.Disk.images l.disk) (batches (take l.k (orders_of l.fn.world.script)));
  leaves : IsTrue g.D.Disk.tells → LeavesOnly (g.D.Disk.images l.fn.disk) (g.D.Disk.images l.disk) (SpellsPrefix (batches_of l.fn.world.script) 0);
  room : l.log ≤ l.k * (2 ^ 31 + 5);
  faults : g.D.Disk.faults l.fn.disk ≤ g.D.Disk.faults l.disk;
}
