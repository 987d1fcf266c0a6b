use Rattle.std.proofs.Common.{◌≡◌}
use Rattle.std.specs.List.{flat_map}
use Rattle.yard_model.specs.Text.{fact_line}
use Rattle.world_sim.specs.Played.{made_of}
use Rattle.replay_run.specs.Replays.{IsOn}
use Rattle.run_parts.specs.Stops.{course}
use Rattle.run_parts.specs.Writing.{Took}
use Rattle.replay_run.proofs.replay.play.Given as goal

-- the lines of the orders so far were taken, and the trace goes on
abbrev pub invariant-loop-k : goal.invariant-loop-k
invariant-loop-k g l = record {
  on : IsOn l.fn.world.script l.k l.world;
  course_is : l.desk.course ≡ course (made_of l.fn.world.script l.k).facts;
  took : Took (flat_map fact_line (made_of l.fn.world.script l.k).facts)
      (record { taken = g.K.Sink.taken l.initial.sink; flushed = g.K.Sink.flushed l.initial.sink; faults = g.K.Sink.faults l.initial.sink })
      (record { taken = g.K.Sink.taken l.sink; flushed = g.K.Sink.flushed l.sink; faults = g.K.Sink.faults l.sink });
}
