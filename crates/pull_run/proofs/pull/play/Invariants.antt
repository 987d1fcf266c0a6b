use Rattle.std.proofs.Common.{◌≡◌}
use Rattle.std.specs.List.{flat_map}
use Rattle.yard_model.specs.Text.{fact_line}
use Rattle.run_parts.specs.Stops.{course}
use Rattle.run_parts.specs.Writing.{Took}
use Rattle.pull_run.specs.Pulls.{IsOn, told_to}
use Rattle.pull_run.proofs.pull.play.Given as goal

-- what the lines so far told was taken, and the trace goes on
abbrev pub invariant-loop-k : goal.invariant-loop-k
invariant-loop-k g l = record {
  on : IsOn l.fn.charter l.k l.world;
  course_is : l.desk.course ≡ course (told_to l.fn.charter l.k);
  took : Took (flat_map fact_line (told_to l.fn.charter l.k))
      (record { taken = g.K.Sink.taken l.initial.sink; flushed = g.K.Sink.flushed l.initial.sink; faults = g.K.Sink.faults l.initial.sink })
      (record { taken = g.K.Sink.taken l.sink; flushed = g.K.Sink.flushed l.sink; faults = g.K.Sink.faults l.sink });
}
