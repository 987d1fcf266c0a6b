use Rattle.std.proofs.Common.{◌≤◌, length, take}
use Rattle.std.specs.List.{flat_map}
use Rattle.yard_model.specs.Entry.{coord_fact}
use Rattle.yard_model.specs.Text.{fact_line}
use Rattle.run_parts.specs.Writing.{Took}
use Rattle.live_run.proofs.writing.write_coordinator_entries.Given as goal

-- the lines of the entries so far were taken, at least one for each piece
abbrev pub invariant-loop : goal.invariant-loop
invariant-loop g l = record {
  took : Took (flat_map (λ e. fact_line (coord_fact e)) (take l.done l.list))
      (record { taken = g.K.Sink.taken l.initial.sink; flushed = g.K.Sink.flushed l.initial.sink; faults = g.K.Sink.faults l.initial.sink })
      (record { taken = g.K.Sink.taken l.sink; flushed = g.K.Sink.flushed l.sink; faults = g.K.Sink.faults l.sink });
  within : l.done ≤ length l.list;
  far : l.counter ≤ l.done;
}
