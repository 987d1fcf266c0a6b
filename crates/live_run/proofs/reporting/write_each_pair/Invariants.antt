use Rattle.std.proofs.Common.{◌≤◌, length, take}
use Rattle.std.specs.List.{flat_map}
use Rattle.run_parts.specs.Writing.{Took}
use Rattle.trace_text.specs.Places.{tally_of}
use Rattle.trace_text.specs.Rows.{tally_text}
use Rattle.live_run.proofs.reporting.write_each_pair.Given as goal

-- the first pairs were taken
abbrev pub invariant-loop-i : goal.invariant-loop-i
invariant-loop-i g l = record {
  took : Took (flat_map (λ e. tally_text l.p e (tally_of l.store.entries e)) (take l.i l.names))
      (record { taken = g.K.Sink.taken l.initial.sink; flushed = g.K.Sink.flushed l.initial.sink; faults = g.K.Sink.faults l.initial.sink })
      (record { taken = g.K.Sink.taken l.sink; flushed = g.K.Sink.flushed l.sink; faults = g.K.Sink.faults l.sink });
  within : l.i ≤ length l.names;
}
