use Rattle.std.proofs.Common.{◌≤◌}
use Rattle.std.specs.List.{flat_map}
use Rattle.yard_model.specs.Script.{setting}
use Rattle.yard_model.specs.Words.{numbers}
use Rattle.shard_store.specs.Stores.{lists_at}
use Rattle.run_parts.specs.Writing.{Took}
use Rattle.trace_text.specs.Parts.{queue_part}
use Rattle.live_run.proofs.reporting.write_pairs.Given as goal

-- the pairs of the first queues were taken
abbrev pub invariant-loop-i : goal.invariant-loop-i
invariant-loop-i g l = record {
  took : Took (flat_map (queue_part (setting l.charter) (lists_at l.charter.config l.places)) (numbers 1 l.i))
      (record { taken = g.K.Sink.taken l.initial.sink; flushed = g.K.Sink.flushed l.initial.sink; faults = g.K.Sink.faults l.initial.sink })
      (record { taken = g.K.Sink.taken l.sink; flushed = g.K.Sink.flushed l.sink; faults = g.K.Sink.faults l.sink });
  within : l.i ≤ l.charter.config.producers;
}
