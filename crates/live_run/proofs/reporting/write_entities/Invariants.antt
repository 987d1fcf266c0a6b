use Rattle.std.proofs.Common.{◌≤◌}
use Rattle.std.specs.List.{flat_map}
use Rattle.yard_model.specs.Script.{setting}
use Rattle.yard_model.specs.Words.{numbers}
use Rattle.shard_store.specs.Stores.{lists_at}
use Rattle.run_parts.specs.Writing.{Took}
use Rattle.trace_text.specs.Parts.{shard_part}
use Rattle.live_run.proofs.reporting.write_entities.Given as goal

-- the entities of the first shards were taken
abbrev pub invariant-loop-i : goal.invariant-loop-i
invariant-loop-i g l = record {
  took : Took (flat_map (shard_part (setting l.charter) (lists_at l.charter.config l.places)) (numbers 0 l.i))
      (record { taken = g.K.Sink.taken l.initial.sink; flushed = g.K.Sink.flushed l.initial.sink; faults = g.K.Sink.faults l.initial.sink })
      (record { taken = g.K.Sink.taken l.sink; flushed = g.K.Sink.flushed l.sink; faults = g.K.Sink.faults l.sink });
  within : l.i ≤ l.charter.config.shards;
}
