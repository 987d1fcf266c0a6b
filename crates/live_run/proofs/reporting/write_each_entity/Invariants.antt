use Rattle.std.proofs.Common.{◌≤◌, length, take}
use Rattle.std.specs.List.{flat_map}
use Rattle.yard_model.specs.Script.{setting}
use Rattle.yard_model.specs.SlotReads.{journal}
use Rattle.yard_model.specs.Text.{entity_lines}
use Rattle.run_parts.specs.Writing.{Took}
use Rattle.live_run.proofs.reporting.write_each_entity.Given as goal

-- the first entities were taken
abbrev pub invariant-loop-i : goal.invariant-loop-i
invariant-loop-i g l = record {
  took : Took (flat_map (λ e. entity_lines (setting l.charter) e (journal e l.store.entries)) (take l.i l.names))
      (record { taken = g.K.Sink.taken l.initial.sink; flushed = g.K.Sink.flushed l.initial.sink; faults = g.K.Sink.faults l.initial.sink })
      (record { taken = g.K.Sink.taken l.sink; flushed = g.K.Sink.flushed l.sink; faults = g.K.Sink.faults l.sink });
  within : l.i ≤ length l.names;
}
