use Rattle.std.proofs.Common.{◌≤◌, ◌∷◌, take}
use Rattle.std.specs.Prelude.{codes}
use Rattle.std.specs.List.{flat_map}
use Rattle.yard_model.specs.SlotReads.{journal}
use Rattle.yard_model.specs.Text.{line, record_words}
use Rattle.run_parts.specs.Writing.{Took}
use Rattle.live_run.proofs.reporting.write_records.Given as goal

-- the lines of the records so far were taken, at least one for each piece
abbrev pub invariant-loop : goal.invariant-loop
invariant-loop g l = record {
  took : Took (flat_map (λ x. line (codes "record" ∷ record_words x)) (take l.done (journal l.name l.store.entries)))
      (record { taken = g.K.Sink.taken l.initial.sink; flushed = g.K.Sink.flushed l.initial.sink; faults = g.K.Sink.faults l.initial.sink })
      (record { taken = g.K.Sink.taken l.sink; flushed = g.K.Sink.flushed l.sink; faults = g.K.Sink.faults l.sink });
  within : l.done ≤ l.count;
  far : l.counter ≤ l.done;
}
