use Rattle.std.proofs.Common.{◌≤◌}
use Rattle.std.specs.List.{flat_map}
use Rattle.yard_model.specs.declared.incarnation.Slot.TheVariants as slot
use Rattle.yard_model.specs.SlotLists.{queue_list}
use Rattle.yard_model.specs.Text.{slot_lines}
use Rattle.yard_model.specs.Words.{numbers}
use Rattle.run_parts.specs.Writing.{Took}
use Rattle.live_run.proofs.writing.write_queues.Given as goal

-- the lists of the first queues were taken
abbrev pub invariant-loop-i : goal.invariant-loop-i
invariant-loop-i g l = record {
  took : Took (flat_map (λ p. slot_lines (slot.Queue p) (queue_list (g.T.Lists.lists l.stores) p)) (numbers 1 l.i))
      (record { taken = g.K.Sink.taken l.initial.sink; flushed = g.K.Sink.flushed l.initial.sink; faults = g.K.Sink.faults l.initial.sink })
      (record { taken = g.K.Sink.taken l.sink; flushed = g.K.Sink.flushed l.sink; faults = g.K.Sink.faults l.sink });
  within : l.i ≤ l.charter.config.producers;
}
