use Rattle.std.proofs.Common.{◌≤◌, length, take}
use Rattle.yard_model.specs.Script.{setting}
use Rattle.trace_text.specs.Parts.{report_parts}
use Rattle.run_parts.specs.Writing.{Took}
use Rattle.replay_run.proofs.PartLaws.{together}
use Rattle.replay_run.proofs.replay.write_report.Given as goal

-- the first parts were taken
abbrev pub invariant-loop-k : goal.invariant-loop-k
invariant-loop-k g l = record {
  within : l.k ≤ length (report_parts (setting l.charter) (g.T.Lists.lists l.stores));
  took : Took (together (take l.k (report_parts (setting l.charter) (g.T.Lists.lists l.stores))))
      (record { taken = g.K.Sink.taken l.initial.sink; flushed = g.K.Sink.flushed l.initial.sink; faults = g.K.Sink.faults l.initial.sink })
      (record { taken = g.K.Sink.taken l.sink; flushed = g.K.Sink.flushed l.sink; faults = g.K.Sink.faults l.sink });
}
