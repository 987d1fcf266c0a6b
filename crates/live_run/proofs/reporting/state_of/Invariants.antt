use Rattle.std.proofs.Common.{◌≡◌, drop}
use Rattle.std.specs.Prelude.{IsTrue, fold}
use Rattle.yard_model.specs.Behaviour.{after_record, folded}
use Rattle.yard_model.specs.SlotReads.{journal}
use Rattle.trace_text.specs.Foldable.{are_foldable}
use Rattle.live_run.proofs.reporting.state_of.Given as goal

abbrev pub invariant-loop-k : goal.invariant-loop-k
invariant-loop-k l = record {
  foldable : IsTrue (are_foldable l.state (drop l.k (journal l.fn.name l.fn.store.entries)));
  value : fold after_record l.state (drop l.k (journal l.fn.name l.fn.store.entries)) ≡ folded l.fn.kind (journal l.fn.name l.fn.store.entries);
}
