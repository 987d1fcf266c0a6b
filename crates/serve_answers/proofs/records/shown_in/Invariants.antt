use Rattle.std.proofs.Common.{◌≡◌, ◌+◌, ◌≤◌, drop, length}
use Rattle.std.specs.Prelude.{IsTrue, fold}
use Rattle.yard_model.specs.Behaviour.{after_record, folded}
use Rattle.trace_text.specs.Foldable.{are_foldable}
use Rattle.serve_answers.specs.Records.{records_in}
use Rattle.serve_answers.proofs.records.shown_in.Given as goal

abbrev pub invariant-loop-entry : goal.invariant-loop-entry
invariant-loop-entry l = record {
  foldable : IsTrue (are_foldable l.state (records_in l.entity (drop l.entry-index l.list)));
  value : fold after_record l.state (records_in l.entity (drop l.entry-index l.list)) ≡ folded l.fn.kind (records_in l.entity l.list);
  all : l.count + length (records_in l.entity (drop l.entry-index l.list)) ≡ length (records_in l.entity l.list);
  few : l.count ≤ l.entry-index;
}
