use Rattle.std.proofs.Common.{◌≡◌, ◌≤◌, ◌++◌, ◌∷◌, drop, take, length}
use Rattle.std.specs.Prelude.{codes}
use Rattle.std.specs.List.{flat_map}
use Rattle.yard_model.specs.Text.{line, record_words}
use Rattle.trace_text.specs.Places.{lent}
use Rattle.trace_text.proofs.entities.put_records.Given as goal

abbrev pub invariant-loop-written : goal.invariant-loop-written
invariant-loop-written l = record {
  items : take l.end l.cells.items ++ flat_map (λ x. line (codes "record" ∷ record_words x)) (lent (drop l.written-index l.records)) ≡ take l.fn.at l.fn.cells.items ++ flat_map (λ x. line (codes "record" ∷ record_words x)) (lent l.records);
  within : l.end ≤ length l.cells.items;
  more : length l.fn.cells.items ≤ length l.cells.items;
}
