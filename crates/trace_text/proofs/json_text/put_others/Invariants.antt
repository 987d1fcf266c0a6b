use Rattle.std.proofs.Common.{◌≡◌, ◌≤◌, ◌++◌, ◌∷◌, [], drop, take, length}
use Rattle.trace_text.specs.Behind.{behind}
use Rattle.trace_text.specs.JsonText.{record_bytes}
use Rattle.trace_text.specs.Places.{lent}
use Rattle.trace_text.proofs.json_text.put_others.Given as goal

abbrev pub invariant-loop-written : goal.invariant-loop-written
invariant-loop-written l = record {
  items : take l.end l.cells.items ++ behind (44 ∷ []) record_bytes (lent (drop l.written-index l.records)) ≡ take l.fn.at l.fn.cells.items ++ behind (44 ∷ []) record_bytes (lent l.records);
  within : l.end ≤ length l.cells.items;
  more : length l.fn.cells.items ≤ length l.cells.items;
}
