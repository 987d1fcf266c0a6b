use Rattle.std.proofs.Common.{◌≡◌, ◌≤◌, ◌++◌, drop, take, length}
use Rattle.std.specs.List.{flat_map}
use Rattle.yard_model.specs.Text.{fact_line}
use Rattle.trace_text.proofs.sheet.put_facts.Given as goal

abbrev pub invariant-loop-fact : goal.invariant-loop-fact
invariant-loop-fact l = record {
  items : take l.end l.cells.items ++ flat_map fact_line (drop l.fact-index l.facts) ≡ take l.fn.at l.fn.cells.items ++ flat_map fact_line l.facts;
  within : l.end ≤ length l.cells.items;
  more : length l.fn.cells.items ≤ length l.cells.items;
}
