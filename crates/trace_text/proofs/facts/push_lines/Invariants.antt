use Rattle.std.proofs.Common.{◌≡◌, ◌≤◌, ◌++◌, take}
use Rattle.std.specs.List.{flat_map}
use Rattle.yard_model.specs.Text.{fact_line}
use Rattle.trace_text.specs.Grown.{Begins}
use Rattle.trace_text.proofs.facts.push_lines.Given as goal

abbrev pub invariant-loop-fact : goal.invariant-loop-fact
invariant-loop-fact l =
    (l.text.items ++ take l.at l.cells ≡ l.fn.text.items ++ flat_map fact_line (take l.fact-index l.facts)) × (l.at ≤ 2048) × Begins l.fn.text.items l.text.items
