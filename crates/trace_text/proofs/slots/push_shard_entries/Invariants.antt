use Rattle.std.proofs.Common.{◌≡◌, ◌≤◌, ◌++◌, take}
use Rattle.std.specs.List.{flat_map}
use Rattle.yard_model.specs.Entry.{shard_fact}
use Rattle.yard_model.specs.Text.{fact_line}
use Rattle.trace_text.specs.Grown.{Begins}
use Rattle.trace_text.proofs.slots.push_shard_entries.Given as goal

abbrev pub invariant-loop-entry : goal.invariant-loop-entry
invariant-loop-entry l =
    (l.text.items ++ take l.at l.cells ≡ l.fn.text.items ++ flat_map (λ e. fact_line (shard_fact l.s e)) (take l.entry-index l.list)) × (l.at ≤ 2048) × Begins l.fn.text.items l.text.items
