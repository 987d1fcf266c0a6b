use Rattle.std.proofs.Common.{◌≡◌, ◌≤◌, ◌*◌, length, take}
use Rattle.std.specs.List.{flat_map}
use Rattle.yard_model.specs.Entry.{shard_fact}
use Rattle.yard_model.specs.Text.{fact_line}
use Rattle.trace_text.proofs.pieces.put_shard_lines.Given as goal

-- the lines of the entries so far
abbrev pub invariant-loop-i : goal.invariant-loop-i
invariant-loop-i l = record {
  items : take l.end l.cells ≡ flat_map (λ e. fact_line (shard_fact l.s e)) (take l.i l.list);
  within : l.end ≤ length l.cells;
  short : l.end ≤ l.i * 512;
}
