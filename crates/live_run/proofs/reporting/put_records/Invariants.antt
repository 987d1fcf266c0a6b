use Rattle.std.proofs.Common.{◌≡◌, ◌≤◌, ◌*◌, ◌-◌, ◌∷◌, length, take, drop}
use Rattle.std.specs.Prelude.{codes}
use Rattle.std.specs.List.{flat_map}
use Rattle.yard_model.specs.SlotReads.{journal}
use Rattle.yard_model.specs.Text.{line, record_words}
use Rattle.live_run.proofs.reporting.put_records.Given as goal

-- the lines of the records so far
abbrev pub invariant-loop-i : goal.invariant-loop-i
invariant-loop-i l = record {
  items : take l.end l.cells ≡ flat_map (λ x. line (codes "record" ∷ record_words x)) (take l.i (drop l.fn.from (journal l.fn.name l.fn.store.entries)));
  within : l.end ≤ length l.cells;
  short : l.end ≤ l.i * 268;
  upto : l.i ≤ l.fn.count - l.fn.from;
}
