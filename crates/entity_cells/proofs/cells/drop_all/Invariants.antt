use Rattle.std.proofs.Common.{◌≡◌, ◌+◌, length}
use Rattle.std.specs.Prelude.{slice_set}
use Rattle.envelope_pool.specs.Keyed.{list_of}
use Rattle.entity_cells.proofs.cells.drop_all.Given as goal

abbrev pub invariant-loop : goal.invariant-loop
invariant-loop l = record {
  lists : l.stashes.lists ≡ slice_set l.fn.stashes.lists l.key (list_of l.stashes l.key);
  cells : l.stashes.cells ≡ l.fn.stashes.cells;
  left : length (list_of l.stashes l.key) + l.counter ≡ length (list_of l.fn.stashes l.key);
}
