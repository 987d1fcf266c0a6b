use Rattle.std.proofs.Common.{◌≡◌, ◌<◌, ℕ, length}
use Rattle.std.specs.Prelude.{slice_index_or}
use Rattle.place_set.proofs.places.clear_all.Given as goal

abbrev pub invariant-loop-at : goal.invariant-loop-at
invariant-loop-at l = record {
  there : length l.words.items ≡ length l.fn.words.items;
  none : (k : ℕ) → k < l.at → slice_index_or l.words.items k 0 ≡ 0;
}
