use Rattle.std.proofs.Common.{◌≡◌, ◌<◌, ℕ, length, false}
use Rattle.std.specs.Prelude.{slice_index_or}
use Rattle.shard_store.specs.Reshaped.{IsMarkOf}
use Rattle.shard_store.proofs.reshape.marks_of.Given as goal

abbrev pub invariant-loop-place : goal.invariant-loop-place
invariant-loop-place l = record {
  there : length l.marks ≡ length l.fn.names;
  done : (i : ℕ) → i < l.place → IsMarkOf l.fn.stores l.fn.names i (slice_index_or l.marks i false);
}
