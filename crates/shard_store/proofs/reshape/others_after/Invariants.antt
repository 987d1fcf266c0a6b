use Rattle.std.proofs.Common.{◌+◌, ◌-◌, ◌≤◌}
use Rattle.std.specs.Prelude.{None}
use Rattle.shard_store.specs.Reshaped.{next_lists, AreEach, IsAfterAt}
use Rattle.shard_store.specs.Stores.{slot_at}
use Rattle.shard_store.proofs.reshape.others_after.Given as goal

abbrev pub invariant-loop-place : goal.invariant-loop-place
invariant-loop-place l = record {
  done : AreEach None (λ k. IsAfterAt l.fn.charter (next_lists l.fn.stores l.fn.charter.config.shards l.fn.epoch) (slot_at l.fn.charter.config k)) l.places.items (l.fn.charter.config.shards + (l.place - l.fn.stores.script.config.shards));
  from : l.fn.stores.script.config.shards ≤ l.place;
}
