use Rattle.std.proofs.Common.{◌≡◌, ◌+◌}
use Rattle.shard_store.specs.Stores.{AreNew}
use Rattle.shard_store.proofs.stores.new_stores.Given as goal

abbrev pub invariant-loop-place : goal.invariant-loop-place
invariant-loop-place l = record {
  new : AreNew l.charter l.places.items l.place;
  count : l.count ≡ l.charter.config.shards + l.charter.config.producers + 1;
}
