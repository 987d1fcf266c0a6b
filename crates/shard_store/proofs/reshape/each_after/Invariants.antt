use Rattle.std.specs.Prelude.{None}
use Rattle.yard_model.specs.declared.incarnation.Slot.TheVariants as slot
use Rattle.shard_store.specs.Reshaped.{AreEach, IsAfterAt, next_lists}
use Rattle.shard_store.proofs.reshape.each_after.Given as goal

abbrev pub invariant-loop-s : goal.invariant-loop-s
invariant-loop-s l = AreEach None (λ k. IsAfterAt l.fn.charter (next_lists l.fn.stores l.fn.charter.config.shards l.fn.epoch) (slot.Shard k)) l.places.items l.s
