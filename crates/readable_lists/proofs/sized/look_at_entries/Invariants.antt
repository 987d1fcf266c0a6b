use Rattle.std.proofs.Common.{◌<◌, ℕ}
use Rattle.std.specs.Prelude.{[], slice_index_or}
use Rattle.yard_model.specs.declared.entry.ShardEntry.TheVariants as shard
use Rattle.yard_model.specs.declared.incarnation.Slot.TheVariants as slot
use Rattle.yard_model.specs.Entry.{shard_fact}
use Rattle.readable_lists.specs.Readable.{IsTold}
use Rattle.readable_lists.specs.Sized.{without_reply}
use Rattle.readable_lists.proofs.sized.look_at_entries.Given as goal

abbrev pub invariant-loop-i : goal.invariant-loop-i
invariant-loop-i l = (k : ℕ) → k < l.i → IsTold (slot.Shard l.s) (without_reply (shard_fact l.s (slice_index_or l.list k (shard.Forgotten []))))
