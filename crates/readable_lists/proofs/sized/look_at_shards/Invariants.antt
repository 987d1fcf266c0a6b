use Rattle.std.proofs.Common.{◌<◌, ℕ}
use Rattle.std.specs.Prelude.{map}
use Rattle.yard_model.specs.declared.incarnation.Slot.TheVariants as slot
use Rattle.yard_model.specs.SlotLists.{shard_list}
use Rattle.readable_lists.specs.Readable.{IsReadableList}
use Rattle.readable_lists.specs.Sized.{without_reply}
use Rattle.readable_lists.proofs.sized.look_at_shards.Given as goal

abbrev pub invariant-loop-i : goal.invariant-loop-i
invariant-loop-i g l = (s : ℕ) → s < l.i → IsReadableList (slot.Shard s) (map without_reply (shard_list (g.T.Lists.lists l.lists) s))
