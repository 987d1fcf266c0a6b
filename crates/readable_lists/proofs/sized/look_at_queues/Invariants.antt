use Rattle.std.proofs.Common.{◌≤◌, ℕ}
use Rattle.yard_model.specs.declared.incarnation.Slot.TheVariants as slot
use Rattle.yard_model.specs.SlotLists.{queue_list}
use Rattle.readable_lists.specs.Readable.{IsReadableList}
use Rattle.readable_lists.proofs.sized.look_at_queues.Given as goal

abbrev pub invariant-loop-i : goal.invariant-loop-i
invariant-loop-i g l = (p : ℕ) → 1 ≤ p → p ≤ l.i → IsReadableList (slot.Queue p) (queue_list (g.T.Lists.lists l.lists) p)
