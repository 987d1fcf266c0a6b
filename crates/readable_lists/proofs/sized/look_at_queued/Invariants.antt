use Rattle.std.proofs.Common.{◌<◌, ℕ}
use Rattle.std.specs.Prelude.{[], slice_index_or}
use Rattle.yard_model.specs.declared.entry.QueueEntry.TheVariants as queue
use Rattle.yard_model.specs.declared.incarnation.Slot.TheVariants as slot
use Rattle.yard_model.specs.Entry.{queue_fact}
use Rattle.readable_lists.specs.Readable.{IsTold}
use Rattle.readable_lists.proofs.sized.look_at_queued.Given as goal

abbrev pub invariant-loop-i : goal.invariant-loop-i
invariant-loop-i l = (k : ℕ) → k < l.i → IsTold (slot.Queue l.p) (queue_fact l.p (slice_index_or l.list k (queue.Confirmed [] 0)))
