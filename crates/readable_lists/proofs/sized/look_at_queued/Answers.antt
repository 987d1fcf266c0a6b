use Rattle.std.proofs.Common.{arith}
use Rattle.std.specs.Prelude.{[]}
use Rattle.yard_model.specs.declared.entry.QueueEntry.TheVariants as queue
use Rattle.yard_model.specs.declared.incarnation.Slot.TheVariants as slot
use Rattle.yard_model.specs.Entry.{queue_fact}
use Rattle.readable_lists.proofs.SizedLaws.{list_of}
use Rattle.readable_lists.proofs.sized.look_at_queued.Goals as goal

pub returns : goal.returns
returns c = list_of (slot.Queue c.args.p) (queue_fact c.args.p) c.args.list.now (queue.Confirmed [] 0) (omega arith) (λ k l. c.loop-i.invariant k (omega (arith, l)))
