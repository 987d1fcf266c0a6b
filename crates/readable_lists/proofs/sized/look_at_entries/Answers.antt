use Rattle.std.proofs.Common.{arith}
use Rattle.std.specs.Prelude.{[]}
use Rattle.yard_model.specs.declared.entry.ShardEntry.TheVariants as shard
use Rattle.yard_model.specs.declared.incarnation.Slot.TheVariants as slot
use Rattle.yard_model.specs.Entry.{shard_fact}
use Rattle.readable_lists.proofs.SizedLaws.{sized_of}
use Rattle.readable_lists.proofs.sized.look_at_entries.Goals as goal

pub returns : goal.returns
returns c = sized_of (slot.Shard c.args.s) (shard_fact c.args.s) c.args.list.now (shard.Forgotten []) (omega arith) (λ k l. c.loop-i.invariant k (omega (arith, l)))
