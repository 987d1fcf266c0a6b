use Rattle.std.proofs.Common.{drop}
use Rattle.shard_store.specs.Planned.{AreCountedBut}
use Rattle.shard_store.proofs.name_table.counts_of.Given as goal

abbrev pub invariant-loop-line : goal.invariant-loop-line
invariant-loop-line l = AreCountedBut l.fn.charter l.fn.names l.counts.items (drop l.line-index l.orders)
