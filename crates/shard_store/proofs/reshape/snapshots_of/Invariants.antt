use Rattle.shard_store.specs.Reshaped.{AreEach, IsLatestOf}
use Rattle.shard_store.specs.Shelved.{no_snapshots}
use Rattle.shard_store.proofs.reshape.snapshots_of.Given as goal

abbrev pub invariant-loop-name : goal.invariant-loop-name
invariant-loop-name l = AreEach no_snapshots (IsLatestOf l.fn.stores l.fn.names) l.lists.items l.name-index
