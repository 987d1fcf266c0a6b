use Rattle.std.proofs.Common.{take}
use Rattle.shard_store.specs.Shelved.{IsJournal}
use Rattle.shard_store.proofs.reshape.journal_of.Given as goal

abbrev pub invariant-loop-place : goal.invariant-loop-place
invariant-loop-place l = IsJournal l.fn.name (take l.place l.fn.list.entries) l.fn.room l.journal
