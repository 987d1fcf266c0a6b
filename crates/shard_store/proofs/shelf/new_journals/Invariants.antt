use Rattle.std.proofs.Common.{[]}
use Rattle.shard_store.specs.Reshaped.{AreEach, IsJournalIn}
use Rattle.shard_store.specs.Shelved.{no_journal}
use Rattle.shard_store.proofs.shelf.new_journals.Given as goal

abbrev pub invariant-loop-name : goal.invariant-loop-name
invariant-loop-name l = AreEach no_journal (IsJournalIn [] l.fn.table.orders l.fn.names) l.journals.items l.name-index
