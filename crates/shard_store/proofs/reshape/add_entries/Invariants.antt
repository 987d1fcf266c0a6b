use Rattle.std.proofs.Common.{◌≡◌, ◌++◌, drop}
use Rattle.std.specs.Prelude.{filter}
use Rattle.shard_store.specs.Reshaped.{is_entry_of}
use Rattle.shard_store.proofs.reshape.add_entries.Given as goal

abbrev pub invariant-loop-entry : goal.invariant-loop-entry
invariant-loop-entry l = l.entries.items ++ filter (is_entry_of l.fn.name) (drop l.entry-index l.fn.list) ≡ l.fn.entries.items ++ filter (is_entry_of l.fn.name) l.fn.list
