use Rattle.std.proofs.Common.{◌≡◌, ◌++◌, ℕ, map, drop}
use Rattle.std.specs.List.{flat_map}
use Rattle.yard_model.specs.Entry.{shard_fact}
use Rattle.yard_model.specs.Era.{entries_of}
use Rattle.yard_model.specs.Script.{setting}
use Rattle.shard_store.specs.Reshaped.{slot_lists}
use Rattle.shard_store.proofs.reshape.entries_of_names.Given as goal

abbrev pub invariant-loop-name : goal.invariant-loop-name
invariant-loop-name l = (s : ℕ) → map (shard_fact s) l.entries.items ++ flat_map (entries_of (setting l.fn.stores.script) (slot_lists l.fn.stores)) (drop l.name-index l.fn.names) ≡ flat_map (entries_of (setting l.fn.stores.script) (slot_lists l.fn.stores)) l.fn.names
