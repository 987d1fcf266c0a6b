use Rattle.std.proofs.Common.{◌≡◌}
use Rattle.std.specs.Prelude.{map, take}
use Rattle.yard_model.specs.Shard.{shard}
use Rattle.shard_store.proofs.name_table.shards_of.Given as goal

abbrev pub invariant-loop-name : goal.invariant-loop-name
invariant-loop-name l = l.shards.items ≡ map (shard l.fn.count) (take l.name-index l.fn.names)
