use Rattle.std.proofs.Common.{◌≡◌, ◌++◌}
use Rattle.std.specs.Prelude.{map, drop}
use Rattle.yard_model.specs.Shard.{shard}
use Rattle.producer_ctl.proofs.names.shards_of.Given as goal

abbrev pub invariant-loop-name : goal.invariant-loop-name
invariant-loop-name l = l.all.items ++ map (shard l.shards) (drop l.name-index l.names) ≡ map (shard l.fn.shards) l.fn.names
