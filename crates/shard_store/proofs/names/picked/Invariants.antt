use Rattle.std.proofs.Common.{◌≡◌, ◌==◌, ◌++◌}
use Rattle.std.specs.Prelude.{filter, drop}
use Rattle.yard_model.specs.Shard.{shard}
use Rattle.shard_store.proofs.names.picked.Given as goal

abbrev pub invariant-loop-at : goal.invariant-loop-at
invariant-loop-at l = l.picked.items ++ filter (λ e. shard l.fn.count e == l.fn.s) (drop l.at l.fn.names) ≡ filter (λ e. shard l.fn.count e == l.fn.s) l.fn.names
