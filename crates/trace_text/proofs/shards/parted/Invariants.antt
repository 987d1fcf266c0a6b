use Rattle.std.proofs.Common.{◌≡◌, ℕ, ◌<◌, length, take, map, []}
use Rattle.std.specs.Prelude.{◌==◌, filter, slice_index_or}
use Rattle.yard_model.specs.Shard.{shard}
use Rattle.trace_text.proofs.shards.parted.Given as goal

abbrev pub invariant-loop-name : goal.invariant-loop-name
invariant-loop-name l = record {
  names : (s : ℕ) → s < l.shards → slice_index_or (map (λ v. v.items) l.all.items) s [] ≡ filter (λ e. shard l.shards e == s) (take l.name-index l.names);
  length : length l.all.items ≡ l.shards;
}
