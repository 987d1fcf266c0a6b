use Rattle.std.proofs.Common.{◌≡◌, ◌≤◌, replicate, None}
use Rattle.std.specs.Prelude.{vec_capacity}
use Rattle.shard_entities.proofs.shards.none_hosted.Given as goal

abbrev pub invariant-loop : goal.invariant-loop
invariant-loop l = record {
  items : l.hosted.items ≡ replicate l.counter None;
  room : l.fn.shards ≤ vec_capacity l.hosted;
}
