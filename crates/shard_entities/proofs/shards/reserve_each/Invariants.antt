use Rattle.std.proofs.Common.{◌≡◌, ◌<◌, ℕ}
use Rattle.std.specs.Prelude.{false}
use Rattle.yard_model.specs.ShardSet.{has}
use Rattle.shard_entities.specs.Ready.{AreReady}
use Rattle.shard_entities.specs.Roomy.{AreReserved}
use Rattle.shard_entities.proofs.shards.reserve_each.Given as goal

abbrev pub invariant-loop : goal.invariant-loop
invariant-loop l = record {
  kept : AreReserved l.fn.hosted.items l.hosted.items;
  ready : AreReady l.places l.touched l.hosted.items;
  done : (t : ℕ) → t < l.counter → has l.touched t ≡ false;
}
