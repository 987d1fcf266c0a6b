use Rattle.shard_store.specs.GrownStores.{AreOn}
use Rattle.shard_store.proofs.grow_stores.grow_all.Given as goal

abbrev pub invariant-loop-k : goal.invariant-loop-k
invariant-loop-k l = AreOn l.fn.charter l.fn.places.items l.places.items l.k
