use Rattle.shard_entities.proofs.TakenLaws.{store_at}
use Rattle.shard_entities.proofs.shards.Shards.store.Goals as goal

pub returns-in-Some : goal.returns-in-Some
returns-in-Some c = store_at c.in-Some.hosting c.self.invariant.kept.lodged c.self.view_is c.requires.shard c.get.ensures.value c.index.ensures c.in-Some.is
