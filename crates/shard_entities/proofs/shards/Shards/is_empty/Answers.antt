use Rattle.shard_entities.proofs.CountLaws.{none_exist}
use Rattle.shard_entities.proofs.shards.Shards.is_empty.Goals as goal

pub returns : goal.returns
returns c = none_exist c.self.invariant.kept c.self.view_is c.requires c.get.ensures.value c.index.ensures
