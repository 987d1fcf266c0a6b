use Rattle.shard_entities.proofs.DeliverLaws.{stands_of}
use Rattle.shard_entities.proofs.shards.Shards.knows.Goals as goal

pub returns : goal.returns
returns c = stands_of c.self.invariant.kept.lodged c.self.view_is
