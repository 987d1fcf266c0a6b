use Rattle.shard_entities.proofs.TakenLaws.{running_are}
use Rattle.shard_entities.proofs.shards.Shards.running.Goals as goal

pub returns : goal.returns
returns c = running_are c.self.invariant.kept.lodged c.self.view_is
