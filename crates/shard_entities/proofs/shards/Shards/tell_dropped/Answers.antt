use Rattle.shard_entities.proofs.DropLaws.{dropped_stays}
use Rattle.shard_entities.proofs.shards.Shards.tell_dropped.Goals as goal

pub returns-clause-state : goal.returns-clause-state
returns-clause-state c = dropped_stays c.args.self.now c.args.message.now c.requires.delivery.entity_is c.requires.there
