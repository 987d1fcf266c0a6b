use Rattle.shard_entities.proofs.WalkLaws.{on_of, but_settled, starts_settled}
use Rattle.shard_entities.proofs.shards.Shards.start_where_remembered.Goals as goal

pub returns-then-is_remembered-clause-settled : goal.returns-then-is_remembered-clause-settled
returns-then-is_remembered-clause-settled c = starts_settled (on_of c.knows.ensures c.requires.place) (but_settled c.args.self.now c.args.place.now.at c.requires.settled) c.requires.there c.start_entity.ensures.state
