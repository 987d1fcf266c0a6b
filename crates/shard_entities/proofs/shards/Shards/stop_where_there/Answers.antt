use Rattle.shard_entities.proofs.WalkLaws.{on_of, but_settled, quiet_at, named_within, stops_settled}
use Rattle.shard_entities.proofs.shards.Shards.stop_where_there.Goals as goal

pub returns-then-exists-clause-settled : goal.returns-then-exists-clause-settled
returns-then-exists-clause-settled c = stops_settled (on_of c.knows.ensures c.requires.place) (quiet_at (on_of c.knows.ensures c.requires.place) (named_within c.knows.ensures c.requires.place) c.requires.settled) (but_settled c.args.self.now c.args.place.now.at c.requires.settled) c.post_stop.ensures.state
