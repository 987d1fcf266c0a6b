use Rattle.shard_entities.proofs.WalkLaws.{delivered_settled, delivers, deliver_takes}
use Rattle.shard_entities.proofs.shards.Shards.deliver_to.Goals as goal

pub returns-clause-settled : goal.returns-clause-settled
returns-clause-settled g c = delivered_settled c.args.message.now c.knows.ensures c.requires.place c.requires.entity c.requires.there.hosted_is c.requires.settled c.deliver.ensures.state

pub returns-clause-takes : goal.returns-clause-takes
returns-clause-takes g c = deliver_takes (delivers c.args.message.now c.knows.ensures c.requires.place c.requires.entity c.requires.there.hosted_is c.requires.settled c.deliver.ensures.state)
