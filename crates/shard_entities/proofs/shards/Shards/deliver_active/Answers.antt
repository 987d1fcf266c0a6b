use Rattle.std.proofs.Common.{◌≤◌, arith}
use Rattle.shard_entities.proofs.DeliverLaws.{number_few}
use Rattle.shard_entities.proofs.shards.Shards.deliver_active.Goals as goal

pub seen-requires : goal.seen-requires
seen-requires g c = let few : c.args.message.now.number ≤ 3000000 = number_few c.knows.ensures c.requires.delivery in record { number = omega (arith, few) }
