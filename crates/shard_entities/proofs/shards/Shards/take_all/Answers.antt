use Rattle.yard_model.specs.declared.incarnation.Cause.TheVariants as cause
use Rattle.shard_entities.proofs.SettleLaws.{without_settled, taken_without, shard_left_of}
use Rattle.shard_entities.proofs.shards.Shards.take_all.Goals as goal

pub clear_each-requires : goal.clear_each-requires
clear_each-requires c = record { shard = shard_left_of c.args.self.now cause.Released c.args.s (c.take_shard-store.ensures.state 0 cause.Released) c.requires.shard }

pub returns-clause-state : goal.returns-clause-state
returns-clause-state c = taken_without c.args.s cause.Released c.knows.ensures (c.take_shard-store.ensures.state 0 cause.Released) c.clear_each.ensures

pub returns-clause-settled : goal.returns-clause-settled
returns-clause-settled c = without_settled c.args.s c.knows.ensures c.requires.settled (taken_without c.args.s cause.Released c.knows.ensures (c.take_shard-store.ensures.state 0 cause.Released) c.clear_each.ensures)
