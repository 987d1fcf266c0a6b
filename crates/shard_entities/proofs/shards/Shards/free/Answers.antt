use Rattle.yard_model.specs.declared.incarnation.Cause.TheVariants as cause
use Rattle.yard_model.specs.Entities.{hosted, entries_in}
use Rattle.yard_model.specs.SlotReads.{epoch}
use Rattle.shard_entities.proofs.SettleLaws.{freed_settled}
use Rattle.shard_entities.proofs.shards.Shards.free.Goals as goal

pub returns-clause-settled : goal.returns-clause-settled
returns-clause-settled c = freed_settled c.args.s (epoch (entries_in (hosted c.args.self.now.state c.args.s))) cause.Released c.knows.ensures c.requires.settled c.requires.left c.take_out-store.ensures.state
