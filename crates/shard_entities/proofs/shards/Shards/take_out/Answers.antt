use Rattle.yard_model.specs.declared.incarnation.Cause.TheVariants as cause
use Rattle.yard_model.specs.Entities.{hosted, entries_in}
use Rattle.yard_model.specs.SlotReads.{epoch}
use Rattle.shard_entities.proofs.shards.Shards.take_out.Goals as goal

pub returns-clause-state : goal.returns-clause-state
returns-clause-state c = c.take_shard.ensures.state (epoch (entries_in (hosted c.args.self.now.state c.args.s))) cause.Released
