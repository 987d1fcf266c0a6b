use Rattle.std.proofs.Common.{sym, ap}
use Rattle.shard_entities.specs.Lodged.{given}
use Rattle.shard_entities.proofs.shards.Shards.tick.Goals as goal

pub returns-then-none_is_restless : goal.returns-then-none_is_restless
returns-then-none_is_restless c = ap (given c.args.out.now) (sym (c.none_is_restless.ensures c.if-none_is_restless.true))
