use Rattle.shard_entities.proofs.LoopLaws.{Dropping}
use Rattle.shard_entities.proofs.shards.Shards.drop_stash.Given as goal

abbrev pub invariant-loop : goal.invariant-loop
invariant-loop l = Dropping l.place l.fn.self l.fn.out l.self l.out l.counter
