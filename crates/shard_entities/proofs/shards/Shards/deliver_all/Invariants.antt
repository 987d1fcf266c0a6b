use Rattle.shard_entities.proofs.LoopLaws.{Delivering}
use Rattle.shard_entities.proofs.shards.Shards.deliver_all.Given as goal

abbrev pub invariant-loop : goal.invariant-loop
invariant-loop g l = Delivering l.place l.fn.self l.fn.out l.fn.pending l.self l.out l.pending l.counter
