use Rattle.shard_entities.proofs.HostLaws.{HasThese}
use Rattle.shard_entities.proofs.shards.hosted_in.Given as goal

abbrev pub invariant-loop-s : goal.invariant-loop-s
invariant-loop-s l = HasThese l.hosted.items l.s l.all
