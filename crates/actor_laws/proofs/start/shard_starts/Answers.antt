use Rattle.actor_laws.proofs.ShardStartLaws.{shard_starts}
use Rattle.actor_laws.proofs.start.shard_starts.Goals as goal

pub returns : goal.returns
returns c = shard_starts
