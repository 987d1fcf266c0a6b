use Rattle.std.proofs.Common.{◌*◌}
use Rattle.shard_extract.specs.HashTo.{IsHashTo}
use Rattle.shard_extract.proofs.hash_of_fours.Given as goal

abbrev pub invariant-loop-k : goal.invariant-loop-k
invariant-loop-k l = IsHashTo l.fn.bytes (4 * l.k) l.hash
