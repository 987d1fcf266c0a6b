use Rattle.shard_extract.specs.HashTo.{IsHashTo}
use Rattle.shard_extract.proofs.hash_of_bytes.Given as goal

abbrev pub invariant-loop-i : goal.invariant-loop-i
invariant-loop-i l = IsHashTo l.fn.bytes l.i l.hash
