-- What an entry of a slot's list says, as a fact.
use Rattle.std.specs.Prelude.{ℕ}
use Rattle.yard_model.specs.declared.fact.Fact.{Fact}
use Rattle.yard_model.specs.declared.fact.Fact.TheVariants as fact
use Rattle.yard_model.specs.declared.incarnation.Slot.TheVariants as slot
use Rattle.yard_model.specs.declared.entry.ShardEntry.{ShardEntry}
use Rattle.yard_model.specs.declared.entry.ShardEntry.TheVariants as shard
use Rattle.yard_model.specs.declared.entry.CoordEntry.{CoordEntry}
use Rattle.yard_model.specs.declared.entry.CoordEntry.TheVariants as coord
use Rattle.yard_model.specs.declared.entry.QueueEntry.{QueueEntry}
use Rattle.yard_model.specs.declared.entry.QueueEntry.TheVariants as queue

-- an entry of shard s
abbrev pub shard_fact : ℕ → ShardEntry → Fact
shard_fact s (shard.Granted n x) = fact.Granted (slot.Shard s) n x
shard_fact s (shard.Freed n why) = fact.Freed (slot.Shard s) n why
shard_fact s (shard.Wrote e r) = fact.Wrote e r
shard_fact s (shard.Snapshot e m) = fact.Snapshot e m
shard_fact s (shard.Remembered e) = fact.Remembered e
shard_fact s (shard.Forgotten e) = fact.Forgotten e
shard_fact s (shard.Reshard n k) = fact.Resharded s n k

-- an entry of the coordinator
abbrev pub coord_fact : CoordEntry → Fact
coord_fact (coord.Granted n x) = fact.Granted slot.Coordinator n x
coord_fact (coord.Freed n why) = fact.Freed slot.Coordinator n why
coord_fact (coord.Registered r) = fact.Registered r
coord_fact (coord.Terminated r) = fact.Terminated r
coord_fact (coord.Allocated s r) = fact.Allocated s r
coord_fact (coord.Deallocated s) = fact.Deallocated s
coord_fact (coord.Reshard n k) = fact.Reshard n k

-- an entry of producer p's queue
abbrev pub queue_fact : ℕ → QueueEntry → Fact
queue_fact p (queue.Granted n x) = fact.Granted (slot.Queue p) n x
queue_fact p (queue.Freed n why) = fact.Freed (slot.Queue p) n why
queue_fact p (queue.Queued e n c) = fact.Queued p e n c
queue_fact p (queue.Confirmed e n) = fact.Confirmed p e n
