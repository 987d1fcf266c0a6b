use Rattle.std.proofs.Common.{ap}
use Rattle.shard_store.specs.Leased.{Listed}
use Rattle.shard_store.proofs.ShelfLaws.{shelf_reserved}
use Rattle.shard_store.proofs.shelf.ShardStore.reserve.Goals as goal

pub invariant_of-self : goal.invariant_of-self
invariant_of-self c = shelf_reserved (record { script = c.self.inside.script.value; shard = c.self.inside.shard; entries = c.self.inside.list.entries; spare = c.self.inside.list.spare }) c.self.invariant (ap (λ (l : Listed). l.entries) c.reserve.ensures.list) (ap (λ (l : Listed). l.shard) c.reserve.ensures.list)
