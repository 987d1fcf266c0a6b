use Rattle.shard_store.specs.Grown.{AreRoomy}
use Rattle.shard_store.proofs.grow.make_rooms.Given as goal

abbrev pub invariant-loop-at : goal.invariant-loop-at
invariant-loop-at l = AreRoomy l.fn.table l.fn.names l.fn.journals.items l.journals.items l.at
