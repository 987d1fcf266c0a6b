use Rattle.shard_store.proofs.PositionsLaws.{CountedTo}
use Rattle.shard_store.proofs.positions.positions_of.Given as goal

abbrev pub invariant-loop-place : goal.invariant-loop-place
invariant-loop-place l = CountedTo l.journal.items l.counts l.place
