use Rattle.shard_store.proofs.GrowLaws.{IsGrowing}
use Rattle.shard_store.proofs.grow.grow_held.Given as goal

abbrev pub invariant-loop-at : goal.invariant-loop-at
invariant-loop-at l = IsGrowing l.fn.old l.fn.names (record { journals = l.fn.held.journals.items; snapshots = l.fn.held.snapshots.items; marks = l.fn.held.remembered }) (record { journals = l.held.journals.items; snapshots = l.held.snapshots.items; marks = l.held.remembered }) l.had l.at
