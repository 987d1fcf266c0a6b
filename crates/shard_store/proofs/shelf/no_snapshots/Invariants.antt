use Rattle.std.proofs.Common.{◌≡◌, [], replicate}
use Rattle.shard_store.proofs.shelf.no_snapshots.Given as goal

abbrev pub invariant-loop : goal.invariant-loop
invariant-loop l = record {
  lists : l.lists.items ≡ replicate l.counter (record { snapshots = []; keep = l.fn.keep });
  keep : l.keep ≡ l.fn.keep;
}
