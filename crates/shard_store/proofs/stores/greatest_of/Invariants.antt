use Rattle.std.proofs.Common.{◌≡◌, ◌-◌, ◌<◌, ℕ}
use Rattle.std.specs.Prelude.{fold, map, max}
use Rattle.yard_model.specs.SlotReads.{epoch}
use Rattle.yard_model.specs.Words.{numbers, at}
use Rattle.shard_store.specs.Reshaped.{IsOwn}
use Rattle.shard_store.specs.Stores.{entries_at}
use Rattle.shard_store.proofs.stores.greatest_of.Given as goal

abbrev pub invariant-loop-place : goal.invariant-loop-place
invariant-loop-place l = record {
  greatest : fold (λ m x. max m (epoch x)) l.greatest (map (entries_at l.fn.places) (numbers l.place (l.fn.count - l.place))) ≡ fold (λ m x. max m (epoch x)) 0 (map (entries_at l.fn.places) (numbers 0 l.fn.count));
  own : (k : ℕ) → k < l.place → IsOwn (at l.fn.places k);
}
