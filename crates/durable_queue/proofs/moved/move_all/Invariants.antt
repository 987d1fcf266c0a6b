use Rattle.std.proofs.Common.{◌≡◌, ◌≤◌, ℕ, [], length, map, get_or}
use Rattle.durable_queue.proofs.MovedLaws.{IsMovedTo}
use Rattle.durable_queue.proofs.moved.move_all.Given as goal

abbrev pub invariant-loop-at : goal.invariant-loop-at
invariant-loop-at l = record {
  plans : IsMovedTo [] l.old l.names (map (λ v. v.items) l.fn.plans.items) (map (λ v. v.items) l.made.items) l.at;
  queued : IsMovedTo 0 l.old l.names l.counts.queued.items l.fresh.queued.items l.at;
  confirmed : IsMovedTo 0 l.old l.names l.counts.confirmed.items l.fresh.confirmed.items l.at;
  left : (k : ℕ) → l.at ≤ k → get_or (map (λ v. v.items) l.plans.items) k [] ≡ get_or (map (λ v. v.items) l.fn.plans.items) k [];
  long : length l.plans.items ≡ length l.old;
}
