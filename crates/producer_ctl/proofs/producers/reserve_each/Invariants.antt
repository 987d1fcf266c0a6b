use Rattle.std.proofs.Common.{◌≡◌, ◌<◌, ◌≤◌, ℕ, length}
use Rattle.std.specs.Prelude.{None}
use Rattle.yard_model.specs.Words.{at}
use Rattle.producer_ctl.specs.Producing.{IsReserved, room_of}
use Rattle.producer_ctl.proofs.producers.reserve_each.Given as goal

abbrev pub invariant-loop-place : goal.invariant-loop-place
invariant-loop-place l = record {
  there : length l.held.items ≡ length l.fn.held.items;
  kept : (i : ℕ) → IsReserved (at l.fn.held.items i) (at l.held.items i);
  done : (i : ℕ) → i < l.place → (at l.fn.held.items i ≡ None → ⊥) → 300 ≤ room_of (at l.held.items i);
}
