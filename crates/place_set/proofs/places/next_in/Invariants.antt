use Rattle.std.proofs.Common.{◌≡◌, ◌*◌, ◌<◌, ◌≤◌, ℕ, false}
use Rattle.place_set.specs.Places.{has_place}
use Rattle.place_set.proofs.places.next_in.Given as goal

abbrev pub invariant-loop-at : goal.invariant-loop-at
invariant-loop-at l = (i : ℕ) → l.from ≤ i → i < 64 * l.at → has_place l.words i ≡ false
