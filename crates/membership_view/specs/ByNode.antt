-- The members' numbers, by their nodes.
use Rattle.std.specs.Prelude.{◌≡◌, ℕ, ◌+◌, ◌-◌, ◌<◌, ◌≤◌, ◌==◌, List, length, slice_index_or}
use Rattle.yard_model.specs.declared.incarnation.Incarnation.{Incarnation}
use Rattle.yard_model.specs.Words.{is_among}

-- a cell for each of 16 nodes: an incarnation is a member exactly where its node's cell is one more than its number
pub record AreByNode (members : List Incarnation) (numbers : List ℕ) : Type 0 where
  pub size : length numbers ≡ 16
  pub each : (who : Incarnation) → 0 < who.node → who.node ≤ 16 → (slice_index_or numbers (who.node - 1) 0 == who.number + 1) ≡ is_among who members
