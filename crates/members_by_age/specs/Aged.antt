-- How members by age are kept: the entries of all nodes, of which the first are those of the members.
use Rattle.std.specs.Prelude.{ℕ, ◌<◌, ◌≤◌, ◌↔◌, nat_eq, List, length, map, take, IsSome}
use Rattle.std.specs.Map.{lookup}
use Rattle.yard_model.specs.declared.incarnation.Incarnation.{Incarnation}

-- an entry's node and number
abbrev pub member_of : ℕ × ℕ → Incarnation
member_of e = record { node = e.0; number = e.1 }

-- as many members as are counted, oldest first
abbrev pub members_of : List (ℕ × ℕ) → ℕ → List Incarnation
members_of entries count = map member_of (take count entries)

-- the nodes from 1 to the last have an entry, and no others
abbrev pub HasNodes : ℕ → List (ℕ × ℕ) → Type 0
HasNodes last entries = (n : ℕ) → IsSome (lookup (nat_eq n) entries) ↔ ((0 < n) × (n ≤ last))

pub record AreByAge (entries : List (ℕ × ℕ)) (count : ℕ) : Type 0 where
  pub nodes : HasNodes 16 entries
  pub within : count ≤ length entries
  pub few : count ≤ 16
