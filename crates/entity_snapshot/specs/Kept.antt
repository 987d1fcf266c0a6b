-- The snapshots of an entity that are kept.
use Rattle.std.specs.Prelude.{ℕ, ◌-◌, List, length, drop}
use Rattle.entity_snapshot.specs.declared.snapshot.Snapshot.{Snapshot}

-- the snapshots, oldest first, and how many of them stay
pub record Kept : Type 0 where
  pub snapshots : List Snapshot
  pub keep : ℕ

-- the last n
abbrev pub last_of : {A : Type 0} → ℕ → List A → List A
last_of n xs = drop (length xs - n) xs
