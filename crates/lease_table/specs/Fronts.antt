-- A slot that was brought to the front.
use Rattle.std.specs.Prelude.{◌≡◌, ℕ, List, ◌∷◌, length, map, eqb, Option}
use Rattle.std.specs.List.{list_any}
use Rattle.shard_store.specs.declared.store.Store.{Store}
use Rattle.lease_table.specs.Leasing.{empty}

pub record Brought (k : ℕ) (before now : List ℕ) (carried : List (ℕ × Option Store)) : Type 0 where
  pub tail : List ℕ
  pub is : now ≡ k ∷ tail
  pub all : carried ≡ map empty now
  pub long : length now ≡ length before
  pub same : (j : ℕ) → list_any (eqb j) now ≡ list_any (eqb j) before
