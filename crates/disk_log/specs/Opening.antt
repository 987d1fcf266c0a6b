-- A log that is opened: where it goes on, and what a crash may leave meanwhile.
use Rattle.std.specs.Prelude.{◌≡◌, ◌⊎◌, ◌<◌, ◌≤◌, ℕ, ◌+◌, Bool, List, [], ◌∷◌, length, map, drop, IsTrue}
use Rattle.yard_model.specs.declared.fact.Fact.{Fact}
use Rattle.disk_log.specs.Images.{Images}
use Rattle.disk_log.specs.Spelled.{lines, AreBatches, IsUnfollowed, Opens, Spells}
use Rattle.disk_log.specs.Rest.{gated}

-- these batches were read from `start` on, and behind them, at `end`, a closed gate
pub record EndsAt (tells : Bool) (content : List ℕ) (start end : ℕ) (batches : List (List Fact)) : Type 0 where
  pub are : AreBatches batches
  pub far : end ≡ start + length (gated (map lines batches))
  pub shut : IsTrue tells → (rest : List ℕ) × Opens (map lines batches) (drop start content) (0 ∷ rest)

-- from `start` on whole batches, and at `at` an open gate that no whole batch and next gate follow
pub record IsDamagedFrom (content : List ℕ) (start at : ℕ) : Type 0 where
  pub batches : List (List Fact)
  pub batches_are : AreBatches batches
  pub gate : ℕ
  pub rest : List ℕ
  pub opens : Opens (map lines batches) (drop start content) (gate ∷ rest)
  pub is_open : 0 < gate
  pub place : at + length (gate ∷ rest) ≡ length content
  pub unfollowed : IsUnfollowed rest

-- what a crash might have left before; or, of a disk of at most one byte, an image of no batch
abbrev pub LeftOrNone : List ℕ → Images → List ℕ → Type 0
LeftOrNone content images c = images.now c ⊎ ((length content ≤ 1) × Spells c [])
