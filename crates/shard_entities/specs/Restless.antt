-- Which entities recover or stop: a tick is for them alone.
use Rattle.std.specs.Prelude.{◌≡◌, ◌≢◌, ℕ, ◌+◌, ◌<◌, Bool, true, false, List, length}
use Rattle.yard_model.specs.declared.input.Phase.{Phase}
use Rattle.yard_model.specs.declared.input.Phase.TheVariants as phase
use Rattle.yard_model.specs.Entities.{Cell, cell_in}
use Rattle.yard_model.specs.Script.{Setting}
use Rattle.yard_model.specs.Setting.{names_of}
use Rattle.shard_store.specs.Shelved.{name_at}
use Rattle.place_set.specs.Places.{Places, is_in}
use Rattle.shard_entities.specs.Placed.{start_of}

abbrev pub is_restless : Phase → Bool
is_restless phase.Loading = true
is_restless phase.Stopping = true
is_restless p = false

-- the places of the names, shard after shard, whose entity recovers or stops
pub record AreRestless (set : Setting) (cells : List Cell) (places : Places) : Type 0 where
  pub bound : places.bound ≡ start_of set set.config.shards
  pub each : (s k : ℕ) → s < set.config.shards → k < length (names_of set s) → is_in places (start_of set s + k) ≡ is_restless (cell_in set cells (name_at (names_of set s) k)).phase

-- a set for the names of n shards, with nothing in it
pub record AreFresh (set : Setting) (n : ℕ) (places : Places) : Type 0 where
  pub bound : places.bound ≡ start_of set n
  pub none : (i : ℕ) → is_in places i ≡ false

-- a place is in the set from now on, or it isn't
pub record IsPut (old new : Places) (k : ℕ) (b : Bool) : Type 0 where
  pub bound : new.bound ≡ old.bound
  pub it : is_in new k ≡ b
  pub others : (i : ℕ) → i ≢ k → is_in new i ≡ is_in old i

-- a place of a shard is in the set from now on, or it isn't
abbrev pub IsNoted : Setting → Places → Places → ℕ → ℕ → Bool → Type 0
IsNoted set old new s k b = IsPut old new (start_of set s + k) b
