-- The names of each shard.
use Rattle.std.specs.Prelude.{◌≡◌, ◌<◌, ℕ, List, [], length, slice_index_or}
use Rattle.yard_model.specs.Script.{Script, setting}
use Rattle.yard_model.specs.Setting.{names_of}

-- of each shard those that are its own
pub record AreOwned (c : Script) (names : List (List (List ℕ))) : Type 0 where
  pub own : (s : ℕ) → s < c.config.shards → slice_index_or names s [] ≡ names_of (setting c) s
  pub count : length names ≡ c.config.shards
