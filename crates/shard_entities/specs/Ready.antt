-- Which shards want room before the next turn, and all that is kept.
use Rattle.std.specs.Prelude.{◌≡◌, ℕ, ◌<◌, ◌≤◌, true, false, List, map, Option, None}
use Rattle.yard_model.specs.declared.charter.Config.{Config}
use Rattle.yard_model.specs.declared.incarnation.Incarnation.{Incarnation}
use Rattle.yard_model.specs.Script.{Script, setting}
use Rattle.yard_model.specs.ShardSet.{has}
use Rattle.yard_model.specs.Words.{at}
use Rattle.place_set.specs.Places.{Places}
use Rattle.shard_entities.specs.declared.hosting.Hosting.{Hosting}
use Rattle.entity_cells.specs.Celled.{Celled}
use Rattle.shard_entities.specs.Lodged.{IsKept, room_of, cell_of}
use Rattle.shard_entities.specs.Restless.{AreRestless}
use Rattle.shard_entities.specs.Roomy.{room_wanted}

-- where the shard is hosted so, there is room for all that a turn may write there
abbrev pub IsReady : Script → ℕ → Option Hosting → Type 0
IsReady c s o = (o ≡ None → ⊥) → room_wanted c s ≤ room_of o

-- each shard is ready but those that were touched
pub record AreReady (c : Script) (touched : ℕ) (items : List (Option Hosting)) : Type 0 where
  pub within : (s : ℕ) → has touched s ≡ true → s < c.config.shards
  pub each : (s : ℕ) → has touched s ≡ false → IsReady c s (at items s)

pub record IsWhole (c : Script) (version : ℕ) (who : Incarnation) (config : Config) (places : Script) (cells : List Celled) (items : List (Option Hosting)) (running : ℕ) (existing : List ℕ) (touched : ℕ) (marked : Places) : Type 0 where
  pub kept : IsKept c version who config places cells items running existing
  pub ready : AreReady c touched items
  pub restless : AreRestless (setting c) (map cell_of cells) marked
