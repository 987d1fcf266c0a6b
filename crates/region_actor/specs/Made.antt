-- A region as it stands: its state, and the script that it was made for.
use Rattle.std.specs.Prelude.{◌≡◌, ℕ, ◌≤◌, Bool, ◌==◌, ◌&&◌, IsTrue, List, length, Option}
use Rattle.std.specs.List.{list_all}
use Rattle.envelope_pool.specs.Keyed.{Keyed}
use Rattle.yard_model.specs.declared.incarnation.Incarnation.{Incarnation}
use Rattle.yard_model.specs.declared.incarnation.Stamp.{Stamp}
use Rattle.yard_model.specs.declared.packet.Message.{Message}
use Rattle.yard_model.specs.Genuine.{is_genuine}
use Rattle.yard_model.specs.Region.{Region, kept_of}
use Rattle.yard_model.specs.Script.{Script, IsScript, setting}
use Rattle.yard_model.specs.Setting.{shard_of}

pub record Made : Type 0 where
  pub script : Script  -- that it was made for; its setting is the state's
  pub state : Region

-- a genuine message of this shard
abbrev pub is_kept : Script → ℕ → Message → Bool
is_kept c s m = is_genuine c m && (shard_of (setting c) m.entity == s)

pub record IsRegion (c : Script) (shards : ℕ) (homes : List (Option Incarnation)) (marks : List Stamp) (asked : List Bool) (kept : Keyed Message) : Type 0 where
  pub script_is : IsScript c
  pub shards_are : shards ≡ c.config.shards
  pub some : 1 ≤ shards
  pub few : shards ≤ 128
  pub homes_there : length homes ≡ shards
  pub marks_there : length marks ≡ shards
  pub asked_there : length asked ≡ shards
  pub lists_there : length kept.lists ≡ shards
  pub buffer_is : kept.cells ≡ c.config.buffer
  pub kept_are : (s : ℕ) → IsTrue (list_all (is_kept c s) (kept_of kept.lists s))
