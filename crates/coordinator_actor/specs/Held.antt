-- A coordinator as it stands: its state, the script that its list is of, and how much it may still write.
use Rattle.std.specs.Prelude.{◌≡◌, ℕ, ◌+◌, ◌<◌, ◌≤◌, Bool, true, List, length, Some, is_some, if◌then◌else◌}
use Rattle.std.specs.List.{All, list_all}
use Rattle.yard_model.specs.declared.fact.Fact.{Fact}
use Rattle.yard_model.specs.declared.incarnation.Incarnation.{Incarnation}
use Rattle.yard_model.specs.declared.incarnation.Stamp.{Stamp}
use Rattle.yard_model.specs.Coordinator.{Coordinator, Moving, home_of}
use Rattle.yard_model.specs.Script.{Script, IsScript}
use Rattle.yard_model.specs.ShardSet.{has}
use Rattle.yard_model.specs.SlotReads.{epoch, holder, regions, allocation}
use Rattle.yard_model.specs.Words.{is_among, is_empty}

pub record Held : Type 0 where
  pub script : Script  -- its setting is the state's
  pub state : Coordinator
  pub spare : ℕ  -- how many more entries are appended with no memory taken
  pub places : ℕ  -- how many more regions may leave with no memory taken

-- its owner is its home
abbrev pub IsAtHome : List Fact → Moving → Type 0
IsAtHome entries x = x.owner ≡ allocation x.shard entries

-- a round ends by an entry, so that there are at least as many entries as rounds that have begun, and one more where none is open
abbrev pub IsCounted : List Fact → List Moving → ℕ → Type 0
IsCounted entries moving begun = begun + (if is_empty moving then 1 else 0) ≤ length entries

pub record IsHeld (c : Script) (who : Incarnation) (entries : List Fact) (started : List Bool) (moving : List Moving) (stamp : Stamp) : Type 0 where
  pub script_is : IsScript c
  pub leased : holder entries ≡ Some who
  pub started_there : length started ≡ c.config.shards
  pub at_home : All (IsAtHome entries) moving
  pub epoch_is : stamp.epoch ≡ epoch entries
  pub counted : IsCounted entries moving stamp.round

-- each shard of the set has a home
abbrev pub AreHomed : ℕ → Coordinator → Type 0
AreHomed set st = (s : ℕ) → s < 128 → has set s ≡ true → is_some (home_of st s) ≡ true

-- every registered region is in the view
abbrev pub are_viewed : List Incarnation → List Fact → Bool
are_viewed view entries = list_all (λ r. is_among r view) (regions entries)
