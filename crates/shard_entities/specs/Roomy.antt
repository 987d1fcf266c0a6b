-- Room in the stores of the hosted shards.
use Rattle.std.specs.Prelude.{◌≡◌, ◌≢◌, ℕ, ◌+◌, ◌*◌, ◌≤◌, List, None, length, slice_index_or, Option, min}
use Rattle.std.specs.Option.{option_map}
use Rattle.yard_model.specs.declared.charter.Config.{Config}
use Rattle.yard_model.specs.Entities.{hosted}
use Rattle.yard_model.specs.Limits.{turn_room}
use Rattle.yard_model.specs.Script.{Script, setting}
use Rattle.yard_model.specs.Setting.{names_of}
use Rattle.yard_model.specs.Words.{at}
use Rattle.shard_entities.specs.declared.hosting.Hosting.{Hosting}
use Rattle.shard_entities.specs.Lodged.{Lodged, HasRoom, room_of}

-- of a shard with n names: a record and a snapshot for each message that is kept, stashed or pushed, and what a turn may write besides
abbrev pub room_for : Config → ℕ → ℕ
room_for k n = 2 * (k.buffer + k.window + min (k.producers * n) 4000) + turn_room

abbrev pub room_wanted : Script → ℕ → ℕ
room_wanted c s = room_for c.config (length (names_of (setting c) s))

-- room for each call that writes to the store of a hosted shard: a record and a snapshot for a message; of a recovery, that the entity is remembered, and these for each message that may be stashed; of a stop, that it is forgotten
pub record IsRoomy (v : Lodged) (s : ℕ) : Type 0 where
  pub delivery : HasRoom v s 1
  pub recovery : HasRoom v s (2 * v.script.config.window)
  pub stop : HasRoom v s 0

-- a call took at most n of the room of one shard, and nothing of another's; it let no shard go
pub record Takes (v w : Lodged) (s n : ℕ) : Type 0 where
  pub room_is : slice_index_or v.rooms s 0 ≤ slice_index_or w.rooms s 0 + n
  pub others_are : (t : ℕ) → t ≢ s → slice_index_or w.rooms t 0 ≡ slice_index_or v.rooms t 0
  pub hosted_are : (t : ℕ) → hosted w.state t ≡ None → hosted v.state t ≡ None

-- no room is less
pub record AreMore (old new : List ℕ) : Type 0 where
  pub there : length new ≡ length old
  pub each : (s : ℕ) → slice_index_or old s 0 ≤ slice_index_or new s 0

abbrev pub with_room : ℕ → Hosting → Hosting
with_room n h = record { store = record { script = h.store.script; shard = h.store.shard; entries = h.store.entries; spare = n }; stopping = h.stopping }

-- the same but for its room, which isn't less
pub record IsReserved (old new : Option Hosting) : Type 0 where
  pub same : new ≡ option_map (with_room (room_of new)) old
  pub more : room_of old ≤ room_of new

pub record AreReserved (old new : List (Option Hosting)) : Type 0 where
  pub there : length new ≡ length old
  pub each : (s : ℕ) → IsReserved (at old s) (at new s)
