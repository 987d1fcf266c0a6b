-- The entities of a node as they are kept, and what moves make of them.
use Rattle.std.specs.Prelude.{◌≡◌, ℕ, ◌<◌, ◌-◌, ◌&&◌, Bool, true, not, List, [], ◌∷◌, ◌++◌, length, map, filter, fold, slice_index_or, slice_set, Option, None, Some, IfSome}
use Rattle.std.specs.Option.{option_map}
use Rattle.std.specs.List.{list_all}
use Rattle.std.specs.List.Sorted.{IsStrictlySortedBy}
use Rattle.std.specs.Ordering.{nat_cmp}
use Rattle.std.specs.Cmp.Lexicographic.{slice_cmp}
use Rattle.yard_model.specs.declared.charter.Config.{Config}
use Rattle.yard_model.specs.declared.fact.Fact.{Fact}
use Rattle.yard_model.specs.declared.fact.Fact.TheVariants as fact
use Rattle.yard_model.specs.declared.incarnation.Incarnation.{Incarnation}
use Rattle.yard_model.specs.declared.incarnation.Slot.TheVariants as slot
use Rattle.yard_model.specs.declared.input.Phase.TheVariants as phase
use Rattle.yard_model.specs.declared.out.Item.{Item}
use Rattle.yard_model.specs.declared.out.Item.TheVariants as item
use Rattle.yard_model.specs.declared.packet.Message.{Message}
use Rattle.yard_model.specs.Behaviour.{folded, is_valid}
use Rattle.yard_model.specs.Entities.{Entities, Cell, entities_after, hosted, entries_in, is_running_in, is_phase, cell_in, new_cell, Hosted, Stopping}
use Rattle.yard_model.specs.Genuine.{is_genuine, is_producer}
use Rattle.yard_model.specs.Move.{Move, made, took}
use Rattle.yard_model.specs.Script.{Script, IsScript, Setting, setting, is_name, is_version}
use Rattle.yard_model.specs.Setting.{shard_of, names_of, place}
use Rattle.yard_model.specs.ShardSet.{has}
use Rattle.yard_model.specs.SlotReads.{holder, journal}
use Rattle.yard_model.specs.Spared.{Spared}
use Rattle.yard_model.specs.Words.{at}
use Rattle.shard_store.specs.Shelf.{Shelf}
use Rattle.shard_store.specs.Shelved.{name_at}
use Rattle.entity_cells.specs.Celled.{Celled, celled}
use Rattle.shard_entities.specs.declared.hosting.Hosting.{Hosting}
use Rattle.shard_entities.specs.declared.hosting.Ending.{Ending}

pub record Lodged : Type 0 where
  pub script : Script  -- that they were made for; its setting is the state's
  pub state : Entities
  pub rooms : List ℕ  -- per shard: how many more entries are appended with no memory taken, 0 where it isn't hosted

-- What moves make of them, and of what was told and posted before.

-- one entry more takes one of the room of its shard
abbrev pub less : ℕ → List ℕ → List ℕ
less s old = slice_set old s (slice_index_or old s 0 - 1)

abbrev pub rooms_by_fact : Setting → List ℕ → Fact → List ℕ
rooms_by_fact set old (fact.Freed (slot.Shard s) n why) = slice_set old s 0
rooms_by_fact set old (fact.Wrote e r) = less (shard_of set e) old
rooms_by_fact set old (fact.Snapshot e n) = less (shard_of set e) old
rooms_by_fact set old (fact.Remembered e) = less (shard_of set e) old
rooms_by_fact set old (fact.Forgotten e) = less (shard_of set e) old
rooms_by_fact set old f = old

abbrev pub rooms_step : Setting → List ℕ → Move → List ℕ
rooms_step set old (made (item.Fact f)) = rooms_by_fact set old f
rooms_step set old m = old

abbrev pub lodged_after : Lodged → Move → Lodged
lodged_after v m = record { script = v.script; state = entities_after v.state m; rooms = rooms_step v.state.set v.rooms m }

abbrev pub moved : Lodged → List Move → Lodged
moved v ms = fold lodged_after v ms

abbrev pub given_step : Spared Item → Move → Spared Item
given_step old (made i) = record { items = old.items ++ i ∷ []; spare = old.spare - 1 }
given_step old m = old

abbrev pub given : Spared Item → List Move → Spared Item
given old ms = fold given_step old ms

-- How they are kept.

abbrev pub stopping_of : Ending → Stopping
stopping_of x = record { stamp = x.stamp; to = x.to }

abbrev pub hosted_of : Hosting → Hosted
hosted_of h = record { entries = h.store.entries; stopping = option_map stopping_of h.stopping }

abbrev pub room_of : Option Hosting → ℕ
room_of None = 0
room_of (Some h) = h.store.spare

abbrev pub cell_of : Celled → Cell
cell_of x = x.cell

-- before the first start
abbrev pub new_celled : Script → Celled
new_celled c = celled c.config.producers c.config.window

-- the store of this shard and script, leased to this node
pub record IsHosting (c : Script) (who : Incarnation) (s : ℕ) (h : Hosting) : Type 0 where
  pub script_is : h.store.script ≡ c
  pub shard_is : h.store.shard ≡ s
  pub leased : holder h.store.entries ≡ Some who

-- a message is made of the script, comes from one of its producers, and is for this name
abbrev pub is_for : Script → List ℕ → Message → Bool
is_for c e m = is_genuine c m && is_producer c m.producer && is_name m.entity e

-- the state is what the journal leads to
pub record IsFolded (c : Script) (e : List ℕ) (x : Celled) (h : Hosting) : Type 0 where
  pub state_is : x.state ≡ folded c.config.kind (journal e h.store.entries)
  pub valid : is_valid c.config.kind x.state ≡ true

-- the cell of this name, whose shard is hosted so
pub record IsCell (c : Script) (e : List ℕ) (o : Option Hosting) (x : Celled) : Type 0 where
  pub window_is : x.window ≡ c.config.window
  pub reach_there : length x.cell.reach ≡ c.config.producers
  pub stash_is : list_all (is_for c e) x.cell.stash ≡ true
  pub clear : x.cell.phase ≡ phase.Active → x.cell.stash ≡ []
  pub folds : x.cell.phase ≡ phase.Active → IfSome o (IsFolded c e x)

-- where the shard of the name at a place stands
abbrev pub host_of : Script → List (Option Hosting) → List ℕ → Option Hosting
host_of c items e = at items (shard_of (setting c) e)

pub record IsLodged (c : Script) (version : ℕ) (who : Incarnation) (config : Config) (places : Script) (cells : List Celled) (items : List (Option Hosting)) (running : ℕ) : Type 0 where
  pub script_is : IsScript c
  pub admitted : is_version c version ≡ true
  pub config_is : config ≡ c.config
  pub places_are : places ≡ c
  pub sorted : IsStrictlySortedBy (slice_cmp nat_cmp) (setting c).names
  pub there : length cells ≡ length (setting c).names
  pub shards_there : length items ≡ c.config.shards
  pub each : (i : ℕ) → i < length (setting c).names → IsCell c (name_at (setting c).names i) (host_of c items (name_at (setting c).names i)) (slice_index_or cells i (new_celled c))
  pub hosts : (s : ℕ) → IfSome (at items s) (IsHosting c who s)
  pub runs : (s : ℕ) → s < c.config.shards → has running s ≡ is_running_in (option_map hosted_of (at items s))

-- of each shard, how many of its entities exist
pub record AreCounted (set : Setting) (cells : List Cell) (existing : List ℕ) : Type 0 where
  pub there : length existing ≡ set.config.shards
  pub each : (s : ℕ) → s < set.config.shards → slice_index_or existing s 0 ≡ length (filter (λ e. not (is_phase phase.Absent (cell_in set cells e).phase)) (names_of set s))

pub record IsKept (c : Script) (version : ℕ) (who : Incarnation) (config : Config) (places : Script) (cells : List Celled) (items : List (Option Hosting)) (running : ℕ) (existing : List ℕ) : Type 0 where
  pub lodged : IsLodged c version who config places cells items running
  pub counted : AreCounted (setting c) (map cell_of cells) existing

abbrev pub lodged : Script → ℕ → Incarnation → List (Option Hosting) → List Celled → Lodged
lodged c version who items cells = record { script = c; state = record { who = who; set = setting c; version = version; hosted = map (option_map hosted_of) items; cells = map cell_of cells }; rooms = map room_of items }

-- a store that is the one of a hosted shard
pub record IsStore (v : Lodged) (s : ℕ) (x : Shelf) : Type 0 where
  pub script_is : x.script ≡ v.script
  pub shard_is : x.shard ≡ s
  pub entries_are : x.entries ≡ entries_in (hosted v.state s)
  pub room_is : x.spare ≡ slice_index_or v.rooms s 0
  pub leased : holder x.entries ≡ Some v.state.who

-- an entry of a hosted shard, with room for it
pub record HasRoom (v : Lodged) (s n : ℕ) : Type 0 where
  pub hosted_is : (hosted v.state s ≡ None) → ⊥
  pub room : n < slice_index_or v.rooms s 0

-- where the shard is hosted, there is room for more than n entries
abbrev pub RoomIfHosted : Lodged → ℕ → ℕ → Type 0
RoomIfHosted v s n = (hosted v.state s ≡ None → ⊥) → n < slice_index_or v.rooms s 0

-- a shard is hosted, with this store
abbrev pub hosting : Lodged → ℕ → Shelf → Lodged
hosting v s x = record { script = v.script; state = entities_after v.state (took (slot.Shard s) x.entries); rooms = slice_set v.rooms s x.spare }

-- nothing is known of these entities any more
abbrev pub cells_cleared : Setting → List Cell → List ℕ → List Cell
cells_cleared set old e = slice_set old (place set e) (new_cell set)

abbrev pub cleared : Lodged → List (List ℕ) → Lodged
cleared v es = record { script = v.script; state = record { who = v.state.who; set = v.state.set; version = v.state.version; hosted = v.state.hosted; cells = fold (cells_cleared v.state.set) v.state.cells es }; rooms = v.rooms }

-- a shard isn't hosted any more, and no entity of it is left
abbrev pub without : Lodged → ℕ → Lodged
without v s = record { script = v.script; state = record { who = v.state.who; set = v.state.set; version = v.state.version; hosted = slice_set v.state.hosted s None; cells = fold (cells_cleared v.state.set) v.state.cells (names_of v.state.set s) }; rooms = slice_set v.rooms s 0 }
