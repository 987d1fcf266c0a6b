-- How a shard's store is kept: beside the list, of each name of the shard its journal, its snapshots and whether it is remembered.
use Rattle.std.specs.Prelude.{◌≡◌, ℕ, ◌+◌, ◌-◌, ◌<◌, ◌≤◌, Bool, true, false, List, [], length, take, slice_get, slice_index_or, Option, MatchOption}
use Rattle.std.specs.List.Sorted.{IsStrictlySortedBy}
use Rattle.std.specs.Ordering.{nat_cmp}
use Rattle.std.specs.Cmp.Lexicographic.{slice_cmp}
use Rattle.yard_model.specs.declared.event.Kind.{Kind}
use Rattle.yard_model.specs.declared.fact.Fact.{Fact}
use Rattle.yard_model.specs.declared.fact.Fact.TheVariants as fact
use Rattle.yard_model.specs.declared.packet.Record.{Record}
use Rattle.yard_model.specs.Behaviour.{folded}
use Rattle.yard_model.specs.Genuine.{is_shard}
use Rattle.yard_model.specs.Lawful.{own}
use Rattle.yard_model.specs.Script.{Script, setting}
use Rattle.yard_model.specs.Setting.{names_of}
use Rattle.yard_model.specs.SlotReads.{journal, position, last_snapshot, is_remembered}
use Rattle.entity_journal.specs.Journal.{Journaled}
use Rattle.entity_snapshot.specs.declared.snapshot.Snapshot.{Snapshot}
use Rattle.entity_snapshot.specs.Kept.{Kept}
use Rattle.shard_store.specs.Planned.{sent_to}
use Rattle.shard_store.specs.Shelf.{Shelf, slot_of}

abbrev pub no_journal : Journaled
no_journal = record { items = []; places = []; spare = 0 }

abbrev pub no_snapshots : Kept
no_snapshots = record { snapshots = []; keep = 1 }

abbrev pub name_at : List (List ℕ) → ℕ → List ℕ
name_at names i = slice_index_or names i []

-- this name stands at that place among these
pub record IsNamed (names : List (List ℕ)) (i : ℕ) (e : List ℕ) : Type 0 where
  pub within : i < length names
  pub it : name_at names i ≡ e

-- the place of a name among the names of the store's shard
abbrev pub IsThere : Shelf → ℕ → List ℕ → Type 0
IsThere s i e = IsNamed (names_of (setting s.script) s.shard) i e

-- the places of a name's records in a list: where each stands is the entry that wrote it
pub record ArePlaced (e : List ℕ) (list : List Fact) (kept : Journaled) : Type 0 where
  pub as_many : length kept.places ≡ length kept.items
  pub within : (k : ℕ) → k < length kept.items → slice_index_or kept.places k 0 < length list
  pub it : (k : ℕ) (r : Record) (f : Fact) → k < length kept.items → slice_index_or list (slice_index_or kept.places k 0) f ≡ fact.Wrote e (slice_index_or kept.items k r)

-- what is kept of the journal of a name in a list: its records, with their places, and room for so many in all
pub record IsJournal (e : List ℕ) (list : List Fact) (most : ℕ) (kept : Journaled) : Type 0 where
  pub records_are : kept.items ≡ journal e list
  pub places_are : ArePlaced e list kept
  pub room_is : most ≤ length (journal e list) + kept.spare

-- the snapshot after the first m of these records
pub record IsSnapshot (kind : Kind) (records : List Record) (m : ℕ) (s : Snapshot) : Type 0 where
  pub at_is : s.at ≡ m
  pub some : 0 < m
  pub within : m ≤ length records
  pub state_is : s.state ≡ folded kind (take m records)
  pub positions_are : (p : ℕ) → 0 < p → p ≤ 32 → slice_index_or s.positions (p - 1) 0 ≡ position p (take m records)

abbrev pub latest : Kept → Option Snapshot
latest k = slice_get k.snapshots (length k.snapshots - 1)

-- the latest is that after the first m records; there is none where m is 0
abbrev pub IsLatest : Kind → List Record → ℕ → Kept → Type 0
IsLatest kind records m kept = (0 < kept.keep) × MatchOption (latest kept) (m ≡ 0) (IsSnapshot kind records m)

-- at each place, what is kept of its name: of its journal there is room for all that is sent to it
pub record AreKept (c : Script) (names : List (List ℕ)) (list : List Fact) (journals : List Journaled) (snapshots : List Kept) (marks : List Bool) : Type 0 where
  pub journals_there : length journals ≡ length names
  pub snapshots_there : length snapshots ≡ length names
  pub marks_there : length marks ≡ length names
  pub journal_is : (i : ℕ) → i < length names → IsJournal (name_at names i) list (sent_to (name_at names i) c.orders) (slice_index_or journals i no_journal)
  pub latest_is : (i : ℕ) → i < length names → IsLatest c.config.kind (journal (name_at names i) list) (last_snapshot (name_at names i) list) (slice_index_or snapshots i no_snapshots)
  pub mark_is : (i : ℕ) → i < length names → slice_index_or marks i false ≡ is_remembered (name_at names i) list

pub record IsShelf (s : Shelf) (list_shard : ℕ) (names : List (List ℕ)) (journals : List Journaled) (snapshots : List Kept) (marks : List Bool) : Type 0 where
  pub own_is : own s.script (slot_of s) s.entries ≡ true
  pub shard_is : is_shard s.script s.shard ≡ true
  pub list_is : list_shard ≡ s.shard
  pub names_are : names ≡ names_of (setting s.script) s.shard
  pub few_names : length names ≤ 1000
  pub sorted : IsStrictlySortedBy (slice_cmp nat_cmp) names
  pub kept_is : AreKept s.script names s.entries journals snapshots marks
