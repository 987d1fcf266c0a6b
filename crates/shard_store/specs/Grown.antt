-- The store of a shard that goes on with more names: of each that is new nothing was told.
use Rattle.std.specs.Prelude.{◌≡◌, ℕ, ◌<◌, ◌≤◌, ◌+◌, Bool, true, false, ◌&&◌, nat_lt, List, [], length, slice_index_or, if◌then◌else◌}
use Rattle.std.specs.List.{list_any, insert}
use Rattle.yard_model.specs.declared.fact.Fact.{Fact}
use Rattle.yard_model.specs.Script.{Script, is_name}
use Rattle.yard_model.specs.SlotReads.{journal, last_snapshot, is_remembered}
use Rattle.entity_journal.specs.Journal.{Journaled}
use Rattle.entity_snapshot.specs.Kept.{Kept}
use Rattle.shard_store.specs.Planned.{sent_to}
use Rattle.shard_store.specs.Shelved.{name_at, no_journal, AreKept}

-- what is kept of each name, at its place
pub record Kinds : Type 0 where
  pub journals : List Journaled
  pub snapshots : List Kept
  pub marks : List Bool

abbrev pub AreKeptOf : Script → List (List ℕ) → List Fact → Kinds → Type 0
AreKeptOf c names list k = AreKept c names list k.journals k.snapshots k.marks

-- as many as these are kept of
pub record AreOf (names : List (List ℕ)) (k : Kinds) : Type 0 where
  pub journals : length k.journals ≡ length names
  pub snapshots : length k.snapshots ≡ length names
  pub marks : length k.marks ≡ length names

-- with nothing of a name more, at this place
abbrev pub with_none : ℕ → ℕ → Kinds → Kinds
with_none keep at k = record { journals = insert k.journals at no_journal; snapshots = insert k.snapshots at (record { snapshots = []; keep = keep }); marks = insert k.marks at false }

-- the name stands there
abbrev pub stands : List (List ℕ) → ℕ → List ℕ → Bool
stands names k e = nat_lt k (length names) && is_name (name_at names k) e

-- whether it stands among the old ones or not, the next name has its place
abbrev pub kinds_next : Bool → ℕ → ℕ → Kinds → Kinds
kinds_next there keep at k = if there then k else with_none keep at k

abbrev pub had_next : Bool → ℕ → ℕ
had_next there had = if there then had + 1 else had

-- a list tells nothing of a name, and nothing is sent to it
pub record IsUnheard (c : Script) (list : List Fact) (e : List ℕ) : Type 0 where
  pub journal_is : journal e list ≡ []
  pub snapshot_is : last_snapshot e list ≡ 0
  pub mark_is : is_remembered e list ≡ false
  pub sends : sent_to e c.orders ≡ 0

-- of names that aren't among these
abbrev pub AreUnheard : Script → List Fact → List (List ℕ) → Type 0
AreUnheard c list names = (e : List ℕ) → list_any (is_name e) names ≡ false → IsUnheard c list e

-- what was kept of the old names in any list, which tells of no others, is kept of these
pub record Grows (old names : List (List ℕ)) (k l : Kinds) : Type 0 where
  pub kept : (c : Script) (list : List Fact) → AreKeptOf c old list k → AreUnheard c list old → AreKeptOf c names list l

-- each of the old ones is among these
pub record AreAmong (old names : List (List ℕ)) : Type 0 where
  pub each : (k : ℕ) → k < length old → list_any (is_name (name_at old k)) names ≡ true

-- the same journal, with room for so many records in all
pub record HasRoom (most : ℕ) (old new : Journaled) : Type 0 where
  pub items : new.items ≡ old.items
  pub places : new.places ≡ old.places
  pub room : most ≤ length new.items + new.spare

-- each of the first n has room for all that is sent to its name, and the others are as they were
pub record AreRoomy (c : Script) (names : List (List ℕ)) (old new : List Journaled) (n : ℕ) : Type 0 where
  pub long : length new ≡ length old
  pub done : (i : ℕ) → i < n → HasRoom (sent_to (name_at names i) c.orders) (slice_index_or old i no_journal) (slice_index_or new i no_journal)
  pub left : (i : ℕ) → n ≤ i → slice_index_or new i no_journal ≡ slice_index_or old i no_journal

-- both
pub record AreGrown (c : Script) (old names : List (List ℕ)) (k l : Kinds) : Type 0 where
  pub between : List Journaled
  pub grows : Grows old names k (record { journals = between; snapshots = l.snapshots; marks = l.marks })
  pub roomy : AreRoomy c names between l.journals (length names)
