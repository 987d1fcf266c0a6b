-- Stores that go over to another number of shards.
use Rattle.std.specs.Prelude.{◌≡◌, ℕ, ◌<◌, ◌≤◌, Bool, true, false, List, ◌∷◌, [], ◌++◌, length, slice_index_or, Option, Some, None, IsTrue}
use Rattle.yard_model.specs.declared.entry.ShardEntry.{ShardEntry}
use Rattle.yard_model.specs.declared.fact.Fact.{Fact}
use Rattle.yard_model.specs.declared.fact.Fact.TheVariants as fact
use Rattle.yard_model.specs.declared.incarnation.Slot.{Slot}
use Rattle.yard_model.specs.declared.incarnation.Slot.TheVariants as slot
use Rattle.yard_model.specs.declared.charter.Line.{Line}
use Rattle.yard_model.specs.Entry.{shard_fact}
use Rattle.yard_model.specs.Era.{is_of_name, reshaped}
use Rattle.yard_model.specs.Lawful.{own, is_held}
use Rattle.yard_model.specs.Script.{Script, setting, with_shards}
use Rattle.yard_model.specs.Setting.{shard_of}
use Rattle.yard_model.specs.SlotLists.{SlotLists, shard_list}
use Rattle.yard_model.specs.SlotReads.{epoch, journal, last_snapshot, is_remembered}
use Rattle.entity_journal.specs.Journal.{Journaled}
use Rattle.yard_model.specs.Trace.{list_at}
use Rattle.entity_snapshot.specs.Kept.{Kept}
use Rattle.shard_store.specs.declared.store.Store.{Store}
use Rattle.shard_store.specs.Planned.{sent_to}
use Rattle.shard_store.specs.Shelved.{name_at, IsJournal, IsLatest}
use Rattle.shard_store.specs.Stores.{Shelves, lists_at, script_of, slot_of, entries_of, IsHome}

-- the lists of the stores
abbrev pub slot_lists : Shelves → SlotLists
slot_lists x = lists_at x.script.config x.places

-- the list of the shard of a name
abbrev pub list_of : Shelves → List ℕ → List Fact
list_of x e = shard_list (slot_lists x) (shard_of (setting x.script) e)

-- the lists for n shards, whose epochs go on above k
abbrev pub next_lists : Shelves → ℕ → ℕ → SlotLists
next_lists x n k = reshaped (setting x.script) n k (slot_lists x)

-- these may go over to that script: it differs in the number of shards alone, and no shard's epoch is above k
pub record MayGoOver (x : Shelves) (c : Script) (k : ℕ) : Type 0 where
  pub script_is : c ≡ with_shards c.config.shards x.script
  pub low : (s : ℕ) → epoch (shard_list (slot_lists x) s) ≤ k
  pub own_are : (s : ℕ) → IsTrue (own x.script (slot.Shard s) (shard_list (slot_lists x) s))

-- the list of a store is lawful by itself
abbrev pub IsOwn : Option Store → Type 0
IsOwn None = Unit {0}
IsOwn (Some x) = IsTrue (own (script_of x) (slot_of x) (entries_of x))

-- an entry of this name
abbrev pub is_entry_of : List ℕ → ShardEntry → Bool
is_entry_of e x = is_of_name e (shard_fact 0 x)

-- something of each of the first n places
pub record AreEach {A : Type 0} (d : A) (P : ℕ → A → Type 0) (xs : List A) (n : ℕ) : Type 0 where
  pub count : length xs ≡ n
  pub each : (i : ℕ) → i < n → P i (slice_index_or xs i d)

-- of each name, its journal in this list, with room for all that is sent to it by these orders
abbrev pub IsJournalIn : List Fact → List Line → List (List ℕ) → ℕ → Journaled → Type 0
IsJournalIn list orders names i j = IsJournal (name_at names i) list (sent_to (name_at names i) orders) j

-- each name has the journal in this list that it has in that of its shard
abbrev pub AreCarried : Shelves → List (List ℕ) → List Fact → Type 0
AreCarried x names list = (i : ℕ) → i < length names → journal (name_at names i) list ≡ journal (name_at names i) (list_of x (name_at names i))

-- of each name, what is read of it in the list of its shard

abbrev pub IsLatestOf : Shelves → List (List ℕ) → ℕ → Kept → Type 0
IsLatestOf x names i k = IsLatest x.script.config.kind (journal (name_at names i) (list_of x (name_at names i))) (last_snapshot (name_at names i) (list_of x (name_at names i))) k

abbrev pub IsMarkOf : Shelves → List (List ℕ) → ℕ → Bool → Type 0
IsMarkOf x names i b = b ≡ is_remembered (name_at names i) (list_of x (name_at names i))

-- the list of a slot that isn't a shard's goes on
abbrev pub going_on : ℕ → ℕ → Slot → List Fact → List Fact
going_on n k slot.Coordinator list = list ++ fact.Reshard n k ∷ []
going_on n k s list = list

abbrev pub is_of_shards : Slot → Bool
is_of_shards (slot.Shard s) = true
is_of_shards s = false

-- a store of this slot, with that list, which isn't leased
pub record IsAfter (c : Script) (s : Slot) (list : List Fact) (x : Store) : Type 0 where
  pub home_is : IsHome c s x
  pub list_is : entries_of x ≡ list
  pub free : is_held (entries_of x) ≡ false

-- the store of a slot stands there, with its list of these
abbrev pub IsAfterAt : Script → SlotLists → Slot → Option Store → Type 0
IsAfterAt c lists s None = ⊥
IsAfterAt c lists s (Some x) = IsAfter c s (list_at lists s) x
