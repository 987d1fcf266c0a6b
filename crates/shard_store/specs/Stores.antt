-- Stores of all slots.
use Rattle.std.specs.Prelude.{◌≡◌, ℕ, ◌+◌, ◌-◌, ◌<◌, ◌≤◌, false, nat_lt, ◌==◌, List, [], map, length, Option, Some, None, if◌then◌else◌}
use Rattle.yard_model.specs.declared.charter.Config.{Config}
use Rattle.yard_model.specs.declared.fact.Fact.{Fact}
use Rattle.yard_model.specs.declared.incarnation.Slot.{Slot}
use Rattle.yard_model.specs.declared.incarnation.Slot.TheVariants as slot
use Rattle.yard_model.specs.Lawful.{is_held}
use Rattle.yard_model.specs.Script.{Script, IsScript}
use Rattle.yard_model.specs.SlotLists.{SlotLists}
use Rattle.yard_model.specs.Words.{numbers, at}
use Rattle.shard_store.specs.declared.store.Store.{Store}
use Rattle.shard_store.specs.declared.store.Store.TheVariants as store
use Rattle.shard_store.specs.declared.store.StoreRef.{StoreRef}
use Rattle.shard_store.specs.declared.store.StoreRef.TheVariants as ref

-- What a store is of.

abbrev pub script_of : Store → Script
script_of (store.Shard x) = x.script
script_of (store.Coordinator x) = x.script
script_of (store.Queue x) = x.script

abbrev pub slot_of : Store → Slot
slot_of (store.Shard x) = slot.Shard x.shard
slot_of (store.Coordinator x) = slot.Coordinator
slot_of (store.Queue x) = slot.Queue x.producer

abbrev pub entries_of : Store → List Fact
entries_of (store.Shard x) = x.entries
entries_of (store.Coordinator x) = x.entries
entries_of (store.Queue x) = x.entries

abbrev pub spare_of : Store → ℕ
spare_of (store.Shard x) = x.spare
spare_of (store.Coordinator x) = x.spare
spare_of (store.Queue x) = x.spare

-- and what a store is of that is lent

abbrev pub script_of_ref : StoreRef → Script
script_of_ref (ref.Shard x) = x.now.script
script_of_ref (ref.Coordinator x) = x.now.script
script_of_ref (ref.Queue x) = x.now.script

abbrev pub slot_of_ref : StoreRef → Slot
slot_of_ref (ref.Shard x) = slot.Shard x.now.shard
slot_of_ref (ref.Coordinator x) = slot.Coordinator
slot_of_ref (ref.Queue x) = slot.Queue x.now.producer

abbrev pub entries_of_ref : StoreRef → List Fact
entries_of_ref (ref.Shard x) = x.now.entries
entries_of_ref (ref.Coordinator x) = x.now.entries
entries_of_ref (ref.Queue x) = x.now.entries

-- The places of the slots: the shards, the coordinator, the queues.

abbrev pub place_of : Config → Slot → ℕ
place_of c (slot.Shard s) = s
place_of c slot.Coordinator = c.shards
place_of c (slot.Queue p) = c.shards + p

abbrev pub slot_at : Config → ℕ → Slot
slot_at c k = if nat_lt k c.shards then slot.Shard k else if k == c.shards then slot.Coordinator else slot.Queue (k - c.shards)

abbrev pub entries_in : Option Store → List Fact
entries_in None = []
entries_in (Some x) = entries_of x

abbrev pub entries_at : List (Option Store) → ℕ → List Fact
entries_at places k = entries_in (at places k)

-- the lists of the stores at these places
abbrev pub lists_at : Config → List (Option Store) → SlotLists
lists_at c places = record {
  shards = map (entries_at places) (numbers 0 c.shards);
  coordinator = entries_at places c.shards;
  queues = map (λ p. entries_at places (c.shards + p)) (numbers 1 c.producers);
}

-- a store of this slot, that takes at least a hundred entries more with no memory where it isn't leased
pub record IsHome (c : Script) (s : Slot) (x : Store) : Type 0 where
  pub script_is : script_of x ≡ c
  pub slot_is : slot_of x ≡ s
  pub spare_is : is_held (entries_of x) ≡ false → 100 ≤ spare_of x

abbrev pub IsThere : Script → Slot → Option Store → Type 0
IsThere c s None = ⊥
IsThere c s (Some x) = IsHome c s x

-- each slot has its store, at its place
pub record AreHomes (c : Script) (places : List (Option Store)) : Type 0 where
  pub script_is : IsScript c
  pub all : length places ≡ c.config.shards + c.config.producers + 1
  pub each : (k : ℕ) → k < length places → IsThere c (slot_at c.config k) (at places k)

-- what a contract sees of stores
pub record Shelves : Type 0 where
  pub script : Script
  pub places : List (Option Store)

-- the store of a slot before its first entry
pub record IsNew (c : Script) (s : Slot) (x : Store) : Type 0 where
  pub home_is : IsHome c s x
  pub none : entries_of x ≡ []

-- the first n places have their stores, before any entry
pub record AreNew (c : Script) (places : List (Option Store)) (n : ℕ) : Type 0 where
  pub count : length places ≡ n
  pub each : (k : ℕ) → k < n → IsThere c (slot_at c.config k) (at places k)
  pub none : (k : ℕ) → k < n → entries_at places k ≡ []
