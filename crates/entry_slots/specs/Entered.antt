-- What the stores of all slots are after an entry from outside was tested.
use Rattle.std.specs.Prelude.{◌≡◌, ℕ, ◌≤◌, Bool, true, false, ◌&&◌, List, [], ◌∷◌, ◌++◌, Option, Some, None, slice_set, if◌then◌else◌}
use Rattle.yard_model.specs.declared.fact.Fact.{Fact}
use Rattle.yard_model.specs.declared.fact.Fact.TheVariants as fact
use Rattle.yard_model.specs.declared.incarnation.Slot.{Slot}
use Rattle.yard_model.specs.declared.incarnation.Slot.TheVariants as slot
use Rattle.yard_model.specs.declared.packet.Record.{Record}
use Rattle.std.specs.List.{list_any}
use Rattle.yard_model.specs.Behaviour.{folded}
use Rattle.yard_model.specs.Genuine.{is_planned, is_slot_of}
use Rattle.yard_model.specs.Lawful.{is_decided, is_of_shard, may_follow}
use Rattle.yard_model.specs.Script.{Script, setting, versions}
use Rattle.yard_model.specs.SlotLists.{SlotLists}
use Rattle.yard_model.specs.SlotReads.{journal}
use Rattle.yard_model.specs.Trace.{list_at, lists_step, slot_of}
use Rattle.yard_model.specs.Words.{at}
use Rattle.shard_store.specs.declared.store.Store.{Store}
use Rattle.shard_store.specs.Shelf.{Shelf, may}
use Rattle.shard_store.specs.Stores.{IsThere, entries_in, place_of}
use Rattle.coordinator_state.specs.Coord.{Coord}
use Rattle.durable_queue.specs.Queue.{Queue}
use Rattle.entry_judge.specs.Entered.{may_enter_coord}
use Rattle.entry_judge.specs.Entered as judge
use Rattle.entry_slots.specs.declared.places.Known.{Known}

-- what contracts see
pub record AllLists : Type 0 where
  pub script : Script
  pub lists : SlotLists

-- whether a fact may stand at the end of its slot's list, if it belongs to one
abbrev pub may_enter : Script → SlotLists → Fact → Option Slot → Bool
may_enter c lists f None = true
may_enter c lists f (Some s) = is_slot_of c s && may_follow c s (list_at lists s) f

-- the entry stands at the end of its list where it may; else nothing changes
pub record Enters (old : AllLists) (f : Fact) (done : Bool) (new : AllLists) : Type 0 where
  pub answer : done ≡ may_enter old.script old.lists f (slot_of (setting old.script) f)
  pub script : new.script ≡ old.script
  pub lists : new.lists ≡ (if done then lists_step (setting old.script) old.lists f else old.lists)

-- an entry that is of no entity
abbrev pub is_of_no_entity : Fact → Bool
is_of_no_entity (fact.Wrote e r) = false
is_of_no_entity (fact.Snapshot e m) = false
is_of_no_entity (fact.Remembered e) = false
is_of_no_entity (fact.Forgotten e) = false
is_of_no_entity f = true

-- a snapshot or a mark of this entity
abbrev pub IsMarkOf : List ℕ → Fact → Type 0
IsMarkOf e (fact.Snapshot x m) = x ≡ e
IsMarkOf e (fact.Remembered x) = x ≡ e
IsMarkOf e (fact.Forgotten x) = x ≡ e
IsMarkOf e f = ⊥

-- The store at one place.

pub record EntersPlace (c : Script) (s : Slot) (old : Option Store) (f : Fact) (done : Bool) (new : Option Store) : Type 0 where
  pub home : IsThere c s new
  pub answer : done ≡ may_follow c s (entries_in old) f
  pub list : entries_in new ≡ (if done then entries_in old ++ f ∷ [] else entries_in old)

-- it is as it was, but for its spare
pub record StaysPlace (c : Script) (s : Slot) (old new : Option Store) : Type 0 where
  pub home : IsThere c s new
  pub list : entries_in new ≡ entries_in old

-- a name of the script, of the shard that this slot is of
abbrev pub is_of_slot : Script → Slot → List ℕ → Bool
is_of_slot c (slot.Shard s) e = is_of_shard c s e
is_of_slot c s e = false

pub record KnowsWrote (c : Script) (s : Slot) (list : List Fact) (e : List ℕ) (r : Record) (known : Known) : Type 0 where
  pub name : is_of_slot c s e ≡ true
  pub decided : known.decided ≡ list_any (λ v. is_decided v c (journal e list) r) (versions c)
  pub planned : is_planned c r.producer e r.place r.command ≡ true

pub record KnowsState (c : Script) (s : Slot) (list : List Fact) (e : List ℕ) (known : Known) : Type 0 where
  pub name : is_of_slot c s e ≡ true
  pub state : known.state ≡ folded c.config.kind (journal e list)

-- what must be known of an entry of an entity before it is tested
abbrev pub Knows : Script → Slot → List Fact → Fact → Known → Type 0
Knows c s list (fact.Wrote e r) known = KnowsWrote c s list e r known
Knows c s list (fact.Snapshot e m) known = KnowsState c s list e known
Knows c s list (fact.Remembered e) known = is_of_slot c s e ≡ true
Knows c s list (fact.Forgotten e) known = is_of_slot c s e ≡ true
Knows c s list f known = Unit {0}

-- a store with room for a hundred entries more

pub record EntersShelf (old : Shelf) (f : Fact) (done : Bool) (new : Shelf) : Type 0 where
  pub answer : done ≡ may old f
  pub script : new.script ≡ old.script
  pub shard : new.shard ≡ old.shard
  pub entries : new.entries ≡ (if done then old.entries ++ f ∷ [] else old.entries)
  pub spare : 100 ≤ new.spare

pub record EntersCoordRoomy (old : Coord) (f : Fact) (done : Bool) (new : Coord) : Type 0 where
  pub answer : done ≡ may_enter_coord old f
  pub script : new.script ≡ old.script
  pub entries : new.entries ≡ (if done then old.entries ++ f ∷ [] else old.entries)
  pub spare : 100 ≤ new.spare

pub record EntersQueueRoomy (old : Queue) (f : Fact) (done : Bool) (new : Queue) : Type 0 where
  pub answer : done ≡ judge.may_enter old f
  pub script : new.script ≡ old.script
  pub producer : new.producer ≡ old.producer
  pub entries : new.entries ≡ (if done then old.entries ++ f ∷ [] else old.entries)
  pub spare : 100 ≤ new.spare

-- All places.

pub record EntersPlaces (c : Script) (s : Slot) (old : List (Option Store)) (f : Fact) (done : Bool) (new : List (Option Store)) : Type 0 where
  pub store : Option Store
  pub places : new ≡ slice_set old (place_of c.config s) store
  pub entered : EntersPlace c s (at old (place_of c.config s)) f done store

pub record StayPlaces (c : Script) (s : Slot) (old new : List (Option Store)) : Type 0 where
  pub store : Option Store
  pub places : new ≡ slice_set old (place_of c.config s) store
  pub stays : StaysPlace c s (at old (place_of c.config s)) store
