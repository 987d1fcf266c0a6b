-- What is kept of each name beside the stores of all slots.
use Rattle.std.specs.Prelude.{◌≡◌, ℕ, ◌+◌, ◌<◌, Bool, true, false, nat_lt, List, [], length, map, Option, slice_get, slice_index_or, if◌then◌else◌}
use Rattle.std.specs.List.{list_all, list_any}
use Rattle.std.specs.Option.{option_map_or}
use Rattle.yard_model.specs.declared.event.Command.{Command}
use Rattle.yard_model.specs.declared.fact.Fact.{Fact}
use Rattle.yard_model.specs.declared.incarnation.Incarnation.{Incarnation}
use Rattle.yard_model.specs.declared.packet.Record.{Record}
use Rattle.yard_model.specs.declared.state.State.{State}
use Rattle.yard_model.specs.Behaviour.{decide, empty_state, folded, is_valid}
use Rattle.yard_model.specs.Equal.{is_command, is_decision}
use Rattle.yard_model.specs.Genuine.{is_producer}
use Rattle.yard_model.specs.Script.{Script, is_name, is_upgrade, names_in, sends, setting}
use Rattle.yard_model.specs.declared.charter.Line.{Line}
use Rattle.yard_model.specs.Setting.{shard_of}
use Rattle.yard_model.specs.SlotLists.{SlotLists, shard_list}
use Rattle.yard_model.specs.SlotReads.{holder, journal}
use Rattle.yard_model.specs.Words.{at}
use Rattle.durable_queue.specs.Kept.{ArePlans, kept_of, place_of}
use Rattle.shard_store.specs.declared.store.Store.{Store}
use Rattle.shard_store.specs.Shelf.{Shelf}
use Rattle.shard_store.specs.Stores.{AreHomes, Shelves, entries_at}

-- this name stands at that place
pub record IsPlaced (names : List (List ℕ)) (k : ℕ) (e : List ℕ) : Type 0 where
  pub within : k < length names
  pub it : slice_index_or names k [] ≡ e
  pub place : k ≡ place_of names e
  pub named : list_any (is_name e) names ≡ true

-- the record's events and reply are what is decided on its command
abbrev pub is_answer_in : ℕ → State → Record → Bool
is_answer_in v st r = is_decision (decide v st r.command) (record { events = r.events; reply = r.reply })

-- the version, 1 or 2, that decides as this one
abbrev pub one_or_two : ℕ → ℕ
one_or_two v = if nat_lt v 2 then 1 else 2

abbrev pub is_command_at : List Command → ℕ → Command → Bool
is_command_at commands n k = option_map_or (is_command k) (slice_get commands n) false

-- of which script and producer it is
pub record PlanOf : Type 0 where
  pub script : Script
  pub producer : ℕ

-- the commands to each name are kept
pub record IsPlan (c : Script) (p : ℕ) (commands : List (List Command)) : Type 0 where
  pub sized : length commands ≡ length (names_in c.orders)
  pub plans : ArePlans (names_in c.orders) commands (sends c p)

-- a plan of each producer
pub record ArePlanned (c : Script) (plans : List PlanOf) : Type 0 where
  pub sized : length plans ≡ c.config.producers
  pub each : (i : ℕ) (d : PlanOf) → i < length plans → slice_index_or plans i d ≡ record { script = c; producer = i + 1 }

-- of the first n producers
pub record AreSoFar (c : Script) (n : ℕ) (plans : List PlanOf) : Type 0 where
  pub sized : length plans ≡ n
  pub each : (i : ℕ) (d : PlanOf) → i < n → slice_index_or plans i d ≡ record { script = c; producer = i + 1 }

-- what the journal of a name leads to
abbrev pub state_of : Script → List (Option Store) → List ℕ → State
state_of c places e = folded c.config.kind (journal e (entries_at places (shard_of (setting c) e)))

-- the state of each name
pub record AreStates (c : Script) (places : List (Option Store)) (states : List State) : Type 0 where
  pub sized : length states ≡ length (names_in c.orders)
  pub valid : list_all (is_valid c.config.kind) states ≡ true
  pub each : (e : List ℕ) → list_any (is_name e) (names_in c.orders) ≡ true → kept_of (names_in c.orders) states (empty_state c.config.kind) e ≡ state_of c places e

-- who holds each slot
pub record AreHolders (places : List (Option Store)) (holders : List (Option Incarnation)) : Type 0 where
  pub sized : length holders ≡ length places
  pub each : (k : ℕ) → k < length places → at holders k ≡ holder (entries_at places k)

-- whether the script goes over to version 2
abbrev pub goes_over : Script → Bool
goes_over c = list_any (λ (l : Line). is_upgrade l.order) c.orders

pub record IsKept (c : Script) (upgrades : Bool) (names : List (List ℕ)) (stores : Shelves) (plans : List PlanOf) (states : List State) : Type 0 where
  pub script_is : stores.script ≡ c
  pub names_are : names ≡ names_in c.orders
  pub upgrades_are : upgrades ≡ goes_over c
  pub plans_are : ArePlanned c plans
  pub states_are : AreStates c stores.places states

-- a shard's store, as its list is seen
pub record IsShardOf (c : Script) (lists : SlotLists) (s : ℕ) (x : Shelf) : Type 0 where
  pub script : x.script ≡ c
  pub shard : x.shard ≡ s
  pub list : x.entries ≡ shard_list lists s
