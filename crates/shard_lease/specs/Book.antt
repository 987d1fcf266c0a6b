-- What a contract sees of a book of leases.
use Rattle.std.specs.Prelude.{◌≡◌, ℕ, ◌+◌, ◌<◌, Bool, true, false, ◌==◌, ◌&&◌, List, [], length, Option, Some, None, if◌then◌else◌}
use Rattle.std.specs.Option.{option_map_or}
use Rattle.yard_model.specs.declared.incarnation.Incarnation.{Incarnation}
use Rattle.yard_model.specs.declared.incarnation.Slot.{Slot}
use Rattle.yard_model.specs.Behaviour.{is_in}
use Rattle.yard_model.specs.Genuine.{is_node, is_slot_of}
use Rattle.yard_model.specs.Lawful.{is_held}
use Rattle.yard_model.specs.Script.{Script, IsScript}
use Rattle.yard_model.specs.Words.{at}
use Rattle.shard_store.specs.declared.store.Store.{Store}
use Rattle.shard_store.specs.declared.store.StoreRef.{StoreRef}
use Rattle.shard_store.specs.Stores.{entries_in, entries_of, script_of, slot_of, entries_of_ref, script_of_ref, slot_of_ref, place_of, slot_at, IsHome}
use Rattle.shard_lease.specs.Meaning.{Known, Meaning}

-- by place: the store of each slot that nobody holds, and the holder of each other
pub record Book : Type 0 where
  pub script : Script
  pub places : List (Option Store)
  pub holders : List (Option Incarnation)

-- a slot has its store, which isn't leased, or a holder
abbrev pub IsPlace : Script → Slot → Option Store → Option Incarnation → Type 0
IsPlace c s (Some x) None = IsHome c s x × (is_held (entries_in (Some x)) ≡ false)
IsPlace c s None (Some who) = is_node c who ≡ true
IsPlace c s o h = ⊥

pub record IsBook (b : Book) : Type 0 where
  pub script_is : IsScript b.script
  pub all : length b.places ≡ b.script.config.shards + b.script.config.producers + 1
  pub holders_all : length b.holders ≡ length b.places
  pub each : (k : ℕ) → k < length b.places → IsPlace b.script (slot_at b.script.config k) (at b.places k) (at b.holders k)

-- what it tells of one of its slots
abbrev pub known_at : Book → ℕ → Known
known_at b k = record { holder = at b.holders k; list = entries_in (at b.places k) }

abbrev pub is_of_node : ℕ → Option Incarnation → Bool
is_of_node n h = option_map_or (λ x. x.node == n) h false

abbrev pub tells_of : Book → Slot → Option Known
tells_of b s = if is_slot_of b.script s then Some (known_at b (place_of b.script.config s)) else None

abbrev pub holds_of : Book → ℕ → Slot → Bool
holds_of b n s = is_slot_of b.script s && is_of_node n (at b.holders (place_of b.script.config s))

-- it serves each incarnation of the charter's nodes, admits each of these nodes to each of the charter's slots, vouches for all, and tells of each slot, so that it makes no claims
abbrev pub meaning_of : Book → Meaning
meaning_of b = record {
  name = [];
  script = b.script;
  within = λ n. true;
  serves = is_node b.script;
  admits = λ n s. is_in 1 b.script.config.nodes n && is_slot_of b.script s;
  holds = holds_of b;
  told = λ s. [];
  seen = λ s. [];
  vouches = λ e p n. true;
  tells = tells_of b;
  claims = 0;
  found = 0;
}

-- a store, as it is lent
pub record IsLent (x : Store) (lent : StoreRef) : Type 0 where
  pub script_is : script_of_ref lent ≡ script_of x
  pub slot_is : slot_of_ref lent ≡ slot_of x
  pub entries_are : entries_of_ref lent ≡ entries_of x

abbrev pub AreLent : Option Store → Option StoreRef → Type 0
AreLent None None = Unit {0}
AreLent (Some x) (Some lent) = IsLent x lent
AreLent o r = ⊥
