-- What the passes of a table have, as the tests go along.
use Rattle.std.specs.Prelude.{◌≡◌, ◌≢◌, ℕ, ◌≤◌, Bool, true, false, List, [], ◌∷◌, ◌++◌, None, Some}
use Rattle.std.specs.List.{list_all}
use Rattle.atomic_table.specs.Seated.{TableId}
use Rattle.yard_model.specs.declared.charter.Order.TheVariants as order
use Rattle.yard_model.specs.declared.event.Kind.TheVariants as kind
use Rattle.yard_model.specs.declared.fact.Fact.{Fact}
use Rattle.yard_model.specs.declared.fact.Fact.TheVariants as fact
use Rattle.yard_model.specs.declared.incarnation.Incarnation.{Incarnation}
use Rattle.yard_model.specs.declared.incarnation.Slot.{Slot}
use Rattle.yard_model.specs.Genuine.{is_slot_of}
use Rattle.yard_model.specs.Lawful.{is_held}
use Rattle.yard_model.specs.Script.{Script}
use Rattle.yard_model.specs.Words.{at}
use Rattle.shard_store.specs.declared.store.Store.{Store}
use Rattle.shard_store.specs.Stores.{script_of, slot_of, entries_of, spare_of, place_of}
use Rattle.shard_lease.specs.declared.leases.Acquire.{Acquire}
use Rattle.shard_lease.specs.declared.leases.Acquire.TheVariants as answer
use Rattle.shard_lease.specs.Meaning.{Begins, confirms}
use Rattle.lease_table.specs.Fits.{is_within, admits, is_fit}
use Rattle.lease_table.specs.Leasing.{Pass, Idle}

-- two nodes, each of which may have the queue of producer 1
abbrev pub two_nodes : Script
two_nodes = record {
  config = record { nodes = 2; shards = 10; producers = 2; buffer = 100; window = 50; snapshot = 100; keep = 2; remember = true; kind = kind.Counter };
  orders = record { number = 2; order = order.Produce 1 1 } ∷ record { number = 3; order = order.Produce 1 2 } ∷ [];
}

-- it may ask for the slot
pub record MayAsk (who : Incarnation) (s : Slot) : Type 0 where
  pub slot : is_slot_of two_nodes s ≡ true
  pub number : is_within who.number ≡ true
  pub admitted : admits two_nodes who.node s ≡ true

-- the pass of node n holds this slot alone, and its store, which the pass may give back
pub record Holding (z : TableId) (n : ℕ) (s : Slot) (x : Store) (p : Pass) : Type 0 where
  pub table : p.table ≡ z
  pub charter : p.view.charter ≡ two_nodes
  pub numbers : p.view.numbers ≡ n ∷ []
  pub list : List Fact
  pub held : at p.view.held (place_of two_nodes.config s) ≡ Some list
  pub others : (k : ℕ) → k ≢ place_of two_nodes.config s → at p.view.held k ≡ None
  pub extends : Begins list (entries_of x)
  pub confirmed : (e : List ℕ) (q m : ℕ) → confirms e q m (entries_of x) ≡ true → confirms e q m list ≡ true
  pub fit : list_all (is_fit two_nodes s) (entries_of x) ≡ true
  pub leased : is_held (entries_of x) ≡ true
  pub script : script_of x ≡ two_nodes
  pub slot : slot_of x ≡ s

-- what a pass that holds nothing has once it asked
abbrev pub Asked : TableId → Incarnation → Slot → Acquire → Pass → Type 0
Asked z who s (answer.Granted x) p = Holding z who.node s x p
Asked z who s (answer.Held h) p = Idle z two_nodes who.node p

-- of a region
abbrev pub is_of_region : Fact → Bool
is_of_region (fact.Registered r) = is_within r.number
is_of_region (fact.Terminated r) = is_within r.number
is_of_region f = false

-- the store with entries more, of regions alone, and a spare for a release
pub record Wrote (x y : Store) : Type 0 where
  pub script : script_of y ≡ script_of x
  pub slot : slot_of y ≡ slot_of x
  pub more : List Fact
  pub entries : entries_of y ≡ entries_of x ++ more
  pub regions : list_all is_of_region more ≡ true
  pub spare : 101 ≤ spare_of y
