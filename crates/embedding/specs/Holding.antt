-- What a pass of the lease table has, between the steps of a turn.
use Rattle.std.specs.Prelude.{◌≡◌, ◌≢◌, ℕ, ◌<◌, true, false, List, [], ◌∷◌, Option, None, Some}
use Rattle.std.specs.List.{list_all}
use Rattle.atomic_table.specs.Seated.{TableId}
use Rattle.yard_model.specs.declared.fact.Fact.{Fact}
use Rattle.yard_model.specs.declared.incarnation.Incarnation.{Incarnation}
use Rattle.yard_model.specs.declared.incarnation.Slot.TheVariants as slot
use Rattle.yard_model.specs.Behaviour.{is_in}
use Rattle.yard_model.specs.Lawful.{is_held, own}
use Rattle.yard_model.specs.Words.{at}
use Rattle.shard_store.specs.declared.store.Store.{Store}
use Rattle.shard_store.specs.Stores.{script_of, slot_of, entries_of, entries_at, slot_at}
use Rattle.shard_lease.specs.declared.leases.Acquire.{Acquire}
use Rattle.shard_lease.specs.declared.leases.Acquire.TheVariants as answer
use Rattle.shard_lease.specs.Meaning.{Begins, confirms}
use Rattle.lease_table.specs.Fits.{is_within, is_fit, slot_count}
use Rattle.lease_table.specs.Leasing.{Pass, Idle}
use Rattle.embedding.specs.Cluster.{cluster}

-- where the coordinator's slot stands: behind the one shard
abbrev pub place : ℕ
place = 1

-- of one of the two nodes, with a number that a table takes
pub record MayAsk (who : Incarnation) : Type 0 where
  pub node : is_in 1 2 who.node ≡ true
  pub number : is_within who.number ≡ true

-- the pass of node n holds the coordinator's slot alone, and its store, which the pass may publish and give back
pub record Holding (z : TableId) (n : ℕ) (x : Store) (p : Pass) : Type 0 where
  pub table : p.table ≡ z
  pub charter : p.view.charter ≡ cluster
  pub numbers : p.view.numbers ≡ n ∷ []
  pub list : List Fact
  pub held : at p.view.held place ≡ Some list
  pub others : (k : ℕ) → k ≢ place → at p.view.held k ≡ None
  pub extends : Begins list (entries_of x)
  pub confirmed : (e : List ℕ) (q m : ℕ) → confirms e q m (entries_of x) ≡ true → confirms e q m list ≡ true
  pub fit : list_all (is_fit cluster slot.Coordinator) (entries_of x) ≡ true
  pub leased : is_held (entries_of x) ≡ true
  pub script : script_of x ≡ cluster
  pub slot : slot_of x ≡ slot.Coordinator

-- what a pass that holds nothing has once it asked
abbrev pub Asked : TableId → Incarnation → Acquire → Pass → Type 0
Asked z who (answer.Granted x) p = Holding z who.node x p
Asked z who (answer.Held h) p = Idle z cluster who.node p

-- the list of each slot is lawful by itself, and nobody holds the slot
pub record AreFree (places : List (Option Store)) : Type 0 where
  pub lawful : (k : ℕ) → k < slot_count cluster → own cluster (slot_at cluster.config k) (entries_at places k) ≡ true
  pub free : (k : ℕ) → k < slot_count cluster → is_held (entries_at places k) ≡ false
