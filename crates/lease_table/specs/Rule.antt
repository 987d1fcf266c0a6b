-- The rule of the lease table.
-- The word k is the owner of the slot k, 0 or a node's number. The length of its list is a word behind those: the heads lie 8 words apart, each on a
-- cache line of its own, and no other word there is read.
use Rattle.std.specs.Prelude.{◌≡◌, ◌≢◌, ℕ, zero, suc, ◌+◌, ◌*◌, ◌<◌, ◌≤◌, ◌^◌, true, false, List, [], ◌∷◌, length, slice_index, Option, Some}
use mathlib.Core.Option as maybe
use lib.ListN.{get_elem?}
use Rattle.atomic_table.specs.Table.{State}
use Rattle.yard_model.specs.Script.{Script, IsScript}
use Rattle.yard_model.specs.declared.fact.Fact.{Fact}
use Rattle.shard_store.specs.declared.store.Store.{Store}
use Rattle.lease_table.specs.Fits.{slot_count, admits, Fits, AreConfirmed}
use Rattle.shard_lease.specs.Meaning.{Begins}
use Rattle.yard_model.specs.Lawful.{is_held}
use Rattle.shard_store.specs.Stores.{script_of, slot_of, entries_of, spare_of, slot_at}
use Rattle.lease_table.specs.declared.View.{View}
use Rattle.lease_table.specs.Lists.{seen_at, Has}
use Rattle.yard_model.specs.Words.{at}

abbrev pub TableState : Type 0
TableState = State (Option Store) View

-- where the head of the slot k stands, in a table of so many slots
abbrev pub head_at : ℕ → ℕ → ℕ
head_at slots k = slots + k * 8

-- the nodes' numbers, n and then those below it
abbrev pub down : ℕ → List ℕ
down zero = []
down (suc n) = suc n ∷ down n

-- the store lies at rest, with this list
pub record IsFree (c : Script) (k : ℕ) (h : List Fact) (x : Store) : Type 0 where
  pub log : (entries_of x) ≡ h
  pub spare : 100 ≤ (spare_of x)
  pub script : script_of x ≡ c
  pub slot : slot_of x ≡ slot_at c.config k
  pub closed : is_held h ≡ false

-- no node has it
abbrev pub AtHome : Script → TableState → ℕ → List Fact → Type 0
AtHome c s k h = (x : Store) × (get_elem? s.homes k ≡ maybe.some (maybe.some (Some x))) × IsFree c k h x

-- the node n has it
pub record LeasedTo (c : Script) (s : TableState) (seat : ℕ → ℕ) (k : ℕ) (h : List Fact) (n : ℕ) : Type 0 where
  pub away : get_elem? s.homes k ≡ maybe.some maybe.none
  pub view : View
  pub there : get_elem? s.views (seat n) ≡ maybe.some view
  pub held : at view.held k ≡ Some h
  pub number : Has n view.numbers
  pub admitted : admits c n (slot_at c.config k) ≡ true

pub record IsSlot (c : Script) (s : TableState) (seat : ℕ → ℕ) (k : ℕ) (h : List Fact) : Type 0 where
  pub head : slice_index s.words (head_at (slot_count c) k) ≡ length h
  pub few : length h < 2 ^ 32
  pub own : Fits c k h
  pub free : slice_index s.words k ≡ 0 → AtHome c s k h
  pub out : slice_index s.words k ≢ 0 → LeasedTo c s seat k h (slice_index s.words k)

-- it is leased to a number of the seat
pub record Holds (c : Script) (s : TableState) (hist : ℕ → List Fact) (seat : ℕ → ℕ) (id k : ℕ) (v : View) (l : List Fact) : Type 0 where
  pub inside : k < slot_count c
  pub leased : slice_index s.words k ≢ 0
  pub mine : seat (slice_index s.words k) ≡ id
  pub whole : l ≡ hist k
  pub seen : seen_at v.seen k ≡ hist k

pub record IsView (c : Script) (s : TableState) (hist : ℕ → List Fact) (seat : ℕ → ℕ) (id : ℕ) (v : View) : Type 0 where
  pub charter : v.spent ≡ false → v.charter ≡ c
  pub numbers : (n : ℕ) → Has n v.numbers → seat n ≡ id
  pub held : (k : ℕ) (l : List Fact) → at v.held k ≡ Some l → Holds c s hist seat id k v l
  pub seen : (k : ℕ) → k < slot_count c → Begins (seen_at v.seen k) (hist k)
  pub olds : (k : ℕ) → k < slot_count c → (y : List Fact) → Has y (seen_at v.olds k) → Begins y (hist k)

-- there is one list for each slot, and a seat for each number
pub record IsTable (c : Script) (s : TableState) : Type 0 where
  pub script : IsScript c
  pub hist : ℕ → List Fact
  pub seat : ℕ → ℕ
  pub confirmed : AreConfirmed c hist
  pub wide : length s.words ≡ head_at (slot_count c) (slot_count c)
  pub slots : (k : ℕ) → k < slot_count c → IsSlot c s seat k (hist k)
  pub views : (id : ℕ) (v : View) → get_elem? s.views id ≡ maybe.some v → IsView c s hist seat id v
