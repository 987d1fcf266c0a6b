-- What a contract sees of a pass, and what the calls say.
use Rattle.std.specs.Prelude.{◌≡◌, ◌≢◌, ℕ, suc, ◌+◌, ◌<◌, ◌≤◌, ◌⊎◌, Bool, true, false, nat_lt, List, [], ◌∷◌, ◌++◌, length, Option, None, Some, map, flat_map, replicate, is_some, eqb}
use Rattle.std.specs.List.{list_any, list_all}
use Rattle.atomic_table.specs.Seated.{TableId}
use Rattle.atomic_table.specs.Table.{Me}
use Rattle.yard_model.specs.Script.{Script, IsScript}
use Rattle.yard_model.specs.declared.incarnation.Incarnation.{Incarnation}
use Rattle.yard_model.specs.declared.fact.Fact.{Fact}
use Rattle.yard_model.specs.declared.fact.Fact.TheVariants as fact
use Rattle.shard_store.specs.declared.store.Store.{Store}
use Rattle.shard_lease.specs.declared.leases.Acquire.{Acquire}
use Rattle.shard_lease.specs.declared.leases.Acquire.TheVariants as answer
use Rattle.lease_table.specs.Fits.{slot_count, is_within, is_fit, admits, Fits, recorded, home_of, AreConfirmed}
use Rattle.shard_lease.specs.Meaning.{Begins, confirms}
use Rattle.yard_model.specs.Lawful.{is_held}
use Rattle.yard_model.specs.SlotReads.{epoch}
use Rattle.shard_store.specs.Stores.{script_of, slot_of, entries_of, spare_of, slot_at, entries_in, entries_at}
use Rattle.lease_table.specs.declared.View.{View}
use Rattle.lease_table.specs.Lists.{seen_at, Has}
use Rattle.yard_model.specs.Words.{at, numbers}
use Rattle.lease_table.specs.Rule.{IsFree, down}
use Rattle.lease_table.specs.Tells.{won, missed, tied, united, fresh_view}

pub record Pass : Type 0 where
  pub table : TableId
  pub view : View

abbrev pub pass : TableId → View → Pass
pass z v = record { table = z; view = v }

-- a slot that is out with a pass, without its store
abbrev pub empty : ℕ → ℕ × Option Store
empty k = (k, None)

abbrev pub counted : List (Option (List Fact)) → ℕ
counted [] = 0
counted (None ∷ xs) = counted xs
counted (Some x ∷ xs) = suc (counted xs)

-- of the seat's own state, and the slots in the order in which they are out
pub record IsPass (c : Script) (me : Me (Option Store) View) (order : List ℕ) (capacity : ℕ) : Type 0 where
  pub carried : me.1 ≡ map empty order
  pub charter : me.0.charter ≡ c
  pub live : me.0.spent ≡ false
  pub helds : length me.0.held ≡ slot_count c
  pub seens : length me.0.seen ≡ slot_count c
  pub oldss : length me.0.olds ≡ slot_count c
  pub listed : (k : ℕ) → is_some (at me.0.held k) ≡ true → list_any (eqb k) order ≡ true
  pub count : length order ≡ counted me.0.held
  pub room : slot_count c ≤ capacity

-- it has something of each slot
pub record Spans (v : View) : Type 0 where
  pub helds : length v.held ≡ slot_count v.charter
  pub seens : length v.seen ≡ slot_count v.charter
  pub oldss : length v.olds ≡ slot_count v.charter

-- the pass may act for it at the slot
pub record MayAct (v : View) (who : Incarnation) (k : ℕ) : Type 0 where
  pub slot : k < slot_count v.charter
  pub number : Has who.node v.numbers
  pub limit : is_within who.number ≡ true
  pub admitted : admits v.charter who.node (slot_at v.charter.config k) ≡ true

pub record Took (v : View) (who : Incarnation) (k : ℕ) (x : Store) (w : View) : Type 0 where
  pub hist : List Fact
  pub now : w ≡ won v k hist
  pub held : at w.held k ≡ Some hist
  pub seen : Begins (seen_at v.seen k) hist
  pub olds : (y : List Fact) → Has y (seen_at v.olds k) → Begins y hist
  pub closed : is_held hist ≡ false
  pub log : (entries_of x) ≡ hist ++ fact.Granted (slot_at v.charter.config k) (epoch hist + 1) who ∷ []
  pub spare : 99 ≤ (spare_of x)
  pub script : script_of x ≡ v.charter
  pub slot : slot_of x ≡ slot_at v.charter.config k
  pub own : Fits v.charter k (entries_of x)

pub record Refused (v : View) (k h : ℕ) (w : View) : Type 0 where
  pub now : w ≡ missed v h
  pub some_node : h ≢ 0
  pub other : Has h v.numbers → ⊥
  pub admitted : admits v.charter h (slot_at v.charter.config k) ≡ true

abbrev pub Answers : View → Incarnation → ℕ → Acquire → View → Type 0
Answers v who k (answer.Granted x) w = Took v who k x w
Answers v who k (answer.Held h) w = Refused v k h w

-- the pass may publish this list
pub record MayPublish (v : View) (k : ℕ) (log : List Fact) : Type 0 where
  pub old : List Fact
  pub held : at v.held k ≡ Some old
  pub extends : Begins old log
  pub vouched : (e : List ℕ) (p n : ℕ) → confirms e p n log ≡ true → (confirms e p n old ≡ true) ⊎ (recorded e p n (seen_at v.seen (home_of v.charter e)) ≡ true)
  pub own : Fits v.charter k log

-- the pass may give the store back
pub record MayRelease (v : View) (k : ℕ) (x : Store) : Type 0 where
  pub old : List Fact
  pub held : at v.held k ≡ Some old
  pub extends : Begins old (entries_of x)
  pub vouched : (e : List ℕ) (p n : ℕ) → confirms e p n (entries_of x) ≡ true → (confirms e p n old ≡ true) ⊎ (recorded e p n (seen_at v.seen (home_of v.charter e)) ≡ true)
  pub fit : list_all (is_fit v.charter (slot_at v.charter.config k)) (entries_of x) ≡ true
  pub leased : is_held (entries_of x) ≡ true
  pub script : script_of x ≡ v.charter
  pub slot : slot_of x ≡ slot_at v.charter.config k
  pub spare : 101 ≤ (spare_of x)

-- every number is the pass's, and it holds nothing
pub record Closes (c : Script) (v : View) : Type 0 where
  pub numbers : (n : ℕ) → n ≢ 0 → n ≤ c.config.nodes → Has n v.numbers
  pub nothing : (k : ℕ) → at v.held k ≡ None

-- each slot's store lies at rest, lawful, and extends what the pass has seen
pub record ClosedAt (c : Script) (v : View) (k : ℕ) (o : Option Store) : Type 0 where
  pub store : Store
  pub there : o ≡ Some store
  pub rests : IsFree c k (entries_of store) store
  pub own : Fits c k (entries_of store)
  pub seen : Begins (seen_at v.seen k) (entries_of store)
  pub olds : (y : List Fact) → Has y (seen_at v.olds k) → Begins y (entries_of store)

pub record Closed (c : Script) (v : View) (xs : List (Option Store)) : Type 0 where
  pub script : IsScript c
  pub all : length xs ≡ slot_count c
  pub confirmed : AreConfirmed c (entries_at xs)
  pub each : (k : ℕ) → k < slot_count c → ClosedAt c v k (at xs k)

pub record IsNote (me : Me (Option Store) View) : Type 0 where
  pub carried : me.1 ≡ []
  pub nothing : me.0.held ≡ []
  pub numbers : me.0.numbers ≡ []
  pub live : me.0.spent ≡ false

-- the seen list of a slot after a meet
pub record Met (v w : View) (k : ℕ) (u : View) : Type 0 where
  pub now : u ≡ tied (united v w) k
  pub mine : Begins (seen_at v.seen k) (seen_at u.seen k)
  pub theirs : Begins (seen_at w.seen k) (seen_at u.seen k)

-- the lists are lawful, and none is leased
pub record Ready (c : Script) (xs : List (Option Store)) : Type 0 where
  pub free : (k : ℕ) → k < slot_count c → is_held (entries_at xs k) ≡ false
  pub own : (k : ℕ) → k < slot_count c → Fits c k (entries_at xs k)
  pub confirmed : AreConfirmed c (entries_at xs)

abbrev pub lists_in : List (Option Store) → List (List Fact)
lists_in xs = map entries_in xs

-- the first view of the node n's pass, which has seen these lists
abbrev pub fresh : Script → List (List Fact) → ℕ → View
fresh c ls n = fresh_view c ls (n ∷ [])

-- the passes of the first n nodes, the last node's first
abbrev pub dealt_from : TableId → Script → List (List Fact) → ℕ → List Pass
dealt_from z c ls n = map (λ m. pass z (fresh c ls m)) (down n)

-- the passes of n nodes from the node k on, by rising node
abbrev pub dealt_on : TableId → Script → List (List Fact) → ℕ → ℕ → List Pass
dealt_on z c ls k n = map (λ m. pass z (fresh c ls m)) (numbers k n)

-- the passes of the nodes
abbrev pub dealt : TableId → Script → List (List Fact) → List Pass
dealt z c ls = dealt_on z c ls 1 c.config.nodes

abbrev pub length_in : Option Store → ℕ
length_in o = length (entries_in o)

-- its length fits 32 bits
abbrev pub is_short : Option Store → Bool
is_short o = nat_lt (length_in o) 4294967296

-- a head, and what lies behind it on its cache line
abbrev pub line_of : Option Store → List ℕ
line_of o = length_in o ∷ replicate 7 0

-- the words of a new table: no slot has an owner
abbrev pub words_of : ℕ → List (Option Store) → List ℕ
words_of n xs = replicate n 0 ++ flat_map line_of xs

-- the pass of the node n holds nothing
pub record Idle (z : TableId) (c : Script) (n : ℕ) (p : Pass) : Type 0 where
  pub table : p.table ≡ z
  pub charter : p.view.charter ≡ c
  pub numbers : p.view.numbers ≡ n ∷ []
  pub nothing : (k : ℕ) → at p.view.held k ≡ None
