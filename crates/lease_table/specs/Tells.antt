-- What the steps tell.
use Rattle.std.specs.Prelude.{◌≡◌, ◌≢◌, ℕ, ◌+◌, ◌-◌, ◌/◌, ◌<◌, ◌≤◌, ◌^◌, true, false, List, [], ◌∷◌, ◌++◌, length, Option, None, Some, replicate, nat_lt, if◌then◌else◌}
use Rattle.atomic_table.specs.Table.{Me, Step, rest}
use Rattle.yard_model.specs.Script.{Script}
use Rattle.yard_model.specs.declared.fact.Fact.{Fact}
use Rattle.shard_store.specs.declared.store.Store.{Store}
use Rattle.lease_table.specs.Fits.{slot_count, admits, Fits}
use Rattle.shard_lease.specs.Meaning.{Begins}
use Rattle.shard_store.specs.Stores.{slot_at}
use Rattle.yard_model.specs.declared.event.Kind.TheVariants as kind
use Rattle.lease_table.specs.declared.View.{View}
use Rattle.lease_table.specs.Lists.{seen_at, Has}
use Rattle.std.specs.Prelude.{slice_set}
use Rattle.lease_table.specs.Rule.{IsFree, down}

-- the slot of which a head is
abbrev pub slot_of_head : Step (Option Store) → ℕ
slot_of_head s = (s.word - s.slots) / 8

abbrev pub SeatState : Type 0
SeatState = Me (Option Store) View

-- a view with these numbers, which holds nothing and has seen these lists
abbrev pub fresh_view : Script → List (List Fact) → List ℕ → View
fresh_view c ls ns = record { spent = false; charter = c; numbers = ns; held = replicate (slot_count c) None; seen = ls; olds = replicate (slot_count c) []; claims = 0; looks = 0; found = 0 }

-- the first seat has every number
abbrev pub opening_view : Script → List (List Fact) → View
opening_view c ls = fresh_view c ls (down c.config.nodes)

abbrev pub won : View → ℕ → List Fact → View
won v k h = record v { held = slice_set v.held k (Some h); seen = slice_set v.seen k h; claims = v.claims + 1; found = 0 }

abbrev pub missed : View → ℕ → View
missed v n = record v { claims = v.claims + 1; found = n }

abbrev pub published : View → ℕ → List Fact → View
published v k h = record v { held = slice_set v.held k (Some h); seen = slice_set v.seen k h }

abbrev pub freed : View → ℕ → View
freed v k = record v { held = slice_set v.held k None }

abbrev pub looked : View → ℕ → View
looked v n = record v { looks = v.looks + 1; found = n }

-- what a claim that wins tells
pub record Won (v : View) (c : List (ℕ × Option Store)) (k : ℕ) (m' : SeatState) : Type 0 where
  pub hist : List Fact
  pub store : Store
  pub now : m' ≡ (won v k hist, (k, Some store) ∷ c)
  pub rests : IsFree v.charter k hist store
  pub own : Fits v.charter k hist
  pub seen : Begins (seen_at v.seen k) hist
  pub olds : (y : List Fact) → Has y (seen_at v.olds k) → Begins y hist

pub record Missed (v : View) (c : List (ℕ × Option Store)) (k found : ℕ) (m' : SeatState) : Type 0 where
  pub now : m' ≡ (missed v found, c)
  pub admitted : admits v.charter found (slot_at v.charter.config k) ≡ true
  pub other : Has found v.numbers → ⊥

pub record Claimed (s : Step (Option Store)) (m : SeatState) (found : ℕ) (m' : SeatState) : Type 0 where
  pub hit : found ≡ 0 → Won m.0 m.1 s.word m'
  pub miss : found ≢ 0 → Missed m.0 m.1 s.word found m'

abbrev pub Published : List Fact → Step (Option Store) → SeatState → ℕ → SeatState → Type 0
Published h s m found m' = (m' ≡ (published m.0 (slot_of_head s) h, m.1)) × Begins (seen_at m.0.seen (slot_of_head s)) h

abbrev pub Freed : Step (Option Store) → SeatState → ℕ → SeatState → Type 0
Freed s m found m' = m' ≡ (freed m.0 s.word, rest m.1)

pub record Looked (s : Step (Option Store)) (m : SeatState) (found : ℕ) (m' : SeatState) : Type 0 where
  pub now : m' ≡ (looked m.0 found, m.1)
  pub least : length (seen_at m.0.seen (slot_of_head s)) ≤ found
  pub few : found < 2 ^ 32

abbrev pub first_of : List ℕ → ℕ
first_of [] = 0
first_of (x ∷ xs) = x

abbrev pub rest_of : {A : Type 0} → List A → List A
rest_of [] = []
rest_of (x ∷ xs) = xs

-- the first number moves to a new seat
abbrev pub dealt_left : View → View
dealt_left v = record v { numbers = rest_of v.numbers }

abbrev pub dealt_right : View → View
dealt_right v = record v { numbers = first_of v.numbers ∷ [] }

-- it has seen what the pass has, and has no number
abbrev pub noted : View → View
noted v = record { spent = v.spent; charter = v.charter; numbers = []; held = []; seen = v.seen; olds = v.olds; claims = 0; looks = 0; found = 0 }

-- the old lists of a slot, and what another has seen and was told of it
abbrev pub gathered : List (List (List Fact)) → List (List Fact) → List (List (List Fact)) → List (List (List Fact))
gathered [] ss ps = []
gathered (o ∷ os) ss ps = (o ++ seen_at ss 0 ∷ seen_at ps 0) ∷ gathered os (rest_of ss) (rest_of ps)

abbrev pub united : View → View → View
united v w = record v { numbers = v.numbers ++ w.numbers; olds = gathered v.olds w.seen w.olds }

abbrev pub no_script : Script
no_script = record { config = record { nodes = 0; shards = 0; producers = 0; buffer = 0; window = 0; snapshot = 0; keep = 0; remember = false; kind = kind.Counter }; orders = [] }

abbrev pub spent_view : View
spent_view = record { spent = true; charter = no_script; numbers = []; held = []; seen = []; olds = []; claims = 0; looks = 0; found = 0 }

-- the longest of them
abbrev pub longest : List Fact → List (List Fact) → List Fact
longest l [] = l
longest l (y ∷ ys) = longest (if nat_lt (length l) (length y) then y else l) ys

abbrev pub tied : View → ℕ → View
tied v k = record v { seen = slice_set v.seen k (longest (seen_at v.seen k) (seen_at v.olds k)); olds = slice_set v.olds k [] }

abbrev pub TiedAt : SeatState → SeatState → ℕ → Type 0
TiedAt m m' k = (m' ≡ (tied m.0 k, m.1)) × Begins (seen_at m.0.seen k) (longest (seen_at m.0.seen k) (seen_at m.0.olds k)) × ((y : List Fact) → Has y (seen_at m.0.olds k) → Begins y (longest (seen_at m.0.seen k) (seen_at m.0.olds k)))

abbrev pub Tied : Step (Option Store) → SeatState → ℕ → SeatState → Type 0
Tied s m found m' = TiedAt m m' s.word
