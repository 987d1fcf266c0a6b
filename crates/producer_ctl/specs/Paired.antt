-- What is kept of a pair of producer and entity.
use Rattle.std.specs.Prelude.{◌≡◌, ℕ, ◌+◌, ◌<◌, ◌≤◌, Bool, true, false, nat_lt, List, [], length, slice_index_or}
use Rattle.yard_model.specs.declared.fact.Fact.{Fact}
use Rattle.yard_model.specs.Producer.{Progress}
use Rattle.yard_model.specs.Script.{Script, setting}
use Rattle.yard_model.specs.Setting.{place}
use Rattle.yard_model.specs.SlotReads.{queued, confirmed}
use Rattle.place_set.specs.Places.{Places, is_in}
use Rattle.send_window.specs.declared.pair.Pair.{Pair}
use Rattle.producer_ctl.specs.declared.place.Place.{Place}

abbrev pub no_pair : Pair
no_pair = record { demand = 0; sent = 0; queued = 0; confirmed = 0 }

abbrev pub progress_of : Pair → Progress
progress_of k = record { demand = k.demand; sent = k.sent }

-- what the queue's list says of the pair is at hand; demand isn't above the confirmed number and the window
pub record IsPair (window : ℕ) (e : List ℕ) (entries : List Fact) (k : Pair) : Type 0 where
  pub queued_is : k.queued ≡ queued e entries
  pub confirmed_is : k.confirmed ≡ confirmed e entries
  pub bounded : k.demand ≤ k.confirmed + window

-- a command is queued that isn't confirmed
abbrev pub is_waiting : Pair → Bool
is_waiting k = nat_lt k.confirmed k.queued

-- the set has the places of the pairs that wait
pub record AreMarked (pairs : List Pair) (waiting : Places) : Type 0 where
  pub bound_is : waiting.bound ≡ length pairs
  pub each : (i : ℕ) → i < length pairs → is_in waiting i ≡ is_waiting (slice_index_or pairs i no_pair)

-- room for so many pairs, none of which is written
pub record IsBlank (names : ℕ) (pairs : List Pair) (room : ℕ) (waiting : Places) : Type 0 where
  pub empty : pairs ≡ []
  pub fits : names ≤ room
  pub bound_is : waiting.bound ≡ names

-- the least place from the first on, below n, of which p holds; n where there is none
pub record IsNext (p : ℕ → Bool) (first n i : ℕ) : Type 0 where
  pub from_first : first ≤ i
  pub within : i ≤ n
  pub holds : i < n → p i ≡ true
  pub passed : (k : ℕ) → first ≤ k → k < i → p k ≡ false

-- once the queue is granted
abbrev pub new_pair : List ℕ → List Fact → Pair
new_pair e entries = record { demand = 0; sent = 0; queued = queued e entries; confirmed = confirmed e entries }

abbrev pub name_at : List (List ℕ) → ℕ → List ℕ
name_at names i = slice_index_or names i []

-- where a name of the script stands among its names
pub record IsPlace (c : Script) (p : Place) : Type 0 where
  pub within : p.at < length (setting c).names
  pub it : name_at (setting c).names p.at ≡ p.entity
  pub at_is : p.at ≡ place (setting c) p.entity
