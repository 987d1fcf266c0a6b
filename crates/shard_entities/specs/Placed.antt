-- Where a name of a script stands.
use Rattle.std.specs.Prelude.{◌≡◌, ℕ, ◌+◌, ◌<◌, ◌==◌, true, zero, suc, List, length, filter, take, slice_index_or}
use Rattle.std.specs.List.Sorted.{IsStrictlySortedBy}
use Rattle.std.specs.Ordering.{nat_cmp}
use Rattle.std.specs.Cmp.Lexicographic.{slice_cmp}
use Rattle.yard_model.specs.Genuine.{is_brought}
use Rattle.yard_model.specs.Script.{Script, Setting, IsScript, setting}
use Rattle.yard_model.specs.Setting.{shard_of, names_of, place}
use Rattle.shard_store.specs.Shelved.{IsNamed, name_at}
use Rattle.shard_entities.specs.declared.place.Place.{Place}
use Rattle.shard_entities.specs.declared.places.Kept.{Kept}
use Rattle.shard_entities.specs.declared.places.Spot.{Spot}

pub record IsPlace (c : Script) (p : Place) : Type 0 where
  pub here : IsNamed (setting c).names p.at p.entity
  pub there : IsNamed (names_of (setting c) p.shard) p.inner p.entity
  pub shard_is : p.shard ≡ shard_of (setting c) p.entity
  pub at_is : p.at ≡ place (setting c) p.entity
  pub brought : is_brought c p.entity ≡ true
  pub shard_in : p.shard < c.config.shards

abbrev pub no_spot : Spot
no_spot = record { shard = 0; inner = 0 }

-- the place of the name at i, which stands so
abbrev pub place_of : Script → ℕ → Spot → Place
place_of c i x = record { entity = name_at (setting c).names i; shard = x.shard; at = i; inner = x.inner }

-- where the first k names stand
pub record AreFirst (c : Script) (k : ℕ) (spots : List Spot) : Type 0 where
  pub there : length spots ≡ k
  pub each : (i : ℕ) → i < k → IsPlace c (place_of c i (slice_index_or spots i no_spot))
  pub inner_is : (i : ℕ) → i < k → (slice_index_or spots i no_spot).inner ≡ length (filter (λ e. shard_of (setting c) e == (slice_index_or spots i no_spot).shard) (take i (setting c).names))

-- how many of the first k names are of each shard
pub record AreCounts (c : Script) (k : ℕ) (counts : List ℕ) : Type 0 where
  pub size : length counts ≡ 128
  pub each : (s : ℕ) → s < 128 → slice_index_or counts s 0 ≡ length (filter (λ e. shard_of (setting c) e == s) (take k (setting c).names))

-- where the names of a shard begin, shard after shard
abbrev pub start_of : Setting → ℕ → ℕ
start_of set zero = 0
start_of set (suc s) = start_of set s + length (names_of set s)

-- where those of the first n shards begin
pub record AreStarts (set : Setting) (n : ℕ) (starts : List ℕ) : Type 0 where
  pub there : length starts ≡ n
  pub each : (s : ℕ) → s < n → slice_index_or starts s 0 ≡ start_of set s

-- the place of a name of a shard among all names, shard after shard
abbrev pub place_in : Setting → List ℕ → ℕ → ℕ → ℕ
place_in set order s i = slice_index_or order (start_of set s + i) 0

-- the places of the first k names, shard after shard
pub record AreOrdered (c : Script) (k : ℕ) (order : List ℕ) : Type 0 where
  pub there : length order ≡ start_of (setting c) c.config.shards
  pub within : (s i : ℕ) → s < c.config.shards → i < length (filter (λ e. shard_of (setting c) e == s) (take k (setting c).names)) → place_in (setting c) order s i < k
  pub names_are : (s i : ℕ) → s < c.config.shards → i < length (filter (λ e. shard_of (setting c) e == s) (take k (setting c).names)) → name_at (setting c).names (place_in (setting c) order s i) ≡ name_at (names_of (setting c) s) i

-- all names, in order, each with its place; and shard after shard
pub record ArePlaces (c : Script) (names : List (List ℕ)) (spots : List Spot) (starts order : List ℕ) : Type 0 where
  pub script_is : IsScript c
  pub names_are : names ≡ (setting c).names
  pub sorted : IsStrictlySortedBy (slice_cmp nat_cmp) names
  pub first : AreFirst c (length (setting c).names) spots
  pub begin : AreStarts (setting c) (c.config.shards + 1) starts
  pub ordered : AreOrdered c (length (setting c).names) order

-- what the places of a script keep
abbrev pub AreKept : Kept → Type 0
AreKept k = ArePlaces k.script.value k.names k.spots.items k.starts.items k.order.items
