-- The registered regions and the homes of the shards, as they are kept at hand.
use Rattle.std.specs.Prelude.{◌≡◌, ℕ, ◌<◌, ◌≤◌, Bool, true, false, not, List, length, map, Option, Some, None, if◌then◌else◌}
use Rattle.std.specs.List.{All, AllPairs}
use Rattle.yard_model.specs.declared.incarnation.Incarnation.{Incarnation}
use Rattle.yard_model.specs.declared.load.Load.{Load}
use Rattle.yard_model.specs.ShardSet.{has}
use Rattle.yard_model.specs.Words.{is_same, is_at, is_among, at}

-- what is seen of them
pub record Placed : Type 0 where
  pub regions : List Incarnation
  pub homes : List (Option Incarnation)  -- of each shard

abbrev pub regions_of : List Load → List Incarnation
regions_of loads = map (λ (l : Load). l.region) loads

-- a home after this region is lost
abbrev pub home_without : Incarnation → Option Incarnation → Option Incarnation
home_without r old = if is_at r old then None else old

abbrev pub is_of_other : Incarnation → Load → Bool
is_of_other r l = not (is_same r l.region)

-- the load has the shards whose home is its region
abbrev pub HasHomes : List (Option Incarnation) → Load → Type 0
HasHomes homes l = (s : ℕ) → s < 128 → has l.shards s ≡ is_at l.region (at homes s)

-- the load has no shard
abbrev pub HasNone : Load → Type 0
HasNone l = (s : ℕ) → has l.shards s ≡ false

-- no region stands twice
abbrev pub AreDifferent : List Incarnation → Type 0
AreDifferent xs = AllPairs (λ x y. is_same x y ≡ false) xs

-- each home is a registered region
abbrev pub AreRegistered : List (Option Incarnation) → List Incarnation → Type 0
AreRegistered homes regions = (s : ℕ) (r : Incarnation) → at homes s ≡ Some r → is_among r regions ≡ true

pub record AreHomes (homes : List (Option Incarnation)) (loads : List Load) : Type 0 where
  pub size : length homes ≡ 128
  pub each : All (HasHomes homes) loads
  pub registered : AreRegistered homes (regions_of loads)
  pub different : AreDifferent (regions_of loads)
  pub few : length loads ≤ 16
