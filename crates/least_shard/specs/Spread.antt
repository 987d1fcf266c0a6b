-- The shares of the shards that the loads tell of.
use Rattle.std.specs.Prelude.{◌≡◌, ℕ, ◌+◌, ◌<◌, ◌≤◌, true, List, map, filter, length, slice_index_or}
use Rattle.yard_model.specs.declared.load.Load.{Load}
use Rattle.yard_model.specs.Loads.{no_load}
use Rattle.yard_model.specs.Words.{numbers, is_same}
use Rattle.yard_model.specs.ShardSet.{has}
use Rattle.yard_model.specs.Coordinator.{Share}

-- the shards below n that are in the set, rising
unfoldable pub members_below : ℕ → ℕ → List ℕ
members_below n set = filter (has set) (numbers 0 n)

-- the shards of the set, rising
unfoldable pub members : ℕ → List ℕ
members set = members_below 128 set

-- how many shards a region is the home of
abbrev pub count_of : Load → ℕ
count_of load = length (members load.shards)

-- a region's share, of which nothing is picked yet
abbrev pub share_of : Load → Share
share_of load = record { region = load.region; rest = members load.shards; count = count_of load }

abbrev pub shares_of : List Load → List Share
shares_of loads = map share_of loads

-- no two of the loads are of one region
abbrev pub AreOfDifferentRegions : List Load → Type 0
AreOfDifferentRegions loads = (i j : ℕ) → i < length loads → j < length loads → is_same (slice_index_or loads i no_load).region (slice_index_or loads j no_load).region ≡ true → i ≡ j

-- the counts differ by at most one
abbrev pub AreEven : List Load → Type 0
AreEven loads = (i j : ℕ) → i < length loads → j < length loads → count_of (slice_index_or loads i no_load) ≤ count_of (slice_index_or loads j no_load) + 1
