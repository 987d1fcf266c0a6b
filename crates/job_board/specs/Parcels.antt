-- What a contract sees of the packets, and how it is kept.
use Rattle.std.specs.Prelude.{◌≡◌, ℕ, ◌+◌, ◌-◌, ◌<◌, ◌≤◌, true, false, List, [], ◌∷◌, length, filter, Option, Some, None}
use Rattle.place_set.specs.Places.{Places, is_in}
use Rattle.yard_model.specs.Words.{numbers}
use Rattle.yard_model.specs.World.{wire_limit}
use Rattle.job_board.specs.declared.parcel.Parcel.{Parcel}

pub record Parcels : Type 0 where
  pub posted : List Parcel  -- from number 1
  pub fresh : List ℕ  -- the numbers that were never delivered, rising

-- of n packets, the numbers of those whose place is in the set
abbrev pub fresh_of : Places → ℕ → List ℕ
fresh_of set n = filter (λ k. is_in set (k - 1)) (numbers 1 n)

abbrev pub lowest : List ℕ → Option ℕ
lowest [] = None
lowest (k ∷ ks) = Some k

-- the set has the place behind the last packet, and none below the base
pub record IsParcels (posted : List Parcel) (fresh : Places) (base : ℕ) : Type 0 where
  pub bound_is : fresh.bound ≡ wire_limit + 1
  pub few : length posted ≤ wire_limit
  pub base_is : base ≤ length posted
  pub below : (i : ℕ) → i < base → is_in fresh i ≡ false
  pub end : is_in fresh (length posted) ≡ true
