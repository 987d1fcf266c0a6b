-- Sets of places, as the bits of words of 64.
use Rattle.std.specs.Prelude.{◌≡◌, ℕ, ◌*◌, ◌^◌, ◌≤◌, ◌/◌, ◌%◌, ◌==◌, Bool, List, length, slice_index_or}
use Rattle.std.specs.Int.{bit_at}

-- bit i of the word is 1
abbrev pub has_bit : ℕ → ℕ → Bool
has_bit word i = bit_at word i == 1

-- place i is in the set
abbrev pub has_place : List ℕ → ℕ → Bool
has_place words i = has_bit (slice_index_or words (i / 64) 0) (i % 64)

-- a set of places below a bound
pub record Places : Type 0 where
  pub bound : ℕ
  pub words : List ℕ

abbrev pub is_in : Places → ℕ → Bool
is_in s i = has_place s.words i

-- there is a word for each place
pub record IsPlaces (bound : ℕ) (words : List ℕ) : Type 0 where
  pub there : bound ≤ 64 * length words
  pub few : 64 * length words ≤ 2 ^ 64
