-- What a summary keeps of the facts so far.
use Rattle.std.specs.Prelude.{◌≡◌, ◌<◌, ◌+◌, ℕ, List, [], ◌∷◌, length, count_by, slice_index_or, if◌then◌else◌}
use Rattle.std.specs.List.{list_any, flat_map, position_or_len}
use Rattle.std.specs.List.Sorted.{IsStrictlySortedBy}
use Rattle.std.specs.Ordering.{nat_cmp}
use Rattle.std.specs.Cmp.Lexicographic.{slice_cmp}
use Rattle.yard_model.specs.Script.{is_name}
use Rattle.yard_model.specs.declared.fact.Fact.{Fact}
use Rattle.yard_model.specs.declared.incarnation.Stamp.{Stamp}
use Rattle.bulk_gen.specs.SummaryText.{Confirmation, confirmed_in, is_of_pair, is_sent, is_wrote, stamps, sum_of_last}

-- the last number of the pair of x, 0 where there is none
abbrev pub last_of : Confirmation → List Confirmation → ℕ
last_of x [] = 0
last_of x (y ∷ ys) = if list_any (is_of_pair x) ys then last_of x ys else if is_of_pair x y then y.number else 0

-- names, a row of numbers for each, and a sum
pub record Sums : Type 0 where
  pub names : List (List ℕ)
  pub rows : List (List ℕ)  -- in a row that of producer p stands at place p
  pub sum : ℕ

-- the script's names rise, and each of them, and of the others, has its row
pub record IsTable (names others : List (List ℕ)) (rows : List (List ℕ)) : Type 0 where
  pub sorted : IsStrictlySortedBy (slice_cmp nat_cmp) names
  pub sized : length rows ≡ length names + length others

-- the first place of the name
pub record IsPlace (names : List (List ℕ)) (e : List ℕ) (k : ℕ) : Type 0 where
  pub within : k < length names
  pub first : position_or_len (is_name e) names ≡ k

-- the number of a pair, 0 where there is none
abbrev pub number_of : Sums → ℕ → List ℕ → ℕ
number_of c p e = slice_index_or (slice_index_or c.rows (position_or_len (is_name e) c.names) []) p 0

pub record AreConfirmed (c : Sums) (xs : List Confirmation) : Type 0 where
  pub each : (x : Confirmation) → number_of c x.producer x.entity ≡ last_of x xs
  pub sum : c.sum ≡ sum_of_last xs

-- what a summary keeps
pub record Tally : Type 0 where
  pub facts : ℕ
  pub packets : ℕ
  pub records : ℕ
  pub confirmed : Sums
  pub stamps : List Stamp

-- what is kept is that of these facts
pub record IsSummary (s : Tally) (told : List Fact) : Type 0 where
  pub facts : s.facts ≡ length told
  pub packets : s.packets ≡ count_by is_sent told
  pub records : s.records ≡ count_by is_wrote told
  pub confirmed : AreConfirmed s.confirmed (flat_map confirmed_in told)
  pub moved : s.stamps ≡ stamps told
