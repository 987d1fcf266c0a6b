-- How many sends each producer has to each name.
use Rattle.std.specs.Prelude.{◌≡◌, ℕ, ◌+◌, ◌<◌, ◌==◌, ◌&&◌, min, false, List, [], length, slice_index, slice_index_or, slice_set, replicate, Option, Some, None}
use Rattle.std.specs.Ordering.{nat_cmp}
use Rattle.std.specs.Cmp.Lexicographic.{slice_cmp}
use Rattle.std.specs.BTreeMap.{is_at}
use Rattle.std.specs.Map.{keys_of, lookup}
use Rattle.std.specs.List.Sorted.{IsStrictlySortedBy}
use Rattle.yard_model.specs.declared.counts.Row.{Row}
use Rattle.yard_model.specs.Script.{is_name}

-- the place of each name, and at each place the counts of its name
pub record Counted : Type 0 where
  pub places : List (List ℕ × ℕ)
  pub rows : List Row

-- the names, in the order of their bytes
abbrev pub names : Counted → List (List ℕ)
names c = keys_of c.places

-- the place of a name
abbrev pub place_of : Counted → List ℕ → Option ℕ
place_of c e = lookup (is_at (slice_cmp nat_cmp e)) c.places

-- nothing is counted
abbrev pub no_row : Row
no_row = record { name = []; counts = replicate 33 0 }

-- the counts at a place, if there is one
abbrev pub row_in : List Row → Option ℕ → Row
row_in rows None = no_row
row_in rows (Some i) = slice_index_or rows i no_row

-- how many sends of a producer to a name are counted
abbrev pub count_of : Counted → ℕ → List ℕ → ℕ
count_of c p e = slice_index (row_in c.rows (place_of c e)).counts p

-- one more of the producer p at this place
abbrev pub with_count : List Row → ℕ → ℕ → List Row
with_count rows i p =
    let was : Row = slice_index_or rows i no_row in
    slice_set rows i (record { name = was.name; counts = slice_set was.counts p (min (slice_index was.counts p + 1) 4294967295) })

-- each name has a place of its own
pub record IsCounted (c : Counted) : Type 0 where
  pub ordered : IsStrictlySortedBy (slice_cmp nat_cmp) (names c)
  pub each : (i : ℕ) → i < length c.rows → place_of c (slice_index_or c.rows i no_row).name ≡ Some i
  pub within : (e : List ℕ) (i : ℕ) → place_of c e ≡ Some i → i < length c.rows
  pub it : (e : List ℕ) (i : ℕ) → place_of c e ≡ Some i → (slice_index_or c.rows i no_row).name ≡ e

-- one send more of the producer p to the name e
pub record CountsOneMore (old new : Counted) (p : ℕ) (e : List ℕ) : Type 0 where
  pub here : count_of new p e ≡ min (count_of old p e + 1) 4294967295
  pub others : (q : ℕ) (f : List ℕ) → ((p == q) && is_name e f) ≡ false → count_of new q f ≡ count_of old q f

-- no send more
pub record CountsTheSame (old new : Counted) : Type 0 where
  pub each : (q : ℕ) (f : List ℕ) → count_of new q f ≡ count_of old q f

-- no names and no sends
pub record CountsNone (c : Counted) : Type 0 where
  pub names : names c ≡ []
  pub each : (q : ℕ) (f : List ℕ) → count_of c q f ≡ 0
