-- The commands that were accepted, by name and producer.
use Rattle.std.specs.Prelude.{◌≡◌, ℕ, ◌==◌, ◌&&◌, false, List, [], ◌∷◌, ◌++◌, slice_index_or, Option, Some, None}
use Rattle.std.specs.Ordering.{nat_cmp}
use Rattle.std.specs.Cmp.Lexicographic.{slice_cmp}
use Rattle.std.specs.BTreeMap.{is_at}
use Rattle.std.specs.BTreeSet.{insert_key}
use Rattle.std.specs.Map.{keys_of, lookup}
use Rattle.yard_model.specs.declared.event.Command.{Command}
use Rattle.yard_model.specs.Script.{is_name}

-- the lists of a name that is there
abbrev pub row_in : Option (List (List Command)) → List (List Command)
row_in None = []
row_in (Some row) = row

-- the commands of a producer to a name
abbrev pub kept_of : List (List ℕ × List (List Command)) → ℕ → List ℕ → List Command
kept_of rows p e = slice_index_or (row_in (lookup (is_at (slice_cmp nat_cmp e)) rows)) p []

-- one command more of the producer p
pub record RowHasOneMore (old new : List (List Command)) (p : ℕ) (k : Command) : Type 0 where
  pub here : slice_index_or new p [] ≡ slice_index_or old p [] ++ k ∷ []
  pub others : (q : ℕ) → (p == q) ≡ false → slice_index_or new q [] ≡ slice_index_or old q []

-- one command more of the producer p to the name e
pub record HasOneMore (old new : List (List ℕ × List (List Command))) (p : ℕ) (e : List ℕ) (k : Command) : Type 0 where
  pub names : keys_of new ≡ insert_key (slice_cmp nat_cmp) (keys_of old) e
  pub here : kept_of new p e ≡ kept_of old p e ++ k ∷ []
  pub others : (q : ℕ) (f : List ℕ) → ((p == q) && is_name e f) ≡ false → kept_of new q f ≡ kept_of old q f
