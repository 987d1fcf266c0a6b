-- What a pool holds.
use Rattle.std.specs.Prelude.{ℕ, List, [], length, slice_index_or, sum_by, refl}
use Rattle.std.specs.Coded.{Coded, code_by, coded×, coded_list, coded_ℕ}

-- a list for each key, oldest first, and how many items there is room for in all
pub record Keyed (A : Type 0) : Type 0 where
  pub lists : List (List A)
  pub cells : ℕ

module _ {A : Type 0} where
  abbrev pub keyed : List (List A) → ℕ → Keyed A
  keyed lists cells = record { lists = lists; cells = cells }

  abbrev pub keyed_code : Coded A → Coded (Keyed A)
  keyed_code c = code_by (List (List A) × ℕ) (coded× (coded_list (coded_list c)) coded_ℕ) (λ k. (k.lists, k.cells)) (λ p. keyed p.0 p.1) (λ _. refl)

  -- the list of a key
  abbrev pub list_of : Keyed A → ℕ → List A
  list_of k key = slice_index_or k.lists key []

  -- how many items there are in all
  abbrev pub held : Keyed A → ℕ
  held k = sum_by length k.lists
