-- Tables of nodes.
use Rattle.std.proofs.Common.{◌≡◌, ℕ, zero, suc, List, [], ◌∷◌, length, map, ap, ap₂, refl, arith}
use Rattle.std.specs.Prelude.{Option}
use Rattle.std.specs.Option.{option_map}
use Rattle.yard_model.specs.Words.{at}

pub at_map : {A : Type 0} (g : A → A) (xs : List (Option A)) (j : ℕ) → at (map (option_map g) xs) j ≡ option_map g (at xs j)
at_map g [] zero = refl
at_map g [] (suc j) = refl
at_map g (x ∷ xs) zero = refl
at_map g (x ∷ xs) (suc j) = at_map g xs j

pub length_map : {A B : Type 0} (g : A → B) (xs : List A) → length (map g xs) ≡ length xs
length_map g [] = refl
length_map g (x ∷ xs) = ap suc (length_map g xs)

-- tables with the same at each place
pub same_table : {A : Type 0} (xs ys : List (Option A)) → length xs ≡ length ys → ((j : ℕ) → at xs j ≡ at ys j) → xs ≡ ys
same_table [] [] e h = refl
same_table [] (y ∷ ys) e h = absurd (omega (arith, e))
same_table (x ∷ xs) [] e h = absurd (omega (arith, e))
same_table (x ∷ xs) (y ∷ ys) e h = ap₂ (λ a l. a ∷ l) (h zero) (same_table xs ys (omega (arith, e)) (λ j. h (suc j)))
