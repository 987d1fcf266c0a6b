-- Views, member by member.
use Rattle.std.specs.Prelude.{slice_get, Some, None}
use Rattle.std.proofs.Common.{◌≡◌, ℕ, zero, suc, ◌+◌, List, [], ◌∷◌, ◌++◌, take, refl, ap, map, arith}

next_at : {A B : Type 0} (f : A → B) (xs : List A) (k j : ℕ) (x : A) → j ≡ k + 1 → slice_get xs k ≡ Some x → map f (take j xs) ≡ map f (take k xs) ++ f x ∷ []
next_at {A} f [] k j x n e = absurd (none_is_some e)
  where
    none_is_some : {x : A} → None ≡ Some x → ⊥
    none_is_some e = cc
next_at f (y ∷ ys) zero zero x n e = absurd (omega (arith, n))
next_at {A} f (y ∷ ys) zero (suc zero) x n e = ap (λ z. f z ∷ []) (the_same e)
  where
    the_same : {x y : A} → Some y ≡ Some x → y ≡ x
    the_same e = cc
next_at f (y ∷ ys) zero (suc (suc j)) x n e = absurd (omega (arith, n))
next_at f (y ∷ ys) (suc k) zero x n e = absurd (omega (arith, n))
next_at f (y ∷ ys) (suc k) (suc j) x n e = ap (λ zs. f y ∷ zs) (next_at f ys k j x (omega (arith, n)) e)

-- those up to a place, and the one that stands there
pub map_one_more : {A B : Type 0} (f : A → B) (xs : List A) (k : ℕ) (x : A) → slice_get xs k ≡ Some x → map f (take (k + 1) xs) ≡ map f (take k xs) ++ f x ∷ []
map_one_more f xs k x e = next_at f xs k (k + 1) x refl e
