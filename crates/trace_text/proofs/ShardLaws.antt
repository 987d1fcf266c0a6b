-- Names that are parted by their shards.
use Rattle.std.proofs.Common.{◌≡◌, ◌≢◌, ℕ, ◌<◌, ◌+◌, List, [], ◌∷◌, ◌++◌, take, length, sym, ap, ◌∙◌, refl, subst, arith}
use Rattle.std.specs.Prelude.{Bool, true, false, ◌==◌, cond, filter, slice_index_or, slice_set}
use Rattle.std.proofs.lemmas.Bool.Decides.{nat_tests}
use Rattle.std.proofs.lemmas.List.{take_more, get_or-set_same, get_or-set_other}
use Rattle.std.proofs.lemmas.List.Elements.{filter-append}

-- one name more, whose place is p
pub parted_more : (place : List ℕ → ℕ) (names : List (List ℕ)) (i p s n : ℕ) (name : List ℕ) (old new : List (List (List ℕ))) → i < length names → name ≡ slice_index_or names i name → p ≡ place name → length old ≡ n → p < n
    → new ≡ slice_set old p (slice_index_or old p [] ++ name ∷ []) → ((t : ℕ) → t < n → slice_index_or old t [] ≡ filter (λ e. place e == t) (take i names)) → s < n
    → slice_index_or new s [] ≡ filter (λ e. place e == s) (take (i + 1) names)
parted_more place names i p s n name old new h is at long within set was here = ap (λ l. slice_index_or l s []) set ∙ (step (place name == s) refl ∙ sym grown)
  where
    grown : filter (λ e. place e == s) (take (i + 1) names) ≡ filter (λ e. place e == s) (take i names) ++ filter (λ e. place e == s) (name ∷ [])
    grown = ap (filter (λ e. place e == s)) (take_more names i name h) ∙ (filter-append (λ e. place e == s) (take i names) (slice_index_or names i name ∷ [])
        ∙ ap (λ x. filter (λ e. place e == s) (take i names) ++ filter (λ e. place e == s) (x ∷ [])) (sym is))

    same : place name == s ≡ true → p ≡ s
    same t = let q : place name ≡ s = grind (arith, nat_tests) in at ∙ q

    other : place name == s ≡ false → s ≢ p
    other t = λ q. grind (arith, nat_tests)

    none : (xs : List (List ℕ)) → xs ≡ xs ++ []
    none [] = refl
    none (x ∷ xs) = ap (λ l. x ∷ l) (none xs)

    step : (b : Bool) → place name == s ≡ b → slice_index_or (slice_set old p (slice_index_or old p [] ++ name ∷ [])) s [] ≡ filter (λ e. place e == s) (take i names) ++ cond b (name ∷ []) []
    step true t =
        subst (λ q. slice_index_or (slice_set old p (slice_index_or old p [] ++ name ∷ [])) q [] ≡ filter (λ e. place e == q) (take i names) ++ name ∷ []) (same t)
        (get_or-set_same old p (slice_index_or old p [] ++ name ∷ []) [] (subst (λ m. p < m) (sym long) within) ∙ ap (λ l. l ++ name ∷ []) (was p within))
    step false t = get_or-set_other old p s (slice_index_or old p [] ++ name ∷ []) [] (other t) ∙ (was s here ∙ none (filter (λ e. place e == s) (take i names)))
