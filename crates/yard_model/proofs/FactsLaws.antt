-- The last of a list, and what is put in its place.
use Rattle.std.proofs.Common.{◌≡◌, ℕ, List, length, ap, ◌∙◌}
use Rattle.std.specs.Prelude.{[], ◌∷◌, ◌++◌, slice_set, slice_index_or}
use Rattle.std.proofs.Math.Seq.{set-append_seam, get_or-append_seam}

pub put_last : {A : Type 0} (items xs : List A) (x y z : A) (place : ℕ) → items ≡ xs ++ x ∷ [] → place ≡ length xs → y ≡ z → slice_set items place y ≡ xs ++ z ∷ []
put_last items xs x y z place e p h = ap (λ l. slice_set l place y) e ∙ (ap (λ k. slice_set (xs ++ x ∷ []) k y) p ∙ (set-append_seam xs x [] y ∙ ap (λ w. xs ++ w ∷ []) h))

pub at_last : {A : Type 0} (items xs : List A) (x d : A) (place : ℕ) → items ≡ xs ++ x ∷ [] → place ≡ length xs → slice_index_or items place d ≡ x
at_last items xs x d place e p = ap (λ l. slice_index_or l place d) e ∙ (ap (λ k. slice_index_or (xs ++ x ∷ []) k d) p ∙ get_or-append_seam xs x [] d)
