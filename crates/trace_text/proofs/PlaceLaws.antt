-- What is kept at the places of names in order.
use Rattle.std.proofs.Common.{◌≡◌, ◌≢◌, ℕ, ◌<◌, zero, suc, List, [], ◌∷◌, ◌++◌, length, sym, ap, ◌∙◌, refl, subst, arith, true≢false}
use Rattle.std.specs.Prelude.{Bool, true, false, ◌||◌, map, slice_index_or, slice_set}
use Rattle.std.specs.declared.cmp.Ordering.TheVariants.{Less, Equal}
use Rattle.std.specs.Ordering.{nat_cmp, is_eq}
use Rattle.std.specs.Cmp.Lexicographic.{slice_cmp, nat_list_cmp_total, nat_list_eq_equiv, texts_ties}
use Rattle.std.specs.List.{HoldsAt, AllByRecursion, list_any}
use Rattle.std.specs.List.Sorted.{IsStrictlySortedBy}
use Rattle.std.proofs.lemmas.Bool.Decides.{Decides-eqb}
use Rattle.std.proofs.lemmas.Slice.Eq.{slice_eq-Decides}
use Rattle.std.proofs.lemmas.List.{map-set, get_or-map, get_or_default}
use Rattle.std.proofs.lemmas.Cmp.{tied_itself}
use Rattle.yard_model.specs.Script.{is_name}

-- one item more in the row at a place
pub row_set : {A B : Type 0} (show : A → List B) (rows : List A) (p : ℕ) (new d : A) (x : B) → p < length rows → show new ≡ show (slice_index_or rows p d) ++ x ∷ []
    → map show (slice_set rows p new) ≡ slice_set (map show rows) p (slice_index_or (map show rows) p [] ++ x ∷ [])
row_set show rows p new d x h e = map-set show rows p new ∙ ap (λ v. slice_set (map show rows) p v) (e ∙ ap (λ l. l ++ x ∷ []) (sym (get_or-map show rows p d [] h)))

-- names that are found the same are equal
pub same_name : (a b : List ℕ) → is_name a b ≡ true → a ≡ b
same_name a b e = (slice_eq-Decides Decides-eqb a b (is_name a b) refl).0 e

-- another name is found another
off : (e x : List ℕ) → x ≢ e → is_name e x ≡ false
off e x ne = elim (is_name e x) as (λ b. is_name e x ≡ b → is_name e x ≡ false) [
  | true ↦ λ t. absurd (ne (sym (same_name e x t)))
  | false ↦ λ t. t
] refl

not_below : (x e : List ℕ) → slice_cmp nat_cmp x e ≡ Less → x ≢ e
not_below x e less same =
    let bad : Less ≡ Equal = sym less ∙ (ap (λ y. slice_cmp nat_cmp x y) (sym same) ∙ tied_itself nat_list_cmp_total x) in
    cc

all_at : {X : Type 0} (P : X → Type 0) (xs : List X) (p : ℕ) (d : X) → p < length xs → AllByRecursion P xs → P (slice_index_or xs p d)
all_at P [] p d h a = absurd (omega arith)
all_at P (x ∷ xs) zero d h a = a.0
all_at P (x ∷ xs) (suc p) d h a = all_at P xs p d (omega arith) a.1

map_above : {B : Type 0} (f g : List ℕ → B) (e : List ℕ) (names : List (List ℕ)) → AllByRecursion (λ y. slice_cmp nat_cmp e y ≡ Less) names
    → ((n : List ℕ) → is_name e n ≡ false → g n ≡ f n) → map g names ≡ map f names
map_above f g e [] a other = refl
map_above f g e (y ∷ ys) a other = ap (λ z. z ∷ map g ys) (other y (texts_ties e y ∙ ap is_eq a.0)) ∙ ap (λ l. f y ∷ l) (map_above f g e ys a.1 other)

-- where only what is kept of one name changes, it changes at its place
pub put_at : {B : Type 0} (f g : List ℕ → B) (e : List ℕ) (names : List (List ℕ)) (p : ℕ) → IsStrictlySortedBy (slice_cmp nat_cmp) names → p < length names
    → HoldsAt (λ y. y ≡ e) names p → ((n : List ℕ) → is_name e n ≡ false → g n ≡ f n) → map g names ≡ slice_set (map f names) p (g e)
unfolding IsStrictlySortedBy
put_at f g e [] p s h here other = absurd (omega arith)
put_at f g e (x ∷ xs) zero s h here other =
    let same : x ≡ e = here [] in
    ap (λ n. g n ∷ map g xs) same
    ∙ ap (λ l. g e ∷ l) (map_above f g e xs (subst (λ n. AllByRecursion (λ y. slice_cmp nat_cmp n y ≡ Less) xs) same s.0) other)
put_at f g e (x ∷ xs) (suc p) s h here other =
    let below : slice_cmp nat_cmp x (slice_index_or xs p []) ≡ Less = all_at (λ y. slice_cmp nat_cmp x y ≡ Less) xs p [] (omega arith) s.0 in
    ap (λ z. z ∷ map g xs) (other x (off e x (not_below x e (subst (λ y. slice_cmp nat_cmp x y ≡ Less) (here []) below))))
    ∙ ap (λ l. f x ∷ l) (put_at f g e xs p s.1 (omega arith) here other)

-- where only what is kept of a name changes that is not among them, nothing does
pub put_nowhere : {B : Type 0} (f g : List ℕ → B) (e : List ℕ) (names : List (List ℕ)) → ((k : ℕ) → k < length names → slice_index_or names k e ≢ e)
    → ((n : List ℕ) → is_name e n ≡ false → g n ≡ f n) → map g names ≡ map f names
put_nowhere f g e [] none other = refl
put_nowhere f g e (x ∷ xs) none other =
    ap (λ z. z ∷ map g xs) (other x (off e x (none 0 (omega arith))))
    ∙ ap (λ l. f x ∷ l) (put_nowhere f g e xs (λ k h. none (suc k) (omega arith)) other)

-- what stands at a place stands there whatever the default
pub found_at : (names : List (List ℕ)) (e : List ℕ) (i : ℕ) → i < length names → slice_index_or names i [] ≡ e → HoldsAt (λ y. y ≡ e) names i
found_at names e i h it d = get_or_default names i d [] h ∙ it

-- a name that isn't among these stands at no place
pub not_there : (names : List (List ℕ)) (e : List ℕ) → list_any (is_name e) names ≡ false → (k : ℕ) → k < length names → slice_index_or names k e ≢ e
not_there [] e none k h same = omega arith
not_there (x ∷ xs) e none zero h same = at (is_name e x) refl none
  where
    at : (b : Bool) → is_name e x ≡ b → (b || list_any (is_name e) xs) ≡ false → ⊥
    at true t f = true≢false f
    at false t f = true≢false (sym (ap (λ n. is_name e n) same ∙ nat_list_eq_equiv.refl e) ∙ t)
not_there (x ∷ xs) e none (suc k) h same = not_there xs e (rest (is_name e x) none) k (omega arith) same
  where
    rest : (b : Bool) → (b || list_any (is_name e) xs) ≡ false → list_any (is_name e) xs ≡ false
    rest true f = absurd (true≢false f)
    rest false f = f
