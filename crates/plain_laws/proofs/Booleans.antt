-- Tests that hold, of one thing and of each item of a list.
use Rattle.std.proofs.Common.{◌≡◌, ◌≢◌, ◌<◌, ◌≤◌, ℕ, zero, suc, sym, ap, ◌∙◌, refl, arith, ◌+◌, [], true}
use Rattle.std.specs.Prelude.{Bool, false, ◌==◌, ◌&&◌, ◌||◌, not, nat_lt, nat_le, List, ◌∷◌, slice_index_or, slice_set, replicate, filter, cond}
use Rattle.std.specs.List.{list_all}
use Rattle.std.proofs.lemmas.Bool.Decides.{Decides-eqb, nat_tests}
use Rattle.std.proofs.lemmas.Slice.Eq.{slice_eq-Decides}
use Rattle.yard_model.specs.Script.{is_name}

pub true_is_not_false : true ≡ false → ⊥
true_is_not_false e = cc

pub and_both : (a b : Bool) → (a && b) ≡ true → (a ≡ true) × (b ≡ true)
and_both true b e = (refl, e)
and_both false b e = absurd (true_is_not_false (sym e))

pub both : (a b : Bool) → a ≡ true → b ≡ true → (a && b) ≡ true
both a b e f = ap (λ x. x && b) e ∙ f

pub left_of : (a b : Bool) → a ≡ true → (a || b) ≡ true
left_of a b e = ap (λ x. x || b) e

pub right_of : (a b : Bool) → b ≡ true → (a || b) ≡ true
right_of true b e = refl
right_of false b e = e

pub of_not : (b : Bool) → not b ≡ true → b ≡ false
of_not true e = sym e
of_not false e = refl

pub same_number : (a b : ℕ) → (a == b) ≡ true → a ≡ b
same_number a b e = (Decides-eqb a b).0 e

pub number_itself : (a b : ℕ) → a ≡ b → (a == b) ≡ true
number_itself a b e = (Decides-eqb a b).1 e

pub other_number : (a b : ℕ) → (a == b) ≡ false → a ≢ b
other_number a b e = λ same. true_is_not_false (sym ((Decides-eqb a b).1 same) ∙ e)

pub below : (a b : ℕ) → nat_lt a b ≡ true → a < b
below a b e = grind (arith, nat_tests)

pub at_most : (a b : ℕ) → nat_le a b ≡ true → a ≤ b
at_most a b e = grind (arith, nat_tests)

pub not_below : (a b : ℕ) → nat_lt a b ≡ false → b ≤ a
not_below a b e = grind (arith, nat_tests)

-- names that are found the same are equal
pub same_name : (a b : List ℕ) → is_name a b ≡ true → a ≡ b
same_name a b e = (slice_eq-Decides Decides-eqb a b (is_name a b) refl).0 e

pub all_of : {X : Type 0} (p : X → Bool) → ((x : X) → p x ≡ true) → (xs : List X) → list_all p xs ≡ true
all_of p h [] = refl
all_of p h (x ∷ xs) = both (p x) (list_all p xs) (h x) (all_of p h xs)

pub all_map : {X : Type 0} (p q : X → Bool) → ((x : X) → p x ≡ true → q x ≡ true) → (xs : List X) → list_all p xs ≡ true → list_all q xs ≡ true
all_map p q h [] e = refl
all_map p q h (x ∷ xs) e = both (q x) (list_all q xs) (h x (and_both (p x) (list_all p xs) e).0) (all_map p q h xs (and_both (p x) (list_all p xs) e).1)

-- what holds of each, where another test holds of those that a third picks
pub all_where : {X : Type 0} (p q pick r : X → Bool) → ((x : X) → p x ≡ true → (pick x ≡ true → r x ≡ true) → q x ≡ true) → (xs : List X) → list_all p xs ≡ true → list_all r (filter pick xs) ≡ true → list_all q xs ≡ true
all_where {X} p q pick r h [] e f = refl
all_where {X} p q pick r h (x ∷ xs) e f = step (pick x) refl f (λ g. all_where p q pick r h xs (and_both (p x) (list_all p xs) e).1 g)
  where
    step : (b : Bool) → pick x ≡ b → list_all r (cond b (x ∷ filter pick xs) (filter pick xs)) ≡ true → (list_all r (filter pick xs) ≡ true → list_all q xs ≡ true) → (q x && list_all q xs) ≡ true
    step true t g rest =
        let m : (r x ≡ true) × (list_all r (filter pick xs) ≡ true) = and_both (r x) (list_all r (filter pick xs)) g in
        both (q x) (list_all q xs) (h x (and_both (p x) (list_all p xs) e).0 (λ u. m.0)) (rest m.1)
    step false t g rest = both (q x) (list_all q xs) (h x (and_both (p x) (list_all p xs) e).0 (λ u. absurd (true_is_not_false (sym u ∙ t)))) (rest g)

pub all_filter : {X : Type 0} (p pick : X → Bool) → (xs : List X) → list_all p xs ≡ true → list_all p (filter pick xs) ≡ true
all_filter p pick [] e = refl
all_filter {X} p pick (x ∷ xs) e = step (pick x) (all_filter p pick xs (and_both (p x) (list_all p xs) e).1)
  where
    step : (b : Bool) → list_all p (filter pick xs) ≡ true → list_all p (cond b (x ∷ filter pick xs) (filter pick xs)) ≡ true
    step true h = both (p x) (list_all p (filter pick xs)) (and_both (p x) (list_all p xs) e).0 h
    step false h = h

pub all_set : {X : Type 0} (p : X → Bool) (xs : List X) (i : ℕ) (v : X) → list_all p xs ≡ true → p v ≡ true → list_all p (slice_set xs i v) ≡ true
all_set p [] i v e h = refl
all_set p (x ∷ xs) zero v e h = both (p v) (list_all p xs) h (and_both (p x) (list_all p xs) e).1
all_set p (x ∷ xs) (suc i) v e h = both (p x) (list_all p (slice_set xs i v)) (and_both (p x) (list_all p xs) e).0 (all_set p xs i v (and_both (p x) (list_all p xs) e).1 h)

pub all_get : {X : Type 0} (p : X → Bool) (xs : List X) (i : ℕ) (d : X) → list_all p xs ≡ true → p d ≡ true → p (slice_index_or xs i d) ≡ true
all_get p [] i d e h = h
all_get p (x ∷ xs) zero d e h = (and_both (p x) (list_all p xs) e).0
all_get p (x ∷ xs) (suc i) d e h = all_get p xs i d (and_both (p x) (list_all p xs) e).1 h

pub all_replicate : {X : Type 0} (p : X → Bool) (n : ℕ) (d : X) → p d ≡ true → list_all p (replicate n d) ≡ true
all_replicate p zero d h = refl
all_replicate p (suc n) d h = both (p d) (list_all p (replicate n d)) h (all_replicate p n d h)

pub get_replicate : {X : Type 0} (n i : ℕ) (d : X) → slice_index_or (replicate n d) i d ≡ d
get_replicate zero i d = refl
get_replicate (suc n) zero d = refl
get_replicate (suc n) (suc i) d = get_replicate n i d

pub is_below : (a b : ℕ) → a < b → nat_lt a b ≡ true
is_below a b h = grind (arith, h, nat_tests)

pub within : (a b : ℕ) → a ≤ b → nat_le a b ≡ true
within a b h = grind (arith, h, nat_tests)

-- neither holds
pub or_both : (a b : Bool) → (a || b) ≡ false → (a ≡ false) × (b ≡ false)
or_both true b e = absurd (true_is_not_false e)
or_both false b e = (refl, e)

pub not_same : (x y : ℕ) → x + 1 ≤ y → not (x == y) ≡ true
not_same x y less = grind (arith, nat_tests)

pub not_of : (b : Bool) → b ≡ false → not b ≡ true
not_of b e = ap not e
