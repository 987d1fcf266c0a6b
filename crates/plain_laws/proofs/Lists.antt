-- Places of a table, and what holds of each of a list.
use Rattle.std.proofs.Common.{◌≡◌, ◌<◌, ℕ, zero, suc, sym, ap, refl, arith, ◌∙◌, ◌⊎◌, [], ◌∷◌, ◌++◌, inl, inr, List}
use Rattle.std.specs.Prelude.{◌==◌, Bool, true, false, length, Option, Some, None, is_some, unwrap_or, slice_set, take, is_none, if◌then◌else◌, slice_index_or}
use Rattle.std.proofs.lemmas.List.{get_or-set_same, get_or-set_other}
use Rattle.std.specs.List.{list_all, flat_map, slice_get}
use Rattle.std.proofs.lemmas.List.Folds.{list_all-append}
use Rattle.yard_model.specs.Words.{at}
use Rattle.yard_model.specs.Turns.{where_some}
use Rattle.plain_laws.proofs.Booleans.{true_is_not_false, same_number, other_number, both, and_both}

pub none_is_not_some : {A : Type 0} (x : A) → None ≡ Some x → ⊥
none_is_not_some x e = true_is_not_false (sym (ap is_some e))

pub some_is : {A : Type 0} (x y : A) → Some x ≡ Some y → x ≡ y
some_is x y e = ap (λ o. unwrap_or o x) e

pub inside : {A : Type 0} (xs : List (Option A)) (k : ℕ) (x : A) → at xs k ≡ Some x → k < length xs
inside [] k x e = absurd (none_is_not_some x e)
inside (y ∷ ys) zero x e = omega arith
inside (y ∷ ys) (suc k) x e = let less : k < length ys = inside ys k x e in omega (arith, less)

pub placed_at : {A : Type 0} (xs : List (Option A)) (k : ℕ) (v : Option A) → k < length xs → at (slice_set xs k v) k ≡ v
placed_at xs k v h = get_or-set_same xs k v None h

pub placed_beside : {A : Type 0} (xs : List (Option A)) (k j : ℕ) (v : Option A) → (j ≡ k → ⊥) → at (slice_set xs k v) j ≡ at xs j
placed_beside xs k j v other = get_or-set_other xs k j v None other

-- one or the other
pub by_place : (P : Type 0) (j k : ℕ) → (j ≡ k → P) → ((j ≡ k → ⊥) → P) → P
by_place P j k same other = at_bool (j == k) refl
  where
    at_bool : (b : Bool) → (j == k) ≡ b → P
    at_bool true e = same (same_number j k e)
    at_bool false e = other (other_number j k e)

pub all_join : {A : Type 0} (p : A → Bool) (xs ys : List A) → list_all p xs ≡ true → list_all p ys ≡ true → list_all p (xs ++ ys) ≡ true
all_join p xs ys e f = list_all-append p xs ys ∙ both (list_all p xs) (list_all p ys) e f

pub all_if : {A : Type 0} (p : A → Bool) (b : Bool) (xs ys : List A) → list_all p xs ≡ true → list_all p ys ≡ true → list_all p (if b then xs else ys) ≡ true
all_if p true xs ys e f = e
all_if p false xs ys e f = f

pub all_some : {A X : Type 0} (p : A → Bool) (f : X → List A) (o : Option X) → ((x : X) → list_all p (f x) ≡ true) → list_all p (where_some f o) ≡ true
all_some p f None h = refl
all_some p f (Some x) h = h x

pub all_each : {A X : Type 0} (p : A → Bool) (f : X → List A) (xs : List X) → ((x : X) → list_all p (f x) ≡ true) → list_all p (flat_map f xs) ≡ true
all_each p f [] h = refl
all_each p f (x ∷ xs) h = all_join p (f x) (flat_map f xs) (h x) (all_each p f xs h)

pub all_each_of : {A X : Type 0} (p : A → Bool) (q : X → Bool) (f : X → List A) (xs : List X) → list_all q xs ≡ true → ((x : X) → q x ≡ true → list_all p (f x) ≡ true) → list_all p (flat_map f xs) ≡ true
all_each_of p q f [] e h = refl
all_each_of p q f (x ∷ xs) e h =
    let m : (q x ≡ true) × (list_all q xs ≡ true) = and_both (q x) (list_all q xs) e in
    all_join p (f x) (flat_map f xs) (h x m.0) (all_each_of p q f xs m.1 h)

pub all_got : {A : Type 0} (p : A → Bool) (xs : List A) (i : ℕ) (x : A) → list_all p xs ≡ true → slice_get xs i ≡ Some x → p x ≡ true
all_got p [] i x all e = absurd (none_is_not_some x e)
all_got p (y ∷ ys) zero x all e = ap p (sym (some_is y x e)) ∙ (and_both (p y) (list_all p ys) all).0
all_got p (y ∷ ys) (suc i) x all e = all_got p ys i x (and_both (p y) (list_all p ys) all).1 e

pub all_take : {A : Type 0} (p : A → Bool) (n : ℕ) (xs : List A) → list_all p xs ≡ true → list_all p (take n xs) ≡ true
all_take p zero xs e = refl
all_take p (suc n) [] e = refl
all_take p (suc n) (x ∷ xs) e =
    let m : (p x ≡ true) × (list_all p xs ≡ true) = and_both (p x) (list_all p xs) e in
    both (p x) (list_all p (take n xs)) m.0 (all_take p n xs m.1)

pub none_of : {A : Type 0} (o : Option A) → is_none o ≡ true → o ≡ None
none_of None e = refl
none_of (Some x) e = absurd (true_is_not_false (sym e))

-- what holds of what is written and of what was there holds after the write
pub of_write : {X : Type 0} (P : X → Type 0) (xs : List X) (i j : ℕ) (v d : X) → (j ≡ i → P v) → P (slice_index_or xs j d) → P (slice_index_or (slice_set xs i v) j d)
of_write P [] i j v d new old = old
of_write P (x ∷ xs) zero zero v d new old = new refl
of_write P (x ∷ xs) zero (suc j) v d new old = old
of_write P (x ∷ xs) (suc i) zero v d new old = old
of_write P (x ∷ xs) (suc i) (suc j) v d new old = of_write P xs i j v d (λ e. new (ap suc e)) old

pub last_or_before : {A : Type 0} (wire : List A) (p q : A) (j : ℕ) → slice_get (wire ++ p ∷ []) j ≡ Some q → (slice_get wire j ≡ Some q) ⊎ (p ≡ q)
last_or_before [] p q zero e = inr (some_is p q e)
last_or_before [] p q (suc j) e = absurd (none_is_not_some q e)
last_or_before (x ∷ xs) p q zero e = inl e
last_or_before (x ∷ xs) p q (suc j) e = last_or_before xs p q j e
