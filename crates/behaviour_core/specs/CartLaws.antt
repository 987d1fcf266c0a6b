-- A cart stays in order.
use Rattle.std.specs.Prelude.{◌≡◌, ◌+◌, ◌≤◌, Bool, true, false, ◌==◌, nat_lt, cond, IsTrue, List, [], ◌∷◌, length, filter, refl}
use Rattle.std.specs.List.{list_all}
use Rattle.std.proofs.Common.{arith, sym}
use Rattle.yard_model.specs.declared.state.CartItem.{CartItem}
use Rattle.yard_model.specs.Behaviour.{has_item, item_among, items_adjusted, adjusted, is_below_all, are_rising}
use Rattle.behaviour_core.specs.Booleans.{both, first, second, first_false, second_false, lt_trans, lt_of_neither, same_of}

-- below the lower of two, below all that follow
below_all_less : (x y : CartItem) (ys : List CartItem) → IsTrue (nat_lt x.item y.item) → IsTrue (is_below_all y ys) → IsTrue (is_below_all x ys)
below_all_less x y [] h k = refl
below_all_less x y (z ∷ zs) h k =
    both (nat_lt x.item z.item) (is_below_all x zs)
    (lt_trans x.item y.item z.item h (first (nat_lt y.item z.item) (is_below_all y zs) k))
    (below_all_less x y zs h (second (nat_lt y.item z.item) (is_below_all y zs) k))

-- a test of each item, with one more
pub all_among : (p : CartItem → Bool) (x : CartItem) (ys : List CartItem) → IsTrue (p x) → IsTrue (list_all p ys) → IsTrue (list_all p (item_among x ys))
all_among p x [] h k = both (p x) true h refl
all_among p x (y ∷ ys) h k =
    elim (nat_lt x.item y.item) as (λ b. IsTrue (list_all p (cond b (x ∷ y ∷ ys) (y ∷ item_among x ys)))) [
      | true ↦ both (p x) (list_all p (y ∷ ys)) h k
      | false ↦ both (p y) (list_all p (item_among x ys)) (first (p y) (list_all p ys) k) (all_among p x ys h (second (p y) (list_all p ys) k))
    ]

pub length_among : (x : CartItem) (ys : List CartItem) → length (item_among x ys) ≡ length ys + 1
length_among x [] = refl
length_among x (y ∷ ys) =
    elim (nat_lt x.item y.item) as (λ b. length (cond b (x ∷ y ∷ ys) (y ∷ item_among x ys)) ≡ length (y ∷ ys) + 1) [
      | true ↦ omega arith
      | false ↦ omega (arith, length_among x ys)
    ]

pub rising_among : (x : CartItem) (ys : List CartItem) → has_item x.item ys ≡ false → IsTrue (are_rising ys) → IsTrue (are_rising (item_among x ys))
rising_among x [] new h = refl
rising_among x (y ∷ ys) new h =
    elim (nat_lt x.item y.item) as (λ b. nat_lt x.item y.item ≡ b → IsTrue (are_rising (cond b (x ∷ y ∷ ys) (y ∷ item_among x ys)))) [
      | true ↦ λ e.
          both (is_below_all x (y ∷ ys)) (are_rising (y ∷ ys))
          (both (nat_lt x.item y.item) (is_below_all x ys) e (below_all_less x y ys e (first (is_below_all y ys) (are_rising ys) h)))
          h
      | false ↦ λ e.
          both (is_below_all y (item_among x ys)) (are_rising (item_among x ys))
          (all_among (λ z. nat_lt y.item z.item) x ys (lt_of_neither x.item y.item e (first_false (y.item == x.item) (has_item x.item ys) new)) (first (is_below_all y ys) (are_rising ys) h))
          (rising_among x ys (second_false (y.item == x.item) (has_item x.item ys) new) (second (is_below_all y ys) (are_rising ys) h))
    ] refl

-- a test of each item, with some left out
pub all_filtered : (p q : CartItem → Bool) (xs : List CartItem) → IsTrue (list_all p xs) → IsTrue (list_all p (filter q xs))
all_filtered p q [] h = refl
all_filtered p q (x ∷ xs) h =
    elim (q x) as (λ b. IsTrue (list_all p (cond b (x ∷ filter q xs) (filter q xs)))) [
      | true ↦ both (p x) (list_all p (filter q xs)) (first (p x) (list_all p xs) h) (all_filtered p q xs (second (p x) (list_all p xs) h))
      | false ↦ all_filtered p q xs (second (p x) (list_all p xs) h)
    ]

pub length_filtered : (q : CartItem → Bool) (xs : List CartItem) → length (filter q xs) ≤ length xs
length_filtered q [] = omega arith
length_filtered q (x ∷ xs) =
    elim (q x) as (λ b. length (cond b (x ∷ filter q xs) (filter q xs)) ≤ length (x ∷ xs)) [
      | true ↦ omega (arith, length_filtered q xs)
      | false ↦ omega (arith, length_filtered q xs)
    ]

pub rising_filtered : (q : CartItem → Bool) (xs : List CartItem) → IsTrue (are_rising xs) → IsTrue (are_rising (filter q xs))
rising_filtered q [] h = refl
rising_filtered q (x ∷ xs) h =
    elim (q x) as (λ b. IsTrue (are_rising (cond b (x ∷ filter q xs) (filter q xs)))) [
      | true ↦
          both (is_below_all x (filter q xs)) (are_rising (filter q xs))
          (all_filtered (λ y. nat_lt x.item y.item) q xs (first (is_below_all x xs) (are_rising xs) h))
          (rising_filtered q xs (second (is_below_all x xs) (are_rising xs) h))
      | false ↦ rising_filtered q xs (second (is_below_all x xs) (are_rising xs) h)
    ]

-- an item that is adjusted keeps its number
adjusted_number : (x y : CartItem) → (adjusted x y).item ≡ y.item
adjusted_number x y =
    elim (y.item == x.item) as (λ b. (y.item == x.item) ≡ b → (cond b x y).item ≡ y.item) [
      | true ↦ λ e. sym (same_of y.item x.item e)
      | false ↦ λ e. refl
    ] refl

pub all_adjusted : (p : CartItem → Bool) (x : CartItem) (ys : List CartItem) → IsTrue (p x) → IsTrue (list_all p ys) → IsTrue (list_all p (items_adjusted x ys))
all_adjusted p x [] h k = refl
all_adjusted p x (y ∷ ys) h k =
    both (p (adjusted x y)) (list_all p (items_adjusted x ys)) (at (y.item == x.item)) (all_adjusted p x ys h (second (p y) (list_all p ys) k))
  where
    at : (b : Bool) → IsTrue (p (cond b x y))
    at true = h
    at false = first (p y) (list_all p ys) k

below_adjusted : (x z : CartItem) (ys : List CartItem) → IsTrue (is_below_all z ys) → IsTrue (is_below_all (adjusted x z) (items_adjusted x ys))
below_adjusted x z [] h = refl
below_adjusted x z (y ∷ ys) h =
    both (nat_lt (adjusted x z).item (adjusted x y).item) (is_below_all (adjusted x z) (items_adjusted x ys))
    (rw (adjusted_number x z) (rw (adjusted_number x y) (first (nat_lt z.item y.item) (is_below_all z ys) h)))
    (below_adjusted x z ys (second (nat_lt z.item y.item) (is_below_all z ys) h))

pub length_adjusted : (x : CartItem) (ys : List CartItem) → length (items_adjusted x ys) ≡ length ys
length_adjusted x [] = refl
length_adjusted x (y ∷ ys) = omega (arith, length_adjusted x ys)

pub rising_adjusted : (x : CartItem) (ys : List CartItem) → IsTrue (are_rising ys) → IsTrue (are_rising (items_adjusted x ys))
rising_adjusted x [] h = refl
rising_adjusted x (y ∷ ys) h =
    both (is_below_all (adjusted x y) (items_adjusted x ys)) (are_rising (items_adjusted x ys))
    (below_adjusted x y ys (first (is_below_all y ys) (are_rising ys) h))
    (rising_adjusted x ys (second (is_below_all y ys) (are_rising ys) h))
