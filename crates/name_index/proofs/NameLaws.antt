-- Names in order: each is found, they are different, and each has its place.
use Rattle.std.proofs.Common.{◌≡◌, ◌≢◌, ℕ, ◌<◌, ◌≤◌, List, length, ◌+◌, sym, ap, subst, ◌∙◌, refl, true, false, nat_lt, arith, true≢false}
use Rattle.std.specs.Prelude.{Bool, [], ◌∷◌, ◌||◌, zero, suc, cond, not, slice_index_or, IsSorted}
use Rattle.std.specs.List.{list_any, position_or_len, HoldsAt, AllByRecursion}
use Rattle.std.specs.List.Sorted.{IsStrictlySortedBy, IsNonDecreasingBy, IsPartitionPoint}
use Rattle.std.specs.Ordering.{nat_cmp, ordering_index, ordering_reverse, is_lt}
use Rattle.std.specs.declared.cmp.Ordering.{Ordering}
use Rattle.std.specs.declared.cmp.Ordering.TheVariants.{Less, Equal, Greater}
use Rattle.std.specs.Cmp.Lexicographic.{slice_cmp, nat_list_cmp_total}
use Rattle.std.proofs.lemmas.Bool.Decides.{nat_tests}
use Rattle.std.proofs.lemmas.Map.Lookups.{exact_bytes}
use Rattle.std.proofs.lemmas.List.Sorted.{searchable_from_sorted}
use Rattle.std.proofs.lemmas.Cmp.{tied_itself}
use Rattle.yard_model.specs.Script.{is_name}
use Rattle.plain_laws.proofs.Booleans.{same_name}
use Rattle.plain_laws.proofs.Names.{name_itself, name_cmp}

-- what compares alike is the name
pub found_at : (names : List (List ℕ)) (e : List ℕ) (i : ℕ) → HoldsAt (λ y. slice_cmp nat_cmp y e ≡ Equal) names i → HoldsAt (λ y. y ≡ e) names i
found_at names e i h d = exact_bytes (slice_index_or names i d) e (h d)

not_alike : (x e : List ℕ) (o : Ordering) → slice_cmp nat_cmp x e ≡ o → o ≢ Equal → x ≢ e
not_alike x e o c other same = other (sym c ∙ (ap (λ y. slice_cmp nat_cmp y e) same ∙ tied_itself nat_list_cmp_total e))

lt_of : (k i : ℕ) → nat_lt k i ≡ true → k < i
lt_of k i e = grind (arith, nat_tests)

le_of : (k i : ℕ) → nat_lt k i ≡ false → i ≤ k
le_of k i e = grind (arith, nat_tests)

-- a place of a name that is among these
record Place (names : List (List ℕ)) (e : List ℕ) : Type 0 where
  place : ℕ
  within : place < length names
  it : slice_index_or names place e ≡ e

place_of : (names : List (List ℕ)) (e : List ℕ) → list_any (is_name e) names ≡ true → Place names e
place_of [] e h = absurd (true≢false (sym h))
place_of (n ∷ ns) e h = at (is_name e n) refl (λ m. place_of ns e m)
  where
    at : (b : Bool) → is_name e n ≡ b → (list_any (is_name e) ns ≡ true → Place ns e) → Place (n ∷ ns) e
    at true it rest = record { place = zero; within = omega arith; it = sym (same_name e n it) }
    at false it rest = let p : Place ns e = rest (sym (ap (λ b. b || list_any (is_name e) ns) it) ∙ h) in record { place = suc p.place; within = omega (arith, p.within); it = p.it }

-- the next of names of which each is below those after it isn't below
next_of : (xs : List (List ℕ)) (k j : ℕ) (d : List ℕ) → IsStrictlySortedBy (slice_cmp nat_cmp) xs → j ≡ k + 1 → j < length xs → is_lt (slice_cmp nat_cmp (slice_index_or xs j d) (slice_index_or xs k d)) ≡ false
unfolding IsStrictlySortedBy
next_of [] k j d h e within = absurd (omega arith)
next_of (x ∷ []) k j d h e within = absurd (omega arith)
next_of (x ∷ y ∷ ys) zero j d h e within = subst (λ n. is_lt (slice_cmp nat_cmp (slice_index_or (x ∷ y ∷ ys) n d) x) ≡ false) (sym e) (ap is_lt (nat_list_cmp_total.antisymm y x ∙ ap ordering_reverse h.0.0))
next_of (x ∷ y ∷ ys) (suc k) zero d h e within = absurd (omega arith)
next_of (x ∷ y ∷ ys) (suc k) (suc j) d h e within = next_of (y ∷ ys) k j d h.1 (omega arith) (omega arith)

pub sorted_of : (xs : List (List ℕ)) → IsStrictlySortedBy (slice_cmp nat_cmp) xs → IsSorted (slice_cmp nat_cmp) xs
sorted_of xs h k d a b = next_of xs k (k + 1) d h refl b

-- a name that is among sorted names isn't missed
pub not_missing : (names : List (List ℕ)) (e : List ℕ) (i : ℕ) → IsStrictlySortedBy (slice_cmp nat_cmp) names →
    (IsNonDecreasingBy (λ y. ordering_index (slice_cmp nat_cmp y e)) names → IsPartitionPoint (λ y. slice_cmp nat_cmp y e ≡ Less) (λ y. slice_cmp nat_cmp y e ≡ Greater) names i) →
    list_any (is_name e) names ≡ true → ⊥
not_missing names e i sorted place among =
    let point : IsPartitionPoint (λ y. slice_cmp nat_cmp y e ≡ Less) (λ y. slice_cmp nat_cmp y e ≡ Greater) names i = place (searchable_from_sorted nat_list_cmp_total (λ n. n) names e (sorted_of names sorted)) in
    let p : Place names e = place_of names e among in
    elim (nat_lt p.place i) as (λ b. nat_lt p.place i ≡ b → ⊥) [
      | true ↦ λ below. not_alike (slice_index_or names p.place e) e Less (point.0 p.place e (omega arith) (lt_of p.place i below)) (λ q. cc) p.it
      | false ↦ λ above. not_alike (slice_index_or names p.place e) e Greater (point.1 p.place e (le_of p.place i above) p.within) (λ q. cc) p.it
    ] refl

-- a name that isn't found isn't among them
pub is_missing : (names : List (List ℕ)) (e : List ℕ) (i : ℕ) → IsStrictlySortedBy (slice_cmp nat_cmp) names →
    (IsNonDecreasingBy (λ y. ordering_index (slice_cmp nat_cmp y e)) names → IsPartitionPoint (λ y. slice_cmp nat_cmp y e ≡ Less) (λ y. slice_cmp nat_cmp y e ≡ Greater) names i) →
    list_any (is_name e) names ≡ false
is_missing names e i sorted place = by (list_any (is_name e) names) (λ among. not_missing names e i sorted place among)
  where
    by : (b : Bool) → (b ≡ true → ⊥) → b ≡ false
    by true h = absurd (h refl)
    by false h = refl

abbrev name_at : List (List ℕ) → ℕ → List ℕ
name_at names k = slice_index_or names k []

all_at : (P : List ℕ → Type 0) (xs : List (List ℕ)) (i : ℕ) → AllByRecursion P xs → i < length xs → P (name_at xs i)
all_at P [] i h within = absurd (omega arith)
all_at P (x ∷ xs) zero h within = h.0
all_at P (x ∷ xs) (suc i) h within = all_at P xs i h.1 (omega arith)

-- one of them is below each that comes later
below : (xs : List (List ℕ)) (i j : ℕ) → IsStrictlySortedBy name_cmp xs → i < j → j < length xs → name_cmp (name_at xs i) (name_at xs j) ≡ Less
unfolding IsStrictlySortedBy
below [] i j h e within = absurd (omega arith)
below (x ∷ xs) i zero h e within = absurd (omega arith)
below (x ∷ xs) zero (suc j) h e within = all_at (λ y. name_cmp x y ≡ Less) xs j h.0 (omega arith)
below (x ∷ xs) (suc i) (suc j) h e within = below xs i j h.1 (omega arith) (omega arith)

not_below : (e f : List ℕ) → name_cmp e f ≡ Less → e ≡ f → ⊥
not_below e f h same = less_is_not_equal (sym h ∙ (ap (λ x. name_cmp x f) same ∙ tied_itself nat_list_cmp_total f))
  where
    less_is_not_equal : Less ≡ Equal → ⊥
    less_is_not_equal e = cc

gt_of : (k i : ℕ) → nat_lt k i ≡ false → k ≢ i → i < k
gt_of k i e h = grind (arith, nat_tests)

apart : (xs : List (List ℕ)) (i j : ℕ) → IsStrictlySortedBy name_cmp xs → i < length xs → j < length xs → i ≢ j → name_at xs i ≡ name_at xs j → ⊥
apart xs i j h a b other same = at (nat_lt i j) refl
  where
    at : (t : Bool) → nat_lt i j ≡ t → ⊥
    at true e = not_below (name_at xs i) (name_at xs j) (below xs i j h (lt_of i j e) b) same
    at false e = not_below (name_at xs j) (name_at xs i) (below xs j i h (gt_of i j e other) a) (sym same)

-- the name at another place is another
pub another_name : (xs : List (List ℕ)) (x : List ℕ) (k i : ℕ) → IsStrictlySortedBy name_cmp xs → k < length xs → i < length xs → name_at xs k ≡ x → i ≢ k → is_name x (name_at xs i) ≡ false
another_name xs x k i h a b it other = at (is_name x (name_at xs i)) refl
  where
    at : (t : Bool) → is_name x (name_at xs i) ≡ t → is_name x (name_at xs i) ≡ false
    at true e = absurd (apart xs i k h b a other (sym (same_name x (name_at xs i) e) ∙ sym it))
    at false e = e

-- the first place where p is so
first_at : (p : List ℕ → Bool) (xs : List (List ℕ)) (i : ℕ) → i < length xs → p (name_at xs i) ≡ true → ((j : ℕ) → j < i → p (name_at xs j) ≡ false) → position_or_len p xs ≡ i
first_at p [] i within here before = absurd (omega arith)
first_at p (x ∷ xs) zero within here before = ap (λ b. cond (not b) (1 + position_or_len p xs) 0) here
first_at p (x ∷ xs) (suc i) within here before =
    let one_more : 1 + i ≡ suc i = omega arith in
    ap (λ b. cond (not b) (1 + position_or_len p xs) 0) (before zero (omega arith))
    ∙ (ap (λ n. 1 + n) (first_at p xs i (omega arith) here (λ j below. before (suc j) (omega arith))) ∙ one_more)

-- the place at which a name in order is
pub placed : (names : List (List ℕ)) (e : List ℕ) (i : ℕ) → IsStrictlySortedBy (slice_cmp nat_cmp) names → i < length names → name_at names i ≡ e → i ≡ position_or_len (is_name e) names
placed names e i sorted within it = sym (first_at (is_name e) names i within (ap (is_name e) it ∙ name_itself e) (λ j below. another_name names e i j sorted within (omega (arith, below, within)) it (λ same. omega (arith, same, below))))
