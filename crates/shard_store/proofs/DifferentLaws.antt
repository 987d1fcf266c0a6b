-- Names in order are different.
use Rattle.std.proofs.Common.{◌≡◌, ◌≢◌, ℕ, ◌<◌, List, length, sym, ap, ◌∙◌, refl, true, false, nat_lt, arith}
use Rattle.std.specs.Prelude.{Bool, [], ◌∷◌, zero, suc}
use Rattle.std.specs.List.{AllByRecursion}
use Rattle.std.specs.List.Sorted.{IsStrictlySortedBy}
use Rattle.std.specs.Ordering.{nat_cmp}
use Rattle.std.specs.declared.cmp.Ordering.{Ordering}
use Rattle.std.specs.declared.cmp.Ordering.TheVariants.{Less, Equal}
use Rattle.std.specs.Cmp.Lexicographic.{slice_cmp, nat_list_cmp_total}
use Rattle.std.proofs.lemmas.Bool.Decides.{nat_tests, Decides-eqb}
use Rattle.std.proofs.lemmas.Slice.Eq.{slice_eq-Decides}
use Rattle.std.proofs.lemmas.Cmp.{tied_itself}
use Rattle.yard_model.specs.Script.{is_name}
use Rattle.shard_store.specs.Shelved.{name_at}
use Rattle.shard_store.proofs.NamesLaws.{same_name}

abbrev name_cmp : List ℕ → List ℕ → Ordering
name_cmp = slice_cmp nat_cmp

all_at : (P : List ℕ → Type 0) (xs : List (List ℕ)) (i : ℕ) → AllByRecursion P xs → i < length xs → P (name_at xs i)
all_at P [] i h within = absurd (omega arith)
all_at P (x ∷ xs) zero h within = h.0
all_at P (x ∷ xs) (suc i) h within = all_at P xs i h.1 (omega arith)

-- one of them is below each that comes later
pub earlier : (xs : List (List ℕ)) (i j : ℕ) → IsStrictlySortedBy name_cmp xs → i < j → j < length xs → name_cmp (name_at xs i) (name_at xs j) ≡ Less
unfolding IsStrictlySortedBy
earlier [] i j h e within = absurd (omega arith)
earlier (x ∷ xs) i zero h e within = absurd (omega arith)
earlier (x ∷ xs) zero (suc j) h e within = all_at (λ y. name_cmp x y ≡ Less) xs j h.0 (omega arith)
earlier (x ∷ xs) (suc i) (suc j) h e within = earlier xs i j h.1 (omega arith) (omega arith)

pub name_itself : (e : List ℕ) → is_name e e ≡ true
name_itself e = (slice_eq-Decides Decides-eqb e e (is_name e e) refl).1 refl

pub not_less : (e f : List ℕ) → name_cmp e f ≡ Less → e ≡ f → ⊥
not_less e f h same = less_is_not_equal (sym h ∙ (ap (λ x. name_cmp x f) same ∙ tied_itself nat_list_cmp_total f))
  where
    less_is_not_equal : Less ≡ Equal → ⊥
    less_is_not_equal e = cc

lt_of : (k i : ℕ) → nat_lt k i ≡ true → k < i
lt_of k i e = grind (arith, nat_tests)

gt_of : (k i : ℕ) → nat_lt k i ≡ false → k ≢ i → i < k
gt_of k i e h = grind (arith, nat_tests)

pub apart : (xs : List (List ℕ)) (i j : ℕ) → IsStrictlySortedBy name_cmp xs → i < length xs → j < length xs → i ≢ j → name_at xs i ≡ name_at xs j → ⊥
apart xs i j h a b other same = at (nat_lt i j) refl
  where
    at : (t : Bool) → nat_lt i j ≡ t → ⊥
    at true e = not_less (name_at xs i) (name_at xs j) (earlier xs i j h (lt_of i j e) b) same
    at false e = not_less (name_at xs j) (name_at xs i) (earlier xs j i h (gt_of i j e other) a) (sym same)

-- the name at another place is another
pub another_name : (xs : List (List ℕ)) (x : List ℕ) (k i : ℕ) → IsStrictlySortedBy name_cmp xs → k < length xs → i < length xs → name_at xs k ≡ x → i ≢ k → is_name x (name_at xs i) ≡ false
another_name xs x k i h a b it other = at (is_name x (name_at xs i)) refl
  where
    at : (t : Bool) → is_name x (name_at xs i) ≡ t → is_name x (name_at xs i) ≡ false
    at true e = absurd (apart xs i k h b a other (sym (same_name x (name_at xs i) e) ∙ sym it))
    at false e = e
