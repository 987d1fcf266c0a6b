-- Names in order are different.
use Rattle.std.proofs.Common.{ℕ, [], ◌∷◌, ◌≡◌, ◌∙◌, List, sym, ap, refl, true, false}
use Rattle.std.specs.Prelude.{Bool, not, filter, ◌||◌, if◌then◌else◌}
use Rattle.std.specs.List.{AllByRecursion, list_all, list_any}
use Rattle.std.specs.List.Sorted.{IsStrictlySortedBy}
use Rattle.std.specs.Ordering.{nat_cmp, match_ordering, ordering_reverse}
use Rattle.std.specs.BTreeSet.{insert_key}
use Rattle.std.specs.declared.cmp.Ordering.{Ordering}
use Rattle.std.specs.declared.cmp.Ordering.TheVariants.{Less, Equal, Greater}
use Rattle.std.specs.Cmp.Lexicographic.{slice_cmp, nat_list_cmp_total, nat_list_eq_equiv}
use Rattle.std.proofs.lemmas.Cmp.{tied_itself}
use Rattle.yard_model.specs.Script.{is_name}
use Rattle.plain_laws.proofs.Booleans.{both, same_name, all_filter}
use Rattle.plain_laws.specs.Names.{AllDiffer}

abbrev pub name_cmp : List ℕ → List ℕ → Ordering
name_cmp = slice_cmp nat_cmp

above_all : (P : List ℕ → Type 0) (Q : List ℕ → Type 0) (xs : List (List ℕ)) → ((y : List ℕ) → P y → Q y) → AllByRecursion P xs → AllByRecursion Q xs
above_all P Q [] f h = tt
above_all P Q (x ∷ xs) f h = (f x h.0, above_all P Q xs f h.1)

inserted_all : (P : List ℕ → Type 0) (k : List ℕ) (xs : List (List ℕ)) → P k → AllByRecursion P xs → AllByRecursion P (insert_key name_cmp xs k)
inserted_all P k [] p h = (p, tt)
inserted_all P k (x ∷ xs) p h = by (name_cmp k x) (inserted_all P k xs p h.1)
  where
    by : (r : Ordering) → AllByRecursion P (insert_key name_cmp xs k) → AllByRecursion P (match_ordering r (k ∷ x ∷ xs) (x ∷ xs) (x ∷ insert_key name_cmp xs k))
    by Less rest = (p, h)
    by Equal rest = h
    by Greater rest = (h.0, rest)

pub inserted_sorted : (k : List ℕ) (xs : List (List ℕ)) → IsStrictlySortedBy name_cmp xs → IsStrictlySortedBy name_cmp (insert_key name_cmp xs k)
unfolding IsStrictlySortedBy
inserted_sorted k [] h = (tt, tt)
inserted_sorted k (x ∷ xs) h = by (name_cmp k x) refl (inserted_sorted k xs h.1)
  where
    by : (r : Ordering) → name_cmp k x ≡ r → IsStrictlySortedBy name_cmp (insert_key name_cmp xs k) → IsStrictlySortedBy name_cmp (match_ordering r (k ∷ x ∷ xs) (x ∷ xs) (x ∷ insert_key name_cmp xs k))
    by Less e rest = ((e, above_all (λ y. name_cmp x y ≡ Less) (λ y. name_cmp k y ≡ Less) xs (λ y l. nat_list_cmp_total.trans k x y e l) h.0), h)
    by Equal e rest = h
    by Greater e rest = (inserted_all (λ y. name_cmp x y ≡ Less) k xs (nat_list_cmp_total.antisymm x k ∙ ap ordering_reverse e) h.0, rest)

less_apart : (e f : List ℕ) → name_cmp e f ≡ Less → is_name e f ≡ false
less_apart e f h = by (is_name e f) refl
  where
    less_is_not_equal : Less ≡ Equal → ⊥
    less_is_not_equal e = cc

    by : (b : Bool) → is_name e f ≡ b → is_name e f ≡ false
    by false k = k
    by true k = absurd (less_is_not_equal (sym h ∙ (ap (λ x. name_cmp x f) (same_name e f k) ∙ tied_itself nat_list_cmp_total f)))

all_apart : (x : List ℕ) (xs : List (List ℕ)) → AllByRecursion (λ y. name_cmp x y ≡ Less) xs → list_all (λ y. not (is_name x y)) xs ≡ true
all_apart x [] h = refl
all_apart x (y ∷ ys) h = both (not (is_name x y)) (list_all (λ y. not (is_name x y)) ys) (ap not (less_apart x y h.0)) (all_apart x ys h.1)

pub sorted_differ : (xs : List (List ℕ)) → IsStrictlySortedBy name_cmp xs → AllDiffer xs
unfolding IsStrictlySortedBy
sorted_differ [] h = tt
sorted_differ (x ∷ xs) h = (all_apart x xs h.0, sorted_differ xs h.1)

pub left_differ : (q : List ℕ → Bool) (xs : List (List ℕ)) → AllDiffer xs → AllDiffer (filter q xs)
left_differ q [] h = tt
left_differ q (x ∷ xs) h = by (q x) (left_differ q xs h.1)
  where
    by : (b : Bool) → AllDiffer (filter q xs) → AllDiffer (if b then x ∷ filter q xs else filter q xs)
    by true r = (all_filter (λ y. not (is_name x y)) q xs h.0, r)
    by false r = r

pub name_itself : (e : List ℕ) → is_name e e ≡ true
name_itself e = nat_list_eq_equiv.refl e

pub any_more : (e x : List ℕ) (xs : List (List ℕ)) → list_any (is_name e) xs ≡ true → list_any (is_name e) (x ∷ xs) ≡ true
any_more e x xs h = by (is_name e x)
  where
    by : (b : Bool) → (b || list_any (is_name e) xs) ≡ true
    by true = refl
    by false = h

any_first : (x : List ℕ) (xs : List (List ℕ)) → list_any (is_name x) (x ∷ xs) ≡ true
any_first x xs = ap (λ b. b || list_any (is_name x) xs) (name_itself x)

pub all_names : (p : List ℕ → Bool) (xs : List (List ℕ)) → ((e : List ℕ) → list_any (is_name e) xs ≡ true → p e ≡ true) → list_all p xs ≡ true
all_names p [] h = refl
all_names p (x ∷ xs) h = both (p x) (list_all p xs) (h x (any_first x xs)) (all_names p xs (λ e k. h e (any_more e x xs k)))
