-- Names in order, word by word: as the numbers that their bytes spell.
use Rattle.std.proofs.Common.{◌≡◌, ℕ, zero, suc, ◌+◌, ◌-◌, ◌*◌, ◌<◌, ◌≤◌, Bool, true, false, List, [], ◌∷◌, ◌++◌, length, take, drop, replicate, refl, ap, sym, ◌∙◌, arith, true≢false}
use Rattle.std.specs.Prelude.{◌^◌, ◌&&◌, ◌==◌, nat_eq, slice_index_or}
use Rattle.std.specs.List.{list_all}
use Rattle.std.specs.Int.{from_be_bytes, w64}
use Rattle.std.specs.Cmp.{ranks}
use Rattle.std.specs.Ordering.{nat_cmp, ordering_then, MatchOrdering}
use Rattle.std.specs.declared.cmp.Ordering.{Ordering}
use Rattle.std.specs.declared.cmp.Ordering.TheVariants.{Less, Equal, Greater}
use Rattle.std.specs.Cmp.Lexicographic.{slice_cmp, pointwise}
use Rattle.std.proofs.lemmas.Bool.Decides.{nat_tests}
use Rattle.std.proofs.lemmas.List.{drop-replicate, drop-drop}
use Rattle.std.proofs.Math.Nat.{mul-add, mul-le-mul_left, pow-suc}
use Rattle.yard_model.specs.Front.{front}
use Rattle.yard_model.specs.Name.{IsKept, IsName, is_name_byte}
use Rattle.yard_model.specs.Padded.{padded_cells}

and_both : (a b : Bool) → (a && b) ≡ true → (a ≡ true) × (b ≡ true)
and_both true b e = (refl, e)
and_both false b e = absurd (true≢false (sym e))

-- each is a byte
abbrev pub AreBytes : List ℕ → Type 0
AreBytes [] = Unit {0}
AreBytes (x ∷ xs) = (x < 256) × AreBytes xs

pow_some : (n : ℕ) → 0 < 256 ^ n
pow_some zero = omega arith
pow_some (suc n) = let below : 0 < 256 ^ n = pow_some n in let more : 256 ^ suc n ≡ 256 ^ n * 256 = pow-suc 256 n in omega arith

-- a greater first digit outweighs what follows
heavier : (p x y a b : ℕ) → x < y → a < p → p * x + a < p * y + b
heavier p x y a b l h =
    let up : p * (x + 1) ≤ p * y = mul-le-mul_left p (omega (arith, l)) in
    let out : p * (x + 1) ≡ p * x + p * 1 = mul-add p x 1 in
    omega arith

front_small : (n : ℕ) (xs : List ℕ) → AreBytes xs → front n xs < 256 ^ n
front_small zero xs b = omega arith
front_small (suc n) [] b = pow_some (suc n)
front_small (suc n) (x ∷ xs) b =
    let rest : front n xs < 256 ^ n = front_small n xs b.1 in
    let most : 256 ^ n * x + front n xs < 256 ^ n * 256 + 0 = heavier (256 ^ n) x 256 (front n xs) 0 b.0 rest in
    let more : 256 ^ suc n ≡ 256 ^ n * 256 = pow-suc 256 n in omega arith

-- zeros behind don't count
front_blank : (n k : ℕ) → front n (replicate k 0) ≡ 0
front_blank zero k = refl
front_blank (suc n) zero = refl
front_blank (suc n) (suc k) = let rest : front n (replicate k 0) ≡ 0 = front_blank n k in omega arith

front_padded : (n k : ℕ) (xs : List ℕ) → front n (xs ++ replicate k 0) ≡ front n xs
front_padded zero k xs = refl
front_padded (suc n) k [] = front_blank (suc n) k
front_padded (suc n) k (x ∷ xs) = ap (λ z. 256 ^ n * x + z) (front_padded n k xs)

gone : (k : ℕ) → drop {A = ℕ} k [] ≡ []
gone zero = refl
gone (suc k) = refl

-- the first digit of what is left
front_more : (n i : ℕ) (xs : List ℕ) → front (suc n) (drop i xs) ≡ 256 ^ n * slice_index_or xs i 0 + front n (drop (i + 1) xs)
front_more n zero [] = let none : front n [] ≡ 0 = front_blank n 0 in omega arith
front_more n zero (x ∷ xs) = refl
front_more n (suc i) [] = let none : front n (drop {A = ℕ} (suc i + 1) []) ≡ 0 = ap (front n) (gone (suc i + 1)) ∙ front_blank n 0 in omega arith
front_more n (suc i) (x ∷ xs) = let next : suc (i + 1) ≡ suc i + 1 = omega arith in front_more n i xs ∙ ap (λ k. 256 ^ n * slice_index_or xs i 0 + front n (drop k (x ∷ xs))) next

name_byte_small : (b : ℕ) → is_name_byte b ≡ true → b < 256
name_byte_small b h = grind arith

-- each is a byte, and none is 0
abbrev pub AreSigns : List ℕ → Type 0
AreSigns [] = Unit {0}
AreSigns (x ∷ xs) = ((0 < x) × (x < 256)) × AreSigns xs

bytes_of : (xs : List ℕ) → AreSigns xs → AreBytes xs
bytes_of [] h = tt
bytes_of (x ∷ xs) h = (h.0.1, bytes_of xs h.1)

less_of : (a b : ℕ) → a < b → nat_cmp a b ≡ Less
less_of a b h = by (nat_cmp a b) (ranks a b)
  where
    by : (r : Ordering) → MatchOrdering r (a < b) (a ≡ b) (b < a) → r ≡ Less
    by Less k = refl
    by Equal k = absurd (omega (arith, h, k))
    by Greater k = absurd (omega (arith, h, k))

greater_of : (a b : ℕ) → b < a → nat_cmp a b ≡ Greater
greater_of a b h = by (nat_cmp a b) (ranks a b)
  where
    by : (r : Ordering) → MatchOrdering r (a < b) (a ≡ b) (b < a) → r ≡ Greater
    by Less k = absurd (omega (arith, h, k))
    by Equal k = absurd (omega (arith, h, k))
    by Greater k = refl

equal_of : (a b : ℕ) → a ≡ b → nat_cmp a b ≡ Equal
equal_of a b h = by (nat_cmp a b) (ranks a b)
  where
    by : (r : Ordering) → MatchOrdering r (a < b) (a ≡ b) (b < a) → r ≡ Equal
    by Less k = absurd (omega (arith, h, k))
    by Equal k = refl
    by Greater k = absurd (omega (arith, h, k))

-- with the same first digit the rest tells
same_first : (p x a b : ℕ) → nat_cmp (p * x + a) (p * x + b) ≡ nat_cmp a b
same_first p x a b = by (nat_cmp a b) (ranks a b)
  where
    by : (r : Ordering) → MatchOrdering r (a < b) (a ≡ b) (b < a) → nat_cmp (p * x + a) (p * x + b) ≡ r
    by Less k = less_of (p * x + a) (p * x + b) (omega (arith, k))
    by Equal k = equal_of (p * x + a) (p * x + b) (omega (arith, k))
    by Greater k = greater_of (p * x + a) (p * x + b) (omega (arith, k))

first_cmp : (p x y a b : ℕ) → a < p → b < p → nat_cmp (p * x + a) (p * y + b) ≡ ordering_then (nat_cmp x y) (nat_cmp a b)
first_cmp p x y a b h k = by (nat_cmp x y) (ranks x y)
  where
    by : (r : Ordering) → MatchOrdering r (x < y) (x ≡ y) (y < x) → nat_cmp (p * x + a) (p * y + b) ≡ ordering_then r (nat_cmp a b)
    by Less l = less_of (p * x + a) (p * y + b) (heavier p x y a b l h)
    by Equal l = ap (λ z. nat_cmp (p * x + a) (p * z + b)) (sym l) ∙ same_first p x a b
    by Greater l = greater_of (p * x + a) (p * y + b) (heavier p y x b a l k)

then_assoc : (a b c : Ordering) → ordering_then (ordering_then a b) c ≡ ordering_then a (ordering_then b c)
then_assoc Less b c = refl
then_assoc Equal b c = refl
then_assoc Greater b c = refl

-- the first digit, and nothing behind, is more than nothing
some_first : (n y : ℕ) (ys : List ℕ) → 0 < y → 0 < 256 ^ n * y + front n ys
some_first n y ys h =
    let more : 256 ^ n * 0 + 0 < 256 ^ n * y + front n ys = heavier (256 ^ n) 0 y 0 (front n ys) h (pow_some n) in
    omega (arith, more)

-- names by the number of their first bytes, and then by the others
cmp_by_front : (n : ℕ) (xs ys : List ℕ) → AreSigns xs → AreSigns ys → ordering_then (nat_cmp (front n xs) (front n ys)) (slice_cmp nat_cmp (drop n xs) (drop n ys)) ≡ slice_cmp nat_cmp xs ys
cmp_by_front zero xs ys a b = refl
cmp_by_front (suc n) [] [] a b = refl
cmp_by_front (suc n) [] (y ∷ ys) a b = ap (λ o. ordering_then o (slice_cmp nat_cmp [] (drop n ys))) (less_of 0 (256 ^ n * y + front n ys) (some_first n y ys b.0.0))
cmp_by_front (suc n) (x ∷ xs) [] a b = ap (λ o. ordering_then o (slice_cmp nat_cmp (drop n xs) [])) (greater_of (256 ^ n * x + front n xs) 0 (some_first n x xs a.0.0))
cmp_by_front (suc n) (x ∷ xs) (y ∷ ys) a b =
    let rest : Ordering = slice_cmp nat_cmp (drop n xs) (drop n ys) in
    ap (λ o. ordering_then o rest) (first_cmp (256 ^ n) x y (front n xs) (front n ys) (front_small n xs (bytes_of xs a.1)) (front_small n ys (bytes_of ys b.1)))
    ∙ (then_assoc (nat_cmp x y) (nat_cmp (front n xs) (front n ys)) rest ∙ ap (ordering_then (nat_cmp x y)) (cmp_by_front n xs ys a.1 b.1))

other_of : (a b : ℕ) → a < b → (a == b) ≡ false
other_of a b h = grind (arith, nat_tests)

above_of : (a b : ℕ) → b < a → (a == b) ≡ false
above_of a b h = grind (arith, nat_tests)

itself_of : (a : ℕ) → (a == a) ≡ true
itself_of a = grind (arith, nat_tests)

same_rest : (p x a b : ℕ) → (p * x + a == p * x + b) ≡ (a == b)
same_rest p x a b = by (nat_cmp a b) (ranks a b)
  where
    by : (r : Ordering) → MatchOrdering r (a < b) (a ≡ b) (b < a) → (p * x + a == p * x + b) ≡ (a == b)
    by Less k = other_of (p * x + a) (p * x + b) (omega (arith, k)) ∙ sym (other_of a b k)
    by Equal k = ap (λ z. p * x + a == p * x + z) (sym k) ∙ (itself_of (p * x + a) ∙ sym (ap (λ z. a == z) (sym k) ∙ itself_of a))
    by Greater k = above_of (p * x + a) (p * x + b) (omega (arith, k)) ∙ sym (above_of a b k)

first_eq : (p x y a b : ℕ) → a < p → b < p → (p * x + a == p * y + b) ≡ ((x == y) && (a == b))
first_eq p x y a b h k = by (nat_cmp x y) (ranks x y)
  where
    by : (r : Ordering) → MatchOrdering r (x < y) (x ≡ y) (y < x) → (p * x + a == p * y + b) ≡ ((x == y) && (a == b))
    by Less l = other_of (p * x + a) (p * y + b) (heavier p x y a b l h) ∙ sym (ap (λ t. t && (a == b)) (other_of x y l))
    by Equal l = ap (λ z. p * x + a == p * z + b) (sym l) ∙ (same_rest p x a b ∙ sym (ap (λ t. t && (a == b)) (ap (λ z. x == z) (sym l) ∙ itself_of x)))
    by Greater l = above_of (p * x + a) (p * y + b) (heavier p y x b a l k) ∙ sym (ap (λ t. t && (a == b)) (above_of x y l))

and_assoc : (a b c : Bool) → ((a && b) && c) ≡ (a && (b && c))
and_assoc true b c = refl
and_assoc false b c = refl

eq_by_front : (n : ℕ) (xs ys : List ℕ) → AreSigns xs → AreSigns ys → ((front n xs == front n ys) && pointwise nat_eq (drop n xs) (drop n ys)) ≡ pointwise nat_eq xs ys
eq_by_front zero xs ys a b = refl
eq_by_front (suc n) [] [] a b = refl
eq_by_front (suc n) [] (y ∷ ys) a b = ap (λ t. t && pointwise nat_eq [] (drop n ys)) (other_of 0 (256 ^ n * y + front n ys) (some_first n y ys b.0.0))
eq_by_front (suc n) (x ∷ xs) [] a b = ap (λ t. t && pointwise nat_eq (drop n xs) []) (above_of (256 ^ n * x + front n xs) 0 (some_first n x xs a.0.0))
eq_by_front (suc n) (x ∷ xs) (y ∷ ys) a b =
    ap (λ t. t && pointwise nat_eq (drop n xs) (drop n ys)) (first_eq (256 ^ n) x y (front n xs) (front n ys) (front_small n xs (bytes_of xs a.1)) (front_small n ys (bytes_of ys b.1)))
    ∙ (and_assoc (x == y) (front n xs == front n ys) (pointwise nat_eq (drop n xs) (drop n ys)) ∙ ap (λ t. (x == y) && t) (eq_by_front n xs ys a.1 b.1))

-- a name's bytes
sign_of : (b : ℕ) → is_name_byte b ≡ true → 0 < b
sign_of b h = grind arith

signs_each : (xs : List ℕ) → list_all is_name_byte xs ≡ true → AreSigns xs
signs_each [] h = tt
signs_each (x ∷ xs) h = let two : (is_name_byte x ≡ true) × (list_all is_name_byte xs ≡ true) = and_both (is_name_byte x) (list_all is_name_byte xs) h in ((sign_of x two.0, name_byte_small x two.0), signs_each xs two.1)

name_signs : (xs : List ℕ) → IsName xs → AreSigns xs
name_signs xs n = signs_each xs n.each

signs_behind : (n : ℕ) (xs : List ℕ) → AreSigns xs → AreSigns (drop n xs)
signs_behind zero xs h = h
signs_behind (suc n) [] h = tt
signs_behind (suc n) (x ∷ xs) h = signs_behind n xs h.1

-- zeros behind don't count, from a place on
behind_padded : (n k m : ℕ) (xs : List ℕ) → front n (drop k (xs ++ replicate m 0)) ≡ front n (drop k xs)
behind_padded n zero m xs = front_padded n m xs
behind_padded n (suc k) m [] = ap (front n) (drop-replicate (suc k) m 0) ∙ (front_blank n (m - suc k) ∙ sym (front_blank n 0))
behind_padded n (suc k) m (x ∷ xs) = behind_padded n k m xs

pub word_kept : (k : ℕ) (cells : List ℕ) (len : ℕ) → IsKept cells len → front 8 (drop k cells) ≡ front 8 (drop k (take len cells))
word_kept k cells len h = ap (λ l. front 8 (drop k l)) (sym (padded_cells h.padded)) ∙ behind_padded 8 k (32 - length (take len cells)) (take len cells)

step : (n i j : ℕ) (xs : List ℕ) → j ≡ i + 1 → front (suc n) (drop i xs) ≡ 256 ^ n * slice_index_or xs i 0 + front n (drop j xs)
step n i j xs e = front_more n i xs ∙ ap (λ k. 256 ^ n * slice_index_or xs i 0 + front n (drop k xs)) (sym e)

pub front_of_word : (xs : List ℕ) (i : ℕ) → from_be_bytes w64 (slice_index_or xs i 0 ∷ slice_index_or xs (i + 1) 0 ∷ slice_index_or xs (i + 2) 0 ∷ slice_index_or xs (i + 3) 0 ∷ slice_index_or xs (i + 4) 0 ∷ slice_index_or xs (i + 5) 0 ∷ slice_index_or xs (i + 6) 0 ∷ slice_index_or xs (i + 7) 0 ∷ []) ≡ front 8 (drop i xs)
front_of_word xs i = omega (arith, step 7 i (i + 1) xs refl, step 6 (i + 1) (i + 2) xs (omega arith), step 5 (i + 2) (i + 3) xs (omega arith), step 4 (i + 3) (i + 4) xs (omega arith), step 3 (i + 4) (i + 5) xs (omega arith), step 2 (i + 5) (i + 6) xs (omega arith), step 1 (i + 6) (i + 7) xs (omega arith), step 0 (i + 7) (i + 8) xs (omega arith))

then_equal : (o : Ordering) → ordering_then o Equal ≡ o
then_equal Less = refl
then_equal Equal = refl
then_equal Greater = refl

and_true : (b : Bool) → (b && true) ≡ b
and_true true = refl
and_true false = refl

none_left : (k : ℕ) (xs : List ℕ) → length xs ≤ k → drop k xs ≡ []
none_left zero [] h = refl
none_left zero (x ∷ xs) h = absurd (omega (arith, h))
none_left (suc k) [] h = refl
none_left (suc k) (x ∷ xs) h = none_left k xs (omega (arith, h))

-- names word by word
cmp_at : (k next : ℕ) (xs ys : List ℕ) → IsName xs → IsName ys → next ≡ k + 8 → ordering_then (nat_cmp (front 8 (drop k xs)) (front 8 (drop k ys))) (slice_cmp nat_cmp (drop next xs) (drop next ys)) ≡ slice_cmp nat_cmp (drop k xs) (drop k ys)
cmp_at k next xs ys a b e =
    ap (ordering_then (nat_cmp (front 8 (drop k xs)) (front 8 (drop k ys))))
    (ap (λ n. slice_cmp nat_cmp (drop n xs) (drop n ys)) e ∙ sym (ap (λ l. slice_cmp nat_cmp l (drop 8 (drop k ys))) (drop-drop 8 k xs) ∙ ap (λ l. slice_cmp nat_cmp (drop (k + 8) xs) l) (drop-drop 8 k ys)))
    ∙ cmp_by_front 8 (drop k xs) (drop k ys) (signs_behind k xs (name_signs xs a)) (signs_behind k ys (name_signs ys b))

pub cmp_last : (xs ys : List ℕ) → IsName xs → IsName ys → nat_cmp (front 8 (drop 24 xs)) (front 8 (drop 24 ys)) ≡ slice_cmp nat_cmp (drop 24 xs) (drop 24 ys)
cmp_last xs ys a b =
    sym (then_equal (nat_cmp (front 8 (drop 24 xs)) (front 8 (drop 24 ys))))
    ∙ (ap (ordering_then (nat_cmp (front 8 (drop 24 xs)) (front 8 (drop 24 ys)))) (sym (ap (λ l. slice_cmp nat_cmp l (drop 32 ys)) (none_left 32 xs a.fits) ∙ ap (λ l. slice_cmp nat_cmp [] l) (none_left 32 ys b.fits)))
    ∙ cmp_at 24 32 xs ys a b refl)

eq_at : (k next : ℕ) (xs ys : List ℕ) → IsName xs → IsName ys → next ≡ k + 8 → ((front 8 (drop k xs) == front 8 (drop k ys)) && pointwise nat_eq (drop next xs) (drop next ys)) ≡ pointwise nat_eq (drop k xs) (drop k ys)
eq_at k next xs ys a b e =
    ap (λ t. (front 8 (drop k xs) == front 8 (drop k ys)) && t)
    (ap (λ n. pointwise nat_eq (drop n xs) (drop n ys)) e ∙ sym (ap (λ l. pointwise nat_eq l (drop 8 (drop k ys))) (drop-drop 8 k xs) ∙ ap (λ l. pointwise nat_eq (drop (k + 8) xs) l) (drop-drop 8 k ys)))
    ∙ eq_by_front 8 (drop k xs) (drop k ys) (signs_behind k xs (name_signs xs a)) (signs_behind k ys (name_signs ys b))

-- the last word tells
pub eq_last : (xs ys : List ℕ) → IsName xs → IsName ys → (front 8 (drop 24 xs) == front 8 (drop 24 ys)) ≡ pointwise nat_eq (drop 24 xs) (drop 24 ys)
eq_last xs ys a b =
    let none : pointwise nat_eq (drop 32 xs) (drop 32 ys) ≡ true = ap (λ l. pointwise nat_eq l (drop 32 ys)) (none_left 32 xs a.fits) ∙ ap (λ l. pointwise nat_eq [] l) (none_left 32 ys b.fits) in
    sym (and_true (front 8 (drop 24 xs) == front 8 (drop 24 ys)))
    ∙ (ap (λ t. (front 8 (drop 24 xs) == front 8 (drop 24 ys)) && t) (sym none) ∙ eq_at 24 32 xs ys a b refl)

-- the same word: what is behind it tells; another word: it tells
pub eq_then : (k next : ℕ) (xs ys : List ℕ) → IsName xs → IsName ys → next ≡ k + 8 → (front 8 (drop k xs) == front 8 (drop k ys)) ≡ true → pointwise nat_eq (drop next xs) (drop next ys) ≡ pointwise nat_eq (drop k xs) (drop k ys)
eq_then k next xs ys a b e h = sym (ap (λ t. t && pointwise nat_eq (drop next xs) (drop next ys)) h) ∙ eq_at k next xs ys a b e

pub eq_else : (k next : ℕ) (xs ys : List ℕ) → IsName xs → IsName ys → next ≡ k + 8 → (front 8 (drop k xs) == front 8 (drop k ys)) ≡ false → false ≡ pointwise nat_eq (drop k xs) (drop k ys)
eq_else k next xs ys a b e h = sym (ap (λ t. t && pointwise nat_eq (drop next xs) (drop next ys)) h) ∙ eq_at k next xs ys a b e

pub cmp_then : (k next : ℕ) (xs ys : List ℕ) → IsName xs → IsName ys → next ≡ k + 8 → nat_cmp (front 8 (drop k xs)) (front 8 (drop k ys)) ≡ Equal → slice_cmp nat_cmp (drop next xs) (drop next ys) ≡ slice_cmp nat_cmp (drop k xs) (drop k ys)
cmp_then k next xs ys a b e h = sym (ap (λ o. ordering_then o (slice_cmp nat_cmp (drop next xs) (drop next ys))) h) ∙ cmp_at k next xs ys a b e

decided_then : (o rest : Ordering) → (o ≡ Equal → ⊥) → ordering_then o rest ≡ o
decided_then Less rest h = refl
decided_then Equal rest h = absurd (h refl)
decided_then Greater rest h = refl

pub cmp_else : (k next : ℕ) (xs ys : List ℕ) (o : Ordering) → IsName xs → IsName ys → next ≡ k + 8 → o ≡ nat_cmp (front 8 (drop k xs)) (front 8 (drop k ys)) → (o ≡ Equal → ⊥) → o ≡ slice_cmp nat_cmp (drop k xs) (drop k ys)
cmp_else k next xs ys o a b e it h =
    sym (decided_then o (slice_cmp nat_cmp (drop next xs) (drop next ys)) h)
    ∙ (ap (λ r. ordering_then r (slice_cmp nat_cmp (drop next xs) (drop next ys))) it ∙ cmp_at k next xs ys a b e)
