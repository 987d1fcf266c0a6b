-- The numbers of the packets that were never delivered.
use Rattle.std.proofs.Common.{◌≡◌, ◌≢◌, ℕ, zero, suc, ◌+◌, ◌-◌, ◌<◌, ◌≤◌, sym, ap, ◌∙◌, refl, subst, arith}
use Rattle.std.specs.Prelude.{Bool, true, false, ◌==◌, ◌&&◌, nat_lt, not, List, [], ◌∷◌, ◌++◌, filter, Some, None, if◌then◌else◌}
use Rattle.plain_laws.proofs.Booleans.{other_number, same_number, not_below}
use Rattle.plain_laws.proofs.Booleans.{below as less}
use Rattle.yard_model.specs.World.{wire_limit}
use Rattle.place_set.specs.Places.{Places, is_in}
use Rattle.yard_model.specs.Words.{numbers}
use Rattle.job_board.specs.Parcels.{fresh_of, lowest}

numbers_more : (a n : ℕ) → numbers a (suc n) ≡ numbers a n ++ (a + n) ∷ []
numbers_more a zero = ap (λ k. k ∷ []) (omega arith)
numbers_more a (suc n) = ap (λ ks. a ∷ ks) (numbers_more (a + 1) n ∙ ap (λ k. numbers (a + 1) n ++ k ∷ []) (omega arith))

filter_join : (p : ℕ → Bool) (xs ys : List ℕ) → filter p (xs ++ ys) ≡ filter p xs ++ filter p ys
filter_join p [] ys = refl
filter_join p (x ∷ xs) ys = by (filter_join p xs ys) (p x)
  where
    by : filter p (xs ++ ys) ≡ filter p xs ++ filter p ys → (b : Bool) → (if b then x ∷ filter p (xs ++ ys) else filter p (xs ++ ys)) ≡ (if b then x ∷ filter p xs else filter p xs) ++ filter p ys
    by rest true = ap (λ l. x ∷ l) rest
    by rest false = rest

-- the same of numbers in range
filter_same : (p q : ℕ → Bool) (a n : ℕ) → ((k : ℕ) → a ≤ k → k < a + n → p k ≡ q k) → filter p (numbers a n) ≡ filter q (numbers a n)
filter_same p q a zero h = refl
filter_same p q a (suc n) h =
    ap (λ b. if b then a ∷ filter p (numbers (a + 1) n) else filter p (numbers (a + 1) n)) (h a (omega arith) (omega arith))
    ∙ ap (λ l. if q a then a ∷ l else l) (filter_same p q (a + 1) n (λ k f g. h k (omega (arith, f)) (omega (arith, g))))

-- one packet more
pub fresh_posted : (old new : Places) (n : ℕ) → is_in new n ≡ true → ((i : ℕ) → i ≢ n → is_in new i ≡ is_in old i) → fresh_of new (n + 1) ≡ fresh_of old n ++ (n + 1) ∷ []
fresh_posted old new n it others =
    let one : n + 1 ≡ suc n = omega arith in
    let last : 1 + n ≡ n + 1 = omega arith in
    ap (λ k. filter p (numbers 1 k)) one
    ∙ (ap (filter p) (numbers_more 1 n)
    ∙ (filter_join p (numbers 1 n) ((1 + n) ∷ [])
    ∙ (ap (λ l. l ++ filter p ((1 + n) ∷ [])) (filter_same p (λ k. is_in old (k - 1)) 1 n (λ k f g. others (k - 1) (apart k f g)))
    ∙ (ap (λ b. fresh_of old n ++ (if b then (1 + n) ∷ [] else [])) (ap (is_in new) (back n) ∙ it) ∙ ap (λ k. fresh_of old n ++ k ∷ []) last))))
  where
    p : ℕ → Bool
    p k = is_in new (k - 1)

    back : (n : ℕ) → 1 + n - 1 ≡ n
    back n = omega arith

    apart : (k : ℕ) → 1 ≤ k → k < 1 + n → k - 1 ≢ n
    apart k f g e = omega (arith, f, g, e)

twice : (p q : ℕ → Bool) (xs : List ℕ) → filter q (filter p xs) ≡ filter (λ k. p k && q k) xs
twice p q [] = refl
twice p q (x ∷ xs) = by (twice p q xs) (p x)
  where
    by : filter q (filter p xs) ≡ filter (λ k. p k && q k) xs → (b : Bool) → filter q (if b then x ∷ filter p xs else filter p xs) ≡ (if b && q x then x ∷ filter (λ k. p k && q k) xs else filter (λ k. p k && q k) xs)
    by rest true = ap (λ l. if q x then x ∷ l else l) rest
    by rest false = rest

-- one packet more, whose place was in the set before it came
pub fresh_grown : (old new : Places) (n : ℕ) → is_in old n ≡ true → ((i : ℕ) → i ≢ n + 1 → is_in new i ≡ is_in old i) → fresh_of new (n + 1) ≡ fresh_of old n ++ (n + 1) ∷ []
fresh_grown old new n it others =
    filter_same (λ k. is_in new (k - 1)) (λ k. is_in old (k - 1)) 1 (n + 1) (λ k f g. others (k - 1) (apart k f g)) ∙ fresh_posted old old n it (λ i e. refl)
  where
    apart : (k : ℕ) → 1 ≤ k → k < 1 + (n + 1) → k - 1 ≢ n + 1
    apart k f g e = omega (arith, f, g, e)

-- packet m is delivered
pub fresh_got : (old new : Places) (n m : ℕ) → 0 < m → is_in new (m - 1) ≡ false → ((i : ℕ) → i ≢ m - 1 → is_in new i ≡ is_in old i) → fresh_of new n ≡ filter (λ j. not (j == m)) (fresh_of old n)
fresh_got old new n m above it others = filter_same (λ k. is_in new (k - 1)) (λ k. is_in old (k - 1) && not (k == m)) 1 n (λ k f g. by k f (k == m) refl) ∙ sym (twice (λ k. is_in old (k - 1)) (λ j. not (j == m)) (numbers 1 n))
  where
    none : (b : Bool) → false ≡ (b && false)
    none true = refl
    none false = refl

    whole : (b : Bool) → b ≡ (b && true)
    whole true = refl
    whole false = refl

    apart : (k : ℕ) → 1 ≤ k → k ≢ m → k - 1 ≢ m - 1
    apart k f other e = other (omega (arith, f, above, e))

    by : (k : ℕ) → 1 ≤ k → (b : Bool) → (k == m) ≡ b → is_in new (k - 1) ≡ (is_in old (k - 1) && not (k == m))
    by k f true e = ap (λ j. is_in new (j - 1)) (same_number k m e) ∙ (it ∙ (none (is_in old (k - 1)) ∙ ap (λ b. is_in old (k - 1) && not b) (sym e)))
    by k f false e = others (k - 1) (apart k f (other_number k m e)) ∙ (whole (is_in old (k - 1)) ∙ ap (λ b. is_in old (k - 1) && not b) (sym e))

-- the lowest
lowest_at : (p : ℕ → Bool) (a n m : ℕ) → a ≤ m → m < a + n → p m ≡ true → ((k : ℕ) → a ≤ k → k < m → p k ≡ false) → lowest (filter p (numbers a n)) ≡ Some m
lowest_at p a zero m low high it below = absurd (outside a m low high)
  where
    outside : (a m : ℕ) → a ≤ m → m < a + 0 → ⊥
    outside a m low high = omega (arith, low, high)
lowest_at p a (suc n) m low high it below = by (a == m) refl (λ l. lowest_at p (a + 1) n m l (omega (arith, high)) it (λ k f g. below k (omega (arith, f)) g))
  where
    later : a ≢ m → a + 1 ≤ m
    later other = grind (arith, low, other)

    first : a ≡ m → p a ≡ true
    first e = ap p e ∙ it

    by : (b : Bool) → (a == m) ≡ b → (a + 1 ≤ m → lowest (filter p (numbers (a + 1) n)) ≡ Some m) → lowest (if p a then a ∷ filter p (numbers (a + 1) n) else filter p (numbers (a + 1) n)) ≡ Some m
    by true e rest = ap (λ b. lowest (if b then a ∷ filter p (numbers (a + 1) n) else filter p (numbers (a + 1) n))) (first (same_number a m e)) ∙ ap Some (same_number a m e)
    by false e rest =
        let on : a + 1 ≤ m = later (other_number a m e) in
        ap (λ b. lowest (if b then a ∷ filter p (numbers (a + 1) n) else filter p (numbers (a + 1) n))) (below a (omega arith) (omega (arith, on))) ∙ rest on

lowest_none : (p : ℕ → Bool) (a n : ℕ) → ((k : ℕ) → a ≤ k → k < a + n → p k ≡ false) → lowest (filter p (numbers a n)) ≡ None
lowest_none p a zero h = refl
lowest_none p a (suc n) h = ap (λ b. lowest (if b then a ∷ filter p (numbers (a + 1) n) else filter p (numbers (a + 1) n))) (h a (omega arith) (omega arith)) ∙ lowest_none p (a + 1) n (λ k f g. h k (omega (arith, f)) (omega (arith, g)))

pub next_is : (set : Places) (n place : ℕ) → place < n → is_in set place ≡ true → ((i : ℕ) → i < place → is_in set i ≡ false) → Some (place + 1) ≡ lowest (fresh_of set n)
next_is set n place lt it below = sym (lowest_at (λ k. is_in set (k - 1)) 1 n (place + 1) (omega arith) (omega (arith, lt)) (ap (is_in set) (back place) ∙ it) (λ k f g. below (k - 1) (omega (arith, f, g))))
  where
    back : (n : ℕ) → n + 1 - 1 ≡ n
    back n = omega arith

pub none_is : (set : Places) (n place : ℕ) → n ≤ place → ((i : ℕ) → i < place → is_in set i ≡ false) → None ≡ lowest (fresh_of set n)
none_is set n place le below = sym (lowest_none (λ k. is_in set (k - 1)) 1 n (λ k f g. below (k - 1) (omega (arith, f, g, le))))

-- below the base and from there on
pub all_below : (set : Places) (base place : ℕ) → ((i : ℕ) → i < base → is_in set i ≡ false) → ((i : ℕ) → base ≤ i → i < place → is_in set i ≡ false) → (i : ℕ) → i < place → is_in set i ≡ false
all_below set base place below between i lt = by (nat_lt i base) refl
  where
    from : nat_lt i base ≡ false → base ≤ i
    from e = not_below i base e

    by : (b : Bool) → nat_lt i base ≡ b → is_in set i ≡ false
    by true e = below i (less i base e)
    by false e = between i (from e) lt

pub within_limit : (set : Places) (n place : ℕ) → set.bound ≡ wire_limit + 1 → n ≤ wire_limit → place < n → place < set.bound
within_limit set n place is few lt = subst (λ k. place < k) (sym is) (omega (arith, few, lt))
