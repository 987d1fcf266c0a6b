-- The members of a set: how many there are, and what is left without the lowest.
use Rattle.std.proofs.Common.{◌≡◌, ◌≢◌, ℕ, zero, suc, ◌+◌, ◌*◌, ◌%◌, ◌^◌, ◌<◌, ◌≤◌, Bool, true, false, cond, [], ◌∷◌, length, map, get_or, drop, ap, sym, ◌∙◌, refl, arith, if◌then◌else◌, true≢false, ◌⊎◌, inl, inr}
use Rattle.std.specs.Prelude.{◌==◌, nat_lt, filter, count_ones}
use Rattle.std.proofs.lemmas.Bool.{eqb-true, eqb-false, ltb-true, ltb-false, cases_lt}
use Rattle.std.specs.Int.{bit_at, w128, bit_not}
use lib.Bits.{bit_and}
use lib.Lanes.{mask_l}
use Rattle.std.proofs.lemmas.List.{get_or-map, get_or_past, length-map}
use Rattle.std.proofs.lemmas.List.Sums.{length-filter, count_by-le-length}
use Rattle.std.proofs.lemmas.Simd.{bit_mask_l, ones-mask_l}
use Rattle.std.proofs.lemmas.Nat.Bits.{bit_at-lt, bit_at_above, bit_at-zero, bit_at_clear_same, bit_at_clear_other, same_from_bits}
use Rattle.yard_model.specs.Words.{numbers}
use Rattle.yard_model.specs.ShardSet.{has}
use Rattle.least_shard.specs.Spread.{members_below, members}

pub length-numbers : (a n : ℕ) → length (numbers a n) ≡ n
length-numbers a zero = refl
length-numbers a (suc n) = ap suc (length-numbers (a + 1) n)

pub get_or-numbers : (a n i d : ℕ) → i < n → get_or (numbers a n) i d ≡ a + i
get_or-numbers a zero i d h = absurd (omega arith)
get_or-numbers a (suc n) zero d h = omega arith
get_or-numbers a (suc n) (suc i) d h = get_or-numbers (a + 1) n i d (omega arith) ∙ omega arith

bit_by : (b : ℕ) → b < 2 → cond (b == 1) 1 0 ≡ b
bit_by zero h = refl
bit_by (suc zero) h = refl
bit_by (suc (suc b)) h = absurd (omega arith)

inside : (k n i : ℕ) → i < k → get_or (map (has n) (numbers 0 k)) i false ≡ has n i
inside k n i h = get_or-map (has n) (numbers 0 k) i 0 false (omega (arith, length-numbers 0 k)) ∙ ap (has n) (get_or-numbers 0 k i 0 h ∙ omega arith)

past : (k n i : ℕ) → k ≤ i → get_or (map (has n) (numbers 0 k)) i false ≡ false
past k n i h = get_or_past (map (has n) (numbers 0 k)) i false (omega (arith, length-numbers 0 k, length-map (numbers 0 k) (has n)))

one_bit : (k n i : ℕ) → n < 2 ^ k → (b : Bool) → nat_lt i k ≡ b → bit_at n i ≡ cond (get_or (map (has n) (numbers 0 k)) i false) 1 0
one_bit k n i h true e = sym (ap (λ b. cond b 1 0) (inside k n i (ltb-true i k e)) ∙ bit_by (bit_at n i) (bit_at-lt n i))
one_bit k n i h false e = bit_at_above n k i h (ltb-false i k e) ∙ sym (ap (λ b. cond b 1 0) (past k n i (ltb-false i k e)))

as_mask : (k n : ℕ) → n < 2 ^ k → n ≡ mask_l (map (has n) (numbers 0 k))
as_mask k n h = same_from_bits n _ (λ i. one_bit k n i h (nat_lt i k) refl ∙ sym (bit_mask_l (map (has n) (numbers 0 k)) i))

-- as many members as bits that are one
pub ones : (k n : ℕ) → n < 2 ^ k → count_ones n ≡ length (members_below k n)
unfolding members_below
ones k n h = ap count_ones (as_mask k n h) ∙ (ones-mask_l (has n) (numbers 0 k) ∙ sym (length-filter (has n) (numbers 0 k)))

pub ones_are : (n : ℕ) → n < 2 ^ 128 → count_ones n ≡ length (members n)
unfolding members
ones_are n h = ones 128 n h

same_filter : (p q : ℕ → Bool) (a k : ℕ) → ((t : ℕ) → a ≤ t → t < a + k → q t ≡ p t) → filter q (numbers a k) ≡ filter p (numbers a k)
same_filter p q a zero h = refl
same_filter p q a (suc k) h =
    ap (λ b. if b then a ∷ filter q (numbers (a + 1) k) else filter q (numbers (a + 1) k)) (h a (omega arith) (omega arith))
    ∙ ap (λ l. if p a then a ∷ l else l) (same_filter p q (a + 1) k (λ t low high. h t (omega arith) (omega arith)))

low_by : (p q : ℕ → Bool) (a k s : ℕ) → p s ≡ true → ((t : ℕ) → t < s → p t ≡ false) → q s ≡ false → ((t : ℕ) → t < a + suc k → t ≢ s → q t ≡ p t) → a ≤ s
    → (a < s → filter p (numbers (a + 1) k) ≡ s ∷ filter q (numbers (a + 1) k)) → (b : Bool) → (a == s) ≡ b
    → filter p (numbers a (suc k)) ≡ s ∷ filter q (numbers a (suc k))
low_by p q a k s here below gone others within next true e =
    let same : a ≡ s = eqb-true a s e in
    ap (λ b. if b then a ∷ filter p (numbers (a + 1) k) else filter p (numbers (a + 1) k)) (ap p same ∙ here)
    ∙ (ap (λ l. a ∷ l) (sym (same_filter p q (a + 1) k (λ t low high. others t (omega arith) (omega arith))))
    ∙ (ap (λ x. x ∷ filter q (numbers (a + 1) k)) same
    ∙ ap (λ b. s ∷ (if b then a ∷ filter q (numbers (a + 1) k) else filter q (numbers (a + 1) k))) (sym (ap q same ∙ gone))))
low_by p q a k s here below gone others within next false e =
    let apart : a ≢ s = eqb-false a s e in
    let less : a < s = omega arith in
    ap (λ b. if b then a ∷ filter p (numbers (a + 1) k) else filter p (numbers (a + 1) k)) (below a less)
    ∙ (next less
    ∙ ap (λ b. s ∷ (if b then a ∷ filter q (numbers (a + 1) k) else filter q (numbers (a + 1) k))) (sym (others a (omega arith) apart ∙ below a less)))

low : (p q : ℕ → Bool) (a k s : ℕ) → p s ≡ true → ((t : ℕ) → t < s → p t ≡ false) → q s ≡ false → ((t : ℕ) → t < a + k → t ≢ s → q t ≡ p t) → a ≤ s → s < a + k
    → filter p (numbers a k) ≡ s ∷ filter q (numbers a k)
low p q a zero s here below gone others within fits = absurd (omega arith)
low p q a (suc k) s here below gone others within fits =
    low_by p q a k s here below gone others within
    (λ less. low p q (a + 1) k s here below gone (λ t high. others t (omega arith)) (omega arith) (omega arith))
    (a == s) refl

-- the lowest shard of a set, and the others
pub lowest_first : (n m s : ℕ) → s < 128 → has n s ≡ true → ((t : ℕ) → t < s → has n t ≡ false) → has m s ≡ false → ((t : ℕ) → t < 128 → t ≢ s → has m t ≡ has n t)
    → members n ≡ s ∷ members m
unfolding members members_below
lowest_first n m s fits here below gone others = low (has n) (has m) 0 128 s here below gone (λ t high. others t (omega arith)) (omega arith) (omega arith)

-- the set without its lowest shard
pub rest_is : (n m s : ℕ) → s < 128 → has n s ≡ true → ((t : ℕ) → t < s → has n t ≡ false) → has m s ≡ false → ((t : ℕ) → t < 128 → t ≢ s → has m t ≡ has n t)
    → members m ≡ drop 1 (members n)
rest_is n m s fits here below gone others = sym (ap (drop 1) (lowest_first n m s fits here below gone others))

none_from : (a k : ℕ) → filter (has 0) (numbers a k) ≡ []
none_from a zero = refl
none_from a (suc k) = ap (λ b. if b == 1 then a ∷ filter (has 0) (numbers (a + 1) k) else filter (has 0) (numbers (a + 1) k)) (bit_at-zero a) ∙ none_from (a + 1) k

pub none_in : members 0 ≡ []
unfolding members members_below
none_in = none_from 0 128

below_by : (n t : ℕ) → n < 2 ^ 128 → has n t ≡ true → (t < 128) ⊎ (128 ≤ t) → t < 128
below_by n t fits here (inl low) = low
below_by n t fits here (inr high) = absurd (true≢false (sym here ∙ ap (λ b. b == 1) (bit_at_above n 128 t fits high)))

-- the shards of a set of 128 bits are below 128
pub all_below : (n t : ℕ) → n < 2 ^ 128 → has n t ≡ true → t < 128
all_below n t fits here = below_by n t fits here (cases_lt t 128)

one_less : ℕ → ℕ → ℕ
one_less n s = bit_and n (bit_not w128 (1 * 2 ^ s % 2 ^ 128))

-- the lowest shard comes first
pub lowest_is : (n s : ℕ) → s < 128 → has n s ≡ true → ((t : ℕ) → t < s → has n t ≡ false) → get_or (members n) 0 0 ≡ s
unfolding one_less
lowest_is n s fits here below = ap (λ l. get_or l 0 0) (lowest_first n (one_less n s) s fits here below
    (ap (λ b. b == 1) (bit_at_clear_same w128 n s fits)) (λ t low other. ap (λ b. b == 1) (bit_at_clear_other w128 n s fits t low other)))

pub few_members : (n : ℕ) → length (members n) ≤ 128
unfolding members members_below
few_members n = omega (arith, length-filter (has n) (numbers 0 128), count_by-le-length (has n) (numbers 0 128), length-numbers 0 128)
