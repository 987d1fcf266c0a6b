-- What setting and clearing a bit does to a word, and where its lowest is.
use Rattle.std.proofs.Common.{◌⊎◌, inl, inr, ◌≡◌, ◌≢◌, ℕ, ◌+◌, ◌-◌, ◌*◌, ◌/◌, ◌%◌, ◌^◌, ◌<◌, ◌≤◌, true, false, true≢false, ap, sym, ◌∙◌, arith}
use Rattle.std.proofs.Math.Nat.{div-div-eq-div-mul}
use Rattle.std.proofs.lemmas.Nat.{pow-add}
use Rattle.std.proofs.lemmas.Bool.{cases_lt}
use Rattle.std.specs.Int.{w64, bit_not, bit_at, trailing_zeros}
use Rattle.std.specs.Prelude.{◌==◌, bit_or}
use Rattle.std.proofs.lemmas.Nat.Bits.{bit_at_set_same, bit_at_set_other, bit_at_clear_same, bit_at_clear_other, bit_at-zero, bit_at-trailing_zeros, bit_at_above}
use lib.Bits.{bit_and}
use Rattle.place_set.specs.Places.{has_bit}

pub set_same : (n k : ℕ) → k < 64 → has_bit (bit_or n (1 * 2 ^ k % 2 ^ 64)) k ≡ true
set_same n k within = ap (λ b. b == 1) (bit_at_set_same w64 n k within)

pub set_other : (n k t : ℕ) → k < 64 → t ≢ k → has_bit (bit_or n (1 * 2 ^ k % 2 ^ 64)) t ≡ has_bit n t
set_other n k t within other = ap (λ b. b == 1) (bit_at_set_other w64 n k within t other)

pub clear_same : (n k : ℕ) → k < 64 → has_bit (bit_and n (bit_not w64 (1 * 2 ^ k % 2 ^ 64))) k ≡ false
clear_same n k within = ap (λ b. b == 1) (bit_at_clear_same w64 n k within)

pub clear_other : (n k t : ℕ) → k < 64 → t < 64 → t ≢ k → has_bit (bit_and n (bit_not w64 (1 * 2 ^ k % 2 ^ 64))) t ≡ has_bit n t
clear_other n k t within inside other = ap (λ b. b == 1) (bit_at_clear_other w64 n k within t inside other)

-- a shifted word has the bits of the word
shifted : (n f i : ℕ) → f ≤ i → bit_at (n / 2 ^ f) (i - f) ≡ bit_at n i
shifted n f i from = ap (λ m. m % 2) (div-div-eq-div-mul n (2 ^ f) (2 ^ (i - f)) ∙ ap (λ m. n / m) (sym (pow-add 2 f (i - f)) ∙ ap (λ k. 2 ^ k) (omega (arith, from))))

-- nothing is left: no bit from there on
pub none_left : (n f i : ℕ) → n / 2 ^ f ≡ 0 → f ≤ i → has_bit n i ≡ false
none_left n f i none from = ap (λ b. b == 1) (sym (shifted n f i from) ∙ (ap (λ m. bit_at m (i - f)) none ∙ bit_at-zero (i - f)))

-- what is left has its lowest bit
pub lowest_left : (n f : ℕ) → 0 < n / 2 ^ f → n / 2 ^ f < 2 ^ 64 → has_bit n (f + trailing_zeros w64 (n / 2 ^ f)) ≡ true
lowest_left n f some fits =
    let k : ℕ = trailing_zeros w64 (n / 2 ^ f) in
    let same : (f + k) - f ≡ k = omega arith in
    ap (λ b. b == 1) (sym (shifted n f (f + k) (omega arith)) ∙ (ap (bit_at (n / 2 ^ f)) same ∙ (bit_at-trailing_zeros w64 (n / 2 ^ f) some fits).1))

pub none_between : (n f i : ℕ) → 0 < n / 2 ^ f → n / 2 ^ f < 2 ^ 64 → f ≤ i → i < f + trailing_zeros w64 (n / 2 ^ f) → has_bit n i ≡ false
none_between n f i some fits from low = ap (λ b. b == 1) (sym (shifted n f i from) ∙ (bit_at-trailing_zeros w64 (n / 2 ^ f) some fits).2 (i - f) (omega (arith, from, low)))

-- it is one of the word's
pub within_word : (n f : ℕ) → n < 2 ^ 64 → 0 < n / 2 ^ f → n / 2 ^ f < 2 ^ 64 → f + trailing_zeros w64 (n / 2 ^ f) < 64
within_word n f short some fits = by (cases_lt (f + trailing_zeros w64 (n / 2 ^ f)) 64)
  where
    by : (f + trailing_zeros w64 (n / 2 ^ f) < 64) ⊎ (64 ≤ f + trailing_zeros w64 (n / 2 ^ f)) → f + trailing_zeros w64 (n / 2 ^ f) < 64
    by (inl h) = h
    by (inr h) = absurd (true≢false (sym (lowest_left n f some fits) ∙ ap (λ b. b == 1) (bit_at_above n 64 (f + trailing_zeros w64 (n / 2 ^ f)) short h)))
