-- Places and the words that they stand in.
use Rattle.std.proofs.Common.{◌⊎◌, inl, inr, ◌≡◌, ℕ, ◌+◌, ◌-◌, ◌*◌, ◌/◌, ◌%◌, ◌<◌, ◌≤◌, false, arith, List, ◌∷◌, ap, ◌∙◌}
use Rattle.std.proofs.lemmas.Bool.{cases_lt}
use Rattle.std.proofs.lemmas.Grind.{get_or_head, get_or_tail}
use Rattle.std.specs.Prelude.{slice_index_or}
use Rattle.place_set.specs.Places.{has_bit, has_place}

-- what is read of a place's bit in its word
pub in_word : (words : List ℕ) (at bit : ℕ) → bit < 64 → has_place words (64 * at + bit) ≡ has_bit (slice_index_or words at 0) bit
in_word words at bit within =
    let there : (64 * at + bit) / 64 ≡ at = omega (arith, within) in
    let here : (64 * at + bit) % 64 ≡ bit = omega (arith, within) in
    rw (there, here)

-- none of a word's bits from one up to another
pub none_in_word : (words : List ℕ) (at from to : ℕ) → to ≤ 64 → ((b : ℕ) → from ≤ b → b < to → has_bit (slice_index_or words at 0) b ≡ false) → (i : ℕ) → 64 * at + from ≤ i → i < 64 * at + to → has_place words i ≡ false
none_in_word words at from to short none i low high =
    let there : i / 64 ≡ at = omega (arith, short, low, high) in
    rw there (none (i % 64) (omega (arith, short, low, high)) (omega (arith, short, low, high)))

-- a place of the first word
pub in_first : (word : ℕ) (more : List ℕ) (i : ℕ) → i < 64 → has_place (word ∷ more) i ≡ has_bit word i
in_first word more i low =
    let here : i % 64 ≡ i = omega (arith, low) in
    ap (λ w. has_bit w (i % 64)) (get_or_head word more (i / 64) 0 (omega (arith, low))) ∙ ap (has_bit word) here

-- a place of the words behind the first
pub behind_first : (word : ℕ) (more : List ℕ) (i : ℕ) → 64 ≤ i → has_place (word ∷ more) i ≡ has_place more (i - 64)
behind_first word more i high =
    let there : i / 64 - 1 ≡ (i - 64) / 64 = omega (arith, high) in
    let here : i % 64 ≡ (i - 64) % 64 = omega (arith, high) in
    ap (λ w. has_bit w (i % 64)) (get_or_tail word more (i / 64) 0 (omega (arith, high))) ∙ (ap (λ k. has_bit (slice_index_or more k 0) (i % 64)) there ∙ ap (has_bit (slice_index_or more ((i - 64) / 64) 0)) here)

-- none of the words behind the first from one place up to another
pub none_behind : (word : ℕ) (more : List ℕ) (from to : ℕ) → ((j : ℕ) → from ≤ j → j < to → has_place more j ≡ false) → (i : ℕ) → 64 ≤ i → from ≤ i - 64 → i < 64 + to → has_place (word ∷ more) i ≡ false
none_behind word more from to none i high low short = behind_first word more i high ∙ none (i - 64) low (omega (arith, high, short))

-- none in the first word from one on, and none behind it up to another
pub none_from : (word : ℕ) (more : List ℕ) (from to : ℕ) → ((b : ℕ) → from ≤ b → b < 64 → has_bit word b ≡ false) → ((j : ℕ) → j < to → has_place more j ≡ false) → (i : ℕ) → from ≤ i → i < 64 + to → has_place (word ∷ more) i ≡ false
none_from word more from to first behind i low short = by (cases_lt i 64)
  where
    by : (i < 64) ⊎ (64 ≤ i) → has_place (word ∷ more) i ≡ false
    by (inl h) = in_first word more i h ∙ first i low h
    by (inr h) = behind_first word more i h ∙ behind (i - 64) (omega (arith, h, short))
