-- Gaps, by a test that is quicker.
use Rattle.std.proofs.Common.{◌≡◌, ℕ, ◌+◌, ◌<◌, ◌≤◌, Bool, true, false, not, List, [], ◌∷◌, length, refl, sym, ap, subst, ◌∙◌, arith}
use Rattle.std.specs.Prelude.{Some, None, cond, nat_lt, nat_le, slice_index, ◌==◌}
use Rattle.std.specs.List.{position, position_or_len}
use Rattle.std.proofs.lemmas.Bool.Decides.{nat_tests}
use Rattle.script_text.specs.Words.{is_gap}
use Rattle.script_text.proofs.Cuts.{found, missed, one_more}

abbrev pub is_low : ℕ → Bool
is_low b = nat_le b 32

-- what is above a space is no gap
no_gap : (b : ℕ) → is_low b ≡ false → is_gap b ≡ false
no_gap b e =
    let space : (b == 32) ≡ false = grind (arith, nat_tests) in
    let tab : (b == 9) ≡ false = grind (arith, nat_tests) in
    rw (space, tab) refl

place_is : (xs : List ℕ) → position_or_len is_low xs < length xs → is_gap (slice_index xs (position_or_len is_low xs)) ≡ true → position_or_len is_gap xs ≡ position_or_len is_low xs
place_is [] lt at = absurd (omega arith)
place_is (x ∷ xs) lt at = step (is_low x) refl (place_is xs) lt at
  where
    step : (b : Bool) → is_low x ≡ b
        → (position_or_len is_low xs < length xs → is_gap (slice_index xs (position_or_len is_low xs)) ≡ true → position_or_len is_gap xs ≡ position_or_len is_low xs)
        → cond (not b) (1 + position_or_len is_low xs) 0 < length (x ∷ xs) → is_gap (slice_index (x ∷ xs) (cond (not b) (1 + position_or_len is_low xs) 0)) ≡ true
        → position_or_len is_gap (x ∷ xs) ≡ cond (not b) (1 + position_or_len is_low xs) 0
    step true e rest lt at = ap (λ t. cond (not t) (1 + position_or_len is_gap xs) 0) at
    step false e rest lt at =
        let there : is_gap (slice_index xs (position_or_len is_low xs)) ≡ true = sym (ap (λ n. is_gap (slice_index (x ∷ xs) n)) (one_more (position_or_len is_low xs))) ∙ at in
        ap (λ t. cond (not t) (1 + position_or_len is_gap xs) 0) (no_gap x e) ∙ ap (λ n. 1 + n) (rest (omega (arith, lt)) there)

far_is : (xs : List ℕ) → length xs ≤ position_or_len is_low xs → length xs ≤ position_or_len is_gap xs
far_is [] le = omega arith
far_is (x ∷ xs) le = step (is_low x) refl (far_is xs) le
  where
    step : (b : Bool) → is_low x ≡ b → (length xs ≤ position_or_len is_low xs → length xs ≤ position_or_len is_gap xs)
        → length (x ∷ xs) ≤ cond (not b) (1 + position_or_len is_low xs) 0 → length (x ∷ xs) ≤ position_or_len is_gap (x ∷ xs)
    step true e rest le = absurd (omega (arith, le))
    step false e rest le =
        let more : length xs ≤ position_or_len is_gap xs = rest (omega (arith, le)) in
        subst (λ t. length (x ∷ xs) ≤ cond (not t) (1 + position_or_len is_gap xs) 0) (sym (no_gap x e)) (omega (arith, more))

-- the first byte up to a space, where it is a gap, is the first gap
pub gap_found : (xs : List ℕ) (i : ℕ) → position is_low xs ≡ Some i → is_gap (slice_index xs i) ≡ true → position is_gap xs ≡ Some i
gap_found xs i e at =
    let first = found is_low xs i e in
    let within : position_or_len is_low xs < length xs = first.1 in
    let here = place_is xs within (ap (λ n. is_gap (slice_index xs n)) first.0 ∙ at) in
    let inside : nat_lt (position_or_len is_low xs) (length xs) ≡ true = grind (arith, nat_tests) in
    ap (λ n. cond (nat_lt n (length xs)) (Some n) None) here ∙ (ap (λ t. cond t (Some (position_or_len is_low xs)) None) inside ∙ ap Some first.0)

pub gap_none : (xs : List ℕ) → position is_low xs ≡ None → position is_gap xs ≡ None
gap_none xs e =
    let far : length xs ≤ position_or_len is_gap xs = far_is xs (missed is_low xs e) in
    let past : nat_lt (position_or_len is_gap xs) (length xs) ≡ false = grind (arith, nat_tests) in
    ap (λ t. cond t (Some (position_or_len is_gap xs)) None) past
