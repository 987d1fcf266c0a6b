-- Lines of printable bytes.
use Rattle.std.proofs.Common.{◌≡◌, ℕ, ◌+◌, ◌-◌, ◌<◌, ◌≤◌, Bool, true, false, not, List, [], ◌∷◌, length, take, drop, refl, ap, subst, ◌∙◌, arith, zero, suc}
use Rattle.std.specs.Prelude.{Some, None, cond, nat_lt, nat_le, slice_index, ◌==◌, ◌&&◌, ◌||◌}
use Rattle.std.specs.List.{position, position_or_len, list_all}
use Rattle.std.specs.Str.Lines.{lines, strip_carriage_return}
use Rattle.std.proofs.lemmas.List.{get_or-take, length-take-le}
use Rattle.std.proofs.lemmas.Bool.Decides.{nat_tests}
use Rattle.script_text.specs.Words.{is_plain, is_printable, ArePrintable}
use Rattle.script_text.proofs.Cuts.{is_lf, lines_cut}
use Rattle.script_text.proofs.Names.{and_true}

-- what is printable is neither LF nor CR
sizes : (b : ℕ) → is_printable b ≡ true → 32 ≤ b
sizes b h = let low : nat_le 32 b ≡ true = (and_true (nat_le 32 b) (nat_le b 126) h).0 in grind (arith, nat_tests)

not_lf : (b : ℕ) → is_printable b ≡ true → (b == 10) ≡ false
not_lf b h = let low : 32 ≤ b = sizes b h in grind (arith, nat_tests)

not_cr : (b : ℕ) → is_printable b ≡ true → (b == 13) ≡ false
not_cr b h = let low : 32 ≤ b = sizes b h in grind (arith, nat_tests)

place_is : (bs : List ℕ) (i : ℕ) → i < length bs → ArePrintable bs i → (slice_index bs i == 10) ≡ true → position_or_len is_lf bs ≡ i
place_is [] i lt all at = absurd (omega arith)
place_is (b ∷ bs) zero lt all at = ap (λ t. cond (not t) (1 + position_or_len is_lf bs) 0) at
place_is (b ∷ bs) (suc i) lt all at =
    let rest : position_or_len is_lf bs ≡ i = place_is bs i (omega arith) (λ k l. all (suc k) (omega arith)) at in
    ap (λ t. cond (not t) (1 + position_or_len is_lf bs) 0) (not_lf b (all 0 (omega arith))) ∙ omega (arith, rest)

lf_place : (bs : List ℕ) (i : ℕ) → i < length bs → ArePrintable bs i → (slice_index bs i == 10) ≡ true → position is_lf bs ≡ Some i
lf_place bs i lt all at =
    let place = place_is bs i lt all at in
    let inside : nat_lt i (length bs) ≡ true = grind (arith, nat_tests) in
    ap (λ n. cond (nat_lt n (length bs)) (Some n) None) place ∙ ap (λ t. cond t (Some i) None) inside

-- no CR is at its end
strip_none : (bs : List ℕ) (i : ℕ) → i ≤ length bs → ArePrintable bs i → strip_carriage_return (take i bs) ≡ take i bs
strip_none bs zero le all = refl
strip_none bs (suc i) le all =
    let long : length (take (suc i) bs) ≡ suc i = length-take-le (suc i) bs le in
    let last : slice_index (take (suc i) bs) (length (take (suc i) bs) - 1) ≡ slice_index bs i =
    ap (λ n. slice_index (take (suc i) bs) n) (omega (arith, long)) ∙ get_or-take (suc i) bs i 0 (omega arith) in
    ap (λ t. cond t (take (length (take (suc i) bs) - 1) (take (suc i) bs)) (take (suc i) bs)) (ap (λ b. b == 13) last ∙ not_cr (slice_index bs i) (all i (omega arith)))

-- the line that ends at the first byte that isn't printable
pub lines_clean : (bs : List ℕ) (i : ℕ) → i < length bs → ArePrintable bs i → (slice_index bs i == 10) ≡ true → lines bs ≡ take i bs ∷ lines (drop (i + 1) bs)
lines_clean bs i lt all at = lines_cut bs i (lf_place bs i lt all at) ∙ ap (λ l. l ∷ lines (drop (i + 1) bs)) (strip_none bs i (omega arith) all)

pub plain_clean : (bs : List ℕ) (i : ℕ) → i ≤ length bs → ArePrintable bs i → list_all is_plain (take i bs) ≡ true
plain_clean bs zero le all = refl
plain_clean [] (suc i) le all = refl
plain_clean (b ∷ bs) (suc i) le all =
    ap (λ t. (t || (b == 9)) && list_all is_plain (take i bs)) (all 0 (omega arith)) ∙ plain_clean bs i (omega arith) (λ k l. all (suc k) (omega arith))

-- some more of them
pub printable_on : (bs : List ℕ) (at more m : ℕ) → ArePrintable bs at → ((j : ℕ) → j < more → is_printable (slice_index bs (at + j)) ≡ true) → m ≡ at + more → ArePrintable bs m
printable_on bs at more m before later e k lt = step (nat_lt k at) refl
  where
    step : (b : Bool) → nat_lt k at ≡ b → is_printable (slice_index bs k) ≡ true
    step true near = before k (grind (arith, nat_tests))
    step false far =
        let past : at ≤ k = grind (arith, nat_tests) in
        let same : at + (k - at) ≡ k = omega arith in
        subst (λ n. is_printable (slice_index bs n) ≡ true) same (later (k - at) (omega arith))

-- one more of them
pub printable_next : (bs : List ℕ) (at : ℕ) → ArePrintable bs at → is_printable (slice_index bs at) ≡ true → ArePrintable bs (at + 1)
printable_next bs at before one k lt = step (nat_lt k at) refl
  where
    step : (b : Bool) → nat_lt k at ≡ b → is_printable (slice_index bs k) ≡ true
    step true near = before k (grind (arith, nat_tests))
    step false far =
        let past : at ≤ k = grind (arith, nat_tests) in
        let same : at ≡ k = omega arith in
        subst (λ n. is_printable (slice_index bs n) ≡ true) same one
