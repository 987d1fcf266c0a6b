-- Digits that are read are those that are printed.
use Rattle.std.proofs.Common.{◌≡◌, ◌<◌, ◌≤◌, ℕ, ◌+◌, ◌-◌, ◌*◌, ◌/◌, ◌%◌, ◌^◌, sym, ap, ap₂, ◌∙◌, arith}
use Rattle.std.specs.Prelude.{true, nat_le, List, [], ◌∷◌, ◌++◌, length, take, drop, decimal, slice_index_or}
use Rattle.std.proofs.lemmas.List.{take_more}
use Rattle.std.proofs.lemmas.Fmt.{decimal_digit, decimal_step}
use Rattle.plain_laws.proofs.Booleans.{and_both, at_most}
use Rattle.fact_lines.specs.Reads.{is_digit}

-- one digit more
pub decimal_on : (n d : ℕ) → 0 < n → d < 10 → n * 10 + d < 2 ^ 64 → decimal (n * 10 + d) ≡ decimal n ++ (48 + d) ∷ []
decimal_on n d some small fits =
    let front : (n * 10 + d) / 10 ≡ n = omega (arith, small) in
    let end : (n * 10 + d) % 10 ≡ d = omega (arith, small) in
    decimal_step (n * 10 + d) (omega (arith, some)) fits ∙ ap₂ (λ a b. decimal a ++ (48 + b) ∷ []) front end

pub digits_on : (line : List ℕ) (i n : ℕ) → i < length line → 48 ≤ slice_index_or line i 0 → slice_index_or line i 0 ≤ 57 → 0 < n → n * 10 + (slice_index_or line i 0 - 48) < 2 ^ 64 → take i line ≡ decimal n
    → take (i + 1) line ≡ decimal (n * 10 + (slice_index_or line i 0 - 48))
digits_on line i n here low high some fits so_far =
    let d : ℕ = slice_index_or line i 0 - 48 in
    let is : 48 + d ≡ slice_index_or line i 0 = omega (arith, low) in
    take_more line i 0 here ∙ (ap₂ (λ (l : List ℕ) (b : ℕ). l ++ b ∷ []) so_far (sym is) ∙ sym (decimal_on n d some (omega (arith, high, low)) fits))

pub first_digit : (line : List ℕ) → 0 < length line → 48 ≤ slice_index_or line 0 0 → slice_index_or line 0 0 ≤ 57 → take 1 line ≡ decimal (slice_index_or line 0 0 - 48)
first_digit line some low high =
    let b : ℕ = slice_index_or line 0 0 in
    let is : 48 + (b - 48) ≡ b = omega (arith, low) in
    take_more line 0 0 some ∙ (ap (λ (x : ℕ). x ∷ []) (sym is) ∙ sym (decimal_digit (b - 48) (omega (arith, high))))

-- the byte of a digit
pub digit_within : (b : ℕ) → is_digit b ≡ true → (48 ≤ b) × (b ≤ 57)
digit_within b h = let k = and_both (nat_le 48 b) (nat_le b 57) h in (at_most 48 b k.0, at_most b 57 k.1)

-- a zero, and what stands behind it
pub zero_first : (line : List ℕ) → slice_index_or line 0 0 ≡ 48 → line ≡ decimal 0 ++ drop 1 line
zero_first [] is = absurd (omega (arith, is))
zero_first (b ∷ bs) is = ap (λ (x : ℕ). x ∷ bs) is ∙ ap (λ (l : List ℕ). l ++ bs) (sym (decimal_digit 0 (omega arith)))
