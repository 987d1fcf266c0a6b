-- What vectors of sixteen bytes tell of each of them.
use Rattle.std.proofs.Common.{◌≡◌, ℕ, ◌<◌, ◌≤◌, ◌%◌, ◌^◌, Bool, true, false, cond, ltb, List, [], ◌∷◌, length, get_or, map, replicate, refl, sym, ap, ◌∙◌, arith, w8}
use Rattle.std.specs.Prelude.{◌&&◌, nat_lt, nat_le, max}
use Rattle.std.specs.Int.{bit_at}
use Rattle.std.specs.Simd.Lanes.{zip2, mask_l, top}
use Rattle.std.proofs.lemmas.Simd.{bitmask_splat, bit_mask_l, tops_compared, mask_l-mod}
use Rattle.std.proofs.lemmas.List.{length-map, get_or-map, get_or_past}
use Rattle.std.proofs.lemmas.Bool.Decides.{nat_tests}
use Rattle.script_text.specs.Words.{is_printable}

-- a test of a lane, or of none past them
lane_test : (t : ℕ → Bool) (xs : List ℕ) (k : ℕ) → length xs ≡ 16 → get_or (map t xs) k false ≡ (nat_lt k 16 && t (get_or xs k 0))
lane_test t xs k long = step (nat_lt k 16) refl
  where
    step : (b : Bool) → nat_lt k 16 ≡ b → get_or (map t xs) k false ≡ (b && t (get_or xs k 0))
    step true near =
        let below : k < 16 = grind (arith, nat_tests) in
        get_or-map t xs k 0 false (omega (arith, long))
    step false far =
        let past : 16 ≤ k = grind (arith, nat_tests) in
        get_or_past (map t xs) k false (omega (arith, length-map xs t, long))

bits_of : (t : ℕ → Bool) (xs : List ℕ) (k : ℕ) → length xs ≡ 16 → bit_at (mask_l (map t xs)) k ≡ cond (nat_lt k 16 && t (get_or xs k 0)) 1 0
bits_of t xs k long = bit_mask_l (map t xs) k ∙ ap (λ b. cond b 1 0) (lane_test t xs k long)

splat_zip2 : (f : ℕ → ℕ → Bool) (x : ℕ) (ys : List ℕ) → zip2 f (replicate (length ys) x) ys ≡ map (f x) ys
splat_zip2 f x [] = refl
splat_zip2 f x (y ∷ ys) = ap (λ rest. f x y ∷ rest) (splat_zip2 f x ys)

-- the mask of what is less than 32
pub bits_below : (xs : List ℕ) (k : ℕ) → length xs ≡ 16
    → bit_at (mask_l (map (top 7) (zip2 (λ a b. cond (ltb a b) 255 0) xs (replicate 16 32))) % 2 ^ 64) k ≡ cond (nat_lt k 16 && nat_lt (get_or xs k 0) 32) 1 0
bits_below xs k long = ap (λ n. bit_at n k) (bitmask_splat w8 ltb xs 16 32 long (omega arith)) ∙ bits_of (λ x. ltb x 32) xs k long

-- the mask of what is greater than 126
pub bits_above : (xs : List ℕ) (k : ℕ) → length xs ≡ 16
    → bit_at (mask_l (map (top 7) (zip2 (λ a b. cond (ltb a b) 255 0) (replicate 16 126) xs)) % 2 ^ 64) k ≡ cond (nat_lt k 16 && nat_lt 126 (get_or xs k 0)) 1 0
bits_above xs k long =
    let lanes = tops_compared w8 ltb (replicate 16 126) xs ∙ (ap (λ m. zip2 ltb (replicate m 126) xs) (sym long) ∙ splat_zip2 ltb 126 xs) in
    ap (λ n. bit_at n k) (ap (λ ms. mask_l ms % 2 ^ 64) lanes ∙ mask_l-mod (map (ltb 126) xs) 64 (omega (arith, length-map xs (ltb 126), long)))
    ∙ bits_of (ltb 126) xs k long

unset : (b : Bool) → cond {A = ℕ} b 1 0 ≡ 0 → b ≡ false
unset true e = absurd (omega (arith, e))
unset false e = refl

-- where neither bit is set the byte is printable
pub none_set : (k b low high : ℕ) → k < 16 → low ≡ cond (nat_lt k 16 && nat_lt b 32) 1 0 → high ≡ cond (nat_lt k 16 && nat_lt 126 b) 1 0 → max low high ≡ 0 → is_printable b ≡ true
none_set k b low high near l h e =
    let here : nat_lt k 16 ≡ true = grind (arith, nat_tests) in
    let low_is : low ≡ 0 = omega (arith, e) in
    let high_is : high ≡ 0 = omega (arith, e) in
    let not_low : nat_lt b 32 ≡ false = unset (nat_lt b 32) (ap (λ t. cond {A = ℕ} (t && nat_lt b 32) 1 0) (sym here) ∙ (sym l ∙ low_is)) in
    let not_high : nat_lt 126 b ≡ false = unset (nat_lt 126 b) (ap (λ t. cond {A = ℕ} (t && nat_lt 126 b) 1 0) (sym here) ∙ (sym h ∙ high_is)) in
    let from : nat_le 32 b ≡ true = grind (arith, nat_tests) in
    let to : nat_le b 126 ≡ true = grind (arith, nat_tests) in
    rw (from, to) refl

-- a bit that is set is one of the sixteen
pub some_set : (k b low high : ℕ) → low ≡ cond (nat_lt k 16 && nat_lt b 32) 1 0 → high ≡ cond (nat_lt k 16 && nat_lt 126 b) 1 0 → max low high ≡ 1 → k < 16
some_set k b low high l h e = step (nat_lt k 16) refl l h
  where
    step : (t : Bool) → nat_lt k 16 ≡ t → low ≡ cond (t && nat_lt b 32) 1 0 → high ≡ cond (t && nat_lt 126 b) 1 0 → k < 16
    step true near l h = grind (arith, nat_tests)
    step false far l h = absurd (omega (arith, l, h, e))
