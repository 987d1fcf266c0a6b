-- Names and numbers.
use Rattle.std.proofs.Common.{◌≡◌, ℕ, ◌+◌, ◌*◌, ◌^◌, ◌≤◌, Bool, true, false, List, length, refl, arith}
use Rattle.std.specs.Prelude.{IsTrue, ◌&&◌, nat_lt, nat_le}
use Rattle.std.specs.List.{list_all}
use Rattle.std.proofs.Math.Nat.{pow-le-pow_right}
use Rattle.std.proofs.lemmas.Grind.{pow_more}
use Rattle.std.proofs.lemmas.Bool.Decides.{nat_tests}
use Rattle.yard_model.specs.Name.{IsName, is_name_byte}
use Rattle.script_text.specs.Words.{is_name_text, is_digit}

-- both hold
pub and_true : (a b : Bool) → IsTrue (a && b) → IsTrue a × IsTrue b
and_true true true h = (refl, refl)
and_true true false h = cc
and_true false b h = cc

pub named : (w : List ℕ) → IsName w → is_name_text w ≡ true
named w n =
    let some : nat_lt 0 (length w) ≡ true = grind (arith, nat_tests, n.some) in
    let fits : nat_le (length w) 32 ≡ true = grind (arith, nat_tests, n.fits) in
    rw (some, fits) n.each

unnamed_true : (w : List ℕ) → is_name_text w ≡ true → IsName w
unnamed_true w h =
    let parts = and_true (nat_lt 0 (length w) && nat_le (length w) 32) (list_all is_name_byte w) h in
    let sizes = and_true (nat_lt 0 (length w)) (nat_le (length w) 32) parts.0 in
    let some : nat_lt 0 (length w) ≡ true = sizes.0 in
    let fits : nat_le (length w) 32 ≡ true = sizes.1 in
    record { some = grind (arith, nat_tests); fits = grind (arith, nat_tests); each = parts.1 }

pub unnamed : (w : List ℕ) → (IsName w → ⊥) → is_name_text w ≡ false
unnamed w n = step (is_name_text w) refl
  where
    step : (b : Bool) → is_name_text w ≡ b → b ≡ false
    step true e = absurd (n (unnamed_true w e))
    step false e = refl

-- a digit's byte
pub digit_within : (b : ℕ) → is_digit b ≡ true → (48 ≤ b) × (b ≤ 57)
digit_within b e =
    let ends = and_true (nat_le 48 b) (nat_le b 57) e in
    let low : nat_le 48 b ≡ true = ends.0 in
    let high : nat_le b 57 ≡ true = ends.1 in
    (grind (arith, nat_tests), grind (arith, nat_tests))

-- a digit more makes a number ten times as long
pub power_more : (i : ℕ) → 10 ^ (i + 1) ≡ 10 ^ i * 10
power_more i = pow_more 10 i

pub power_within : (i : ℕ) → i ≤ 18 → 10 ^ i ≤ 10 ^ 18
power_within i h = pow-le-pow_right (omega arith) h
