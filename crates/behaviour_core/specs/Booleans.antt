-- Booleans that hold together, and what a test of numbers tells.
use Rattle.std.specs.Prelude.{◌≡◌, ℕ, ◌≤◌, ◌<◌, ◌-◌, Bool, true, false, ◌&&◌, ◌||◌, ◌==◌, not, nat_lt, nat_le, IsTrue, refl}
use Rattle.std.proofs.Common.{arith}
use Rattle.std.proofs.lemmas.Bool.Decides.{nat_tests}

pub both : (a b : Bool) → IsTrue a → IsTrue b → IsTrue (a && b)
both true b p q = q
both false b p q = p

pub first : (a b : Bool) → IsTrue (a && b) → IsTrue a
first true b h = refl
first false b h = h

pub second : (a b : Bool) → IsTrue (a && b) → IsTrue b
second true b h = h
second false b h = cc

pub false_of_not : (b : Bool) → IsTrue (not b) → b ≡ false
false_of_not true h = cc
false_of_not false h = refl

pub not_of_false : (b : Bool) → b ≡ false → IsTrue (not b)
not_of_false b e = rw e refl

pub first_false : (a b : Bool) → (a || b) ≡ false → a ≡ false
first_false true b h = h
first_false false b h = refl

pub second_false : (a b : Bool) → (a || b) ≡ false → b ≡ false
second_false true b h = cc
second_false false b h = h

pub le_of_not_lt : (a b : ℕ) → nat_lt b a ≡ false → IsTrue (nat_le a b)
le_of_not_lt a b h = grind (arith, nat_tests)

pub le_of_sub : (a b k : ℕ) → IsTrue (nat_le a k) → IsTrue (nat_le (a - b) k)
le_of_sub a b k h = grind (arith, nat_tests)

pub lt_trans : (a b c : ℕ) → IsTrue (nat_lt a b) → IsTrue (nat_lt b c) → IsTrue (nat_lt a c)
lt_trans a b c h k = grind (arith, nat_tests)

-- two numbers that differ, and neither the first below
pub lt_of_neither : (a b : ℕ) → nat_lt a b ≡ false → (b == a) ≡ false → IsTrue (nat_lt b a)
lt_of_neither a b h k = grind (arith, nat_tests)

pub le_of_lt : (a b : ℕ) → IsTrue (nat_lt a b) → a < b
le_of_lt a b h = grind (arith, nat_tests)

pub le_of : (a b : ℕ) → a ≤ b → IsTrue (nat_le a b)
le_of a b h = grind (arith, nat_tests)

pub le_from : (a b : ℕ) → IsTrue (nat_le a b) → a ≤ b
le_from a b h = grind (arith, nat_tests)

pub lt_from_nonzero : (n : ℕ) → (n == 0) ≡ false → IsTrue (nat_lt 0 n)
lt_from_nonzero n h = grind (arith, nat_tests)

pub same_of : (a b : ℕ) → IsTrue (a == b) → a ≡ b
same_of a b h = grind (arith, nat_tests)
