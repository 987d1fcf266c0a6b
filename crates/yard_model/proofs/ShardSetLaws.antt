-- What setting and clearing one bit does to the set.
use Rattle.std.proofs.Common.{◌≡◌, ◌≢◌, ℕ, ◌*◌, ◌%◌, ◌^◌, ◌<◌, true, false, ap, ◌∙◌, arith}
use Rattle.std.specs.Int.Bits.{bit_or}
use Rattle.std.specs.Int.{w128, bit_not, trailing_zeros}
use Rattle.std.specs.Prelude.{◌==◌, Option, Some, None, IsSome, IfNone}
use Rattle.std.proofs.lemmas.Nat.Bits.{bit_at_set_same, bit_at_set_other, bit_at_clear_same, bit_at_clear_other, bit_at-zero, bit_at-trailing_zeros}
use Rattle.std.proofs.Math.Nat.{mod-eq_of_lt}
use Rattle.std.proofs.lemmas.Nat.{pow_below}
use lib.Bits.{bit_and}
use Rattle.yard_model.specs.ShardSet.{has, with_shard}

pub none : (t : ℕ) → has 0 t ≡ false
none t = ap (λ b. b == 1) (bit_at-zero t)

pub set_same : (n k : ℕ) → k < 128 → has (bit_or n (1 * 2 ^ k % 2 ^ 128)) k ≡ true
set_same n k within = ap (λ b. b == 1) (bit_at_set_same w128 n k within)

pub set_other : (n k t : ℕ) → k < 128 → t ≢ k → has (bit_or n (1 * 2 ^ k % 2 ^ 128)) t ≡ has n t
set_other n k t within other = ap (λ b. b == 1) (bit_at_set_other w128 n k within t other)

below : (n k : ℕ) → k < 128 → 1 * 2 ^ k < 2 ^ 128
below n k within = let less : 2 ^ k < 2 ^ 128 = pow_below k 128 within in omega arith

pub set_bits : (n k : ℕ) → k < 128 → bit_or n (1 * 2 ^ k % 2 ^ 128) ≡ with_shard n k
set_bits n k within = ap (bit_or n) (mod-eq_of_lt (below n k within) ∙ omega arith)

pub clear_same : (n k : ℕ) → k < 128 → has (bit_and n (bit_not w128 (1 * 2 ^ k % 2 ^ 128))) k ≡ false
clear_same n k within = ap (λ b. b == 1) (bit_at_clear_same w128 n k within)

pub clear_other : (n k t : ℕ) → k < 128 → t < 128 → t ≢ k → has (bit_and n (bit_not w128 (1 * 2 ^ k % 2 ^ 128))) t ≡ has n t
clear_other n k t within inside other = ap (λ b. b == 1) (bit_at_clear_other w128 n k within t inside other)

-- a set that isn't empty has its lowest shard at the number of its trailing zeros
pub lowest_in : (n : ℕ) → 0 < n → n < 2 ^ 128 → has n (trailing_zeros w128 n) ≡ true
lowest_in n some fits = ap (λ b. b == 1) (bit_at-trailing_zeros w128 n some fits).1

pub none_below : (n t : ℕ) → 0 < n → n < 2 ^ 128 → t < trailing_zeros w128 n → has n t ≡ false
none_below n t some fits low = ap (λ b. b == 1) ((bit_at-trailing_zeros w128 n some fits).2 t low)

-- what is there is not nothing
pub some_not_none : {A : Type 0} (P : Type 0) (o : Option A) → IsSome o → IfNone o P
some_not_none {A} P None h = cc
some_not_none {A} P (Some x) h = tt
