-- Where the heads stand, and which slot a head is of.
use Rattle.std.proofs.Common.{◌≡◌, ℕ, suc, zero, ◌+◌, ◌*◌, ◌-◌, ◌/◌, List, [], ◌∷◌, ◌++◌, length, flat_map, get_or, Option, ap, ◌∙◌, refl, arith, length-append}
use Rattle.std.proofs.Math.Nat.{mul-div_cancel}
use Rattle.std.proofs.lemmas.List.{get_or-append-add}
use Rattle.shard_store.specs.declared.store.Store.{Store}
use Rattle.yard_model.specs.Words.{at}
use Rattle.lease_table.specs.Rule.{head_at}
use Rattle.lease_table.specs.Leasing.{length_in, line_of}

pub which_head : (slots k : ℕ) → (head_at slots k - slots) / 8 ≡ k
which_head slots k = ap (λ (z : ℕ). z / 8) (let e : slots + k * 8 - slots ≡ k * 8 = omega arith in e) ∙ mul-div_cancel k (omega arith)

pub length_lines : (xs : List (Option Store)) → length (flat_map line_of xs) ≡ length xs * 8
length_lines [] = refl
length_lines (x ∷ xs) = length-append (line_of x) (flat_map line_of xs) ∙ (let more : length (flat_map line_of xs) ≡ length xs * 8 = length_lines xs in omega (arith, more))

-- the head of a slot is the first word of its line
pub first_of_line : (xs : List (Option Store)) (k : ℕ) → get_or (flat_map line_of xs) (k * 8) 0 ≡ length_in (at xs k)
first_of_line [] k = refl
first_of_line (x ∷ xs) zero = refl
first_of_line (x ∷ xs) (suc k) = ap (λ (i : ℕ). get_or (line_of x ++ flat_map line_of xs) i 0) (let e : suc k * 8 ≡ 8 + k * 8 = omega arith in e) ∙ get_or-append-add (line_of x) (flat_map line_of xs) (k * 8) 0 ∙ first_of_line xs k
