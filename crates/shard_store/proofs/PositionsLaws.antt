-- The counts of the producers, one after the other.
use Rattle.std.proofs.Common.{◌≡◌, ◌≢◌, ℕ, ◌+◌, ◌-◌, ◌<◌, ◌≤◌, Bool, true, false, List, length, refl, ap, ◌∙◌, sym, arith}
use Rattle.std.specs.Prelude.{◌==◌, slice_set, slice_index_or, replicate}
use Rattle.std.proofs.lemmas.List.{get_or-set_other, get_or-set_same, length-replicate, length-set}
use Rattle.std.proofs.lemmas.Bool.Decides.{nat_tests}
use Rattle.yard_model.specs.declared.packet.Record.{Record}
use Rattle.yard_model.specs.SlotReads.{position}

-- the counts of the first so many producers
pub record CountedTo (records : List Record) (counts : List ℕ) (place : ℕ) : Type 0 where
  pub size : length counts ≡ 32
  pub each : (p : ℕ) → 0 < p → p ≤ place → slice_index_or counts (p - 1) 0 ≡ position p records

pub counted_none : (records : List Record) → CountedTo records (replicate 32 0) 0
counted_none records = record { size = length-replicate {A = ℕ} 32 0; each = λ p a b. absurd (omega arith) }

same : (n p : ℕ) → (n == p) ≡ true → n ≡ p
same n p e = grind (arith, nat_tests)

other : (n p : ℕ) → (n == p) ≡ false → n ≢ p
other n p e = grind (arith, nat_tests)

pub counted_more : (records : List Record) (counts : List ℕ) (place : ℕ) → place < 32 → CountedTo records counts place → CountedTo records (slice_set counts place (position (place + 1) records)) (place + 1)
counted_more records counts place within k = record {
  size = length-set counts place (position (place + 1) records) ∙ k.size;
  each = λ p a b. at p a b (p == place + 1) refl;
}
  where
    at : (p : ℕ) → 0 < p → p ≤ place + 1 → (b : Bool) → (p == place + 1) ≡ b → slice_index_or (slice_set counts place (position (place + 1) records)) (p - 1) 0 ≡ position p records
    at p a b true e =
        let it : p ≡ place + 1 = same p (place + 1) e in
        let here : p - 1 ≡ place = omega arith in
        ap (λ i. slice_index_or (slice_set counts place (position (place + 1) records)) i 0) here ∙ (get_or-set_same counts place (position (place + 1) records) 0 (omega (arith, k.size)) ∙ ap (λ n. position n records) (sym it))
    at p a b false e =
        let not_it : p ≢ place + 1 = other p (place + 1) e in
        get_or-set_other counts place (p - 1) (position (place + 1) records) 0 (λ h. not_it (omega arith)) ∙ k.each p a (omega arith)
