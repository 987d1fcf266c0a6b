-- What is drawn is in range, and the names that are drawn.
use Rattle.std.proofs.Common.{◌≡◌, ℕ, zero, suc, ◌+◌, ◌-◌, ◌/◌, ◌%◌, ◌<◌, ◌≤◌, ap, Bool, true, List, [], ◌∷◌, length, refl, subst, arith}
use Rattle.std.specs.Prelude.{◌&&◌, nat_lt, nat_le}
use Rattle.std.specs.List.{list_all}
use Rattle.std.specs.Fmt.{digits}
use Rattle.std.proofs.Math.Nat.{mod-lt}
use Rattle.yard_model.specs.Name.{IsName, is_name_byte}
use Rattle.yard_model.specs.Script.{is_name}
use Rattle.yard_model.specs.Words.{numbers}
use Rattle.plain_laws.proofs.Booleans.{and_both, at_most, below, same_name}
use Rattle.rand_pcg.specs.Lcg.{Lcg}
use Rattle.rand_pcg.specs.Pcg.{pcg32}
use Rattle.bulk_gen.specs.Bulk.{draw, entity}

pub draw_below : (k : ℕ) (g : Lcg) → 0 < k → (draw k g).0 < k
unfolding draw
draw_below k g h = mod-lt (pcg32 g).0 h

pub draw_value : (k n : ℕ) (g h : Lcg) → (n, h) ≡ pcg32 g → n % k ≡ (draw k g).0
unfolding draw
draw_value k n g h e = ap (λ (x : ℕ × Lcg). x.0 % k) e

pub draw_rest : (k n : ℕ) (g h : Lcg) → (n, h) ≡ pcg32 g → h ≡ (draw k g).1
unfolding draw
draw_rest k n g h e = ap (λ (x : ℕ × Lcg). x.1) e

-- a test of numbers in a row
pub all_from : (p : ℕ → Bool) (a n i : ℕ) → list_all p (numbers a n) ≡ true → i < n → p (a + i) ≡ true
all_from p a zero i h l = absurd (omega arith)
all_from p a (suc n) zero h l = subst (λ k. p k ≡ true) (omega arith) (and_both (p a) (list_all p (numbers (a + 1) n)) h).0
all_from p a (suc n) (suc i) h l = subst (λ k. p k ≡ true) (omega arith) (all_from p (a + 1) n i (and_both (p a) (list_all p (numbers (a + 1) n)) h).1 (omega arith))

pub all_below : (p : ℕ → Bool) (n i : ℕ) → list_all p (numbers 0 n) ≡ true → i < n → p i ≡ true
all_below p n i h l = subst (λ k. p k ≡ true) (omega arith) (all_from p 0 n i h l)

abbrev short : ℕ → List ℕ
short n = 101 ∷ (48 + n % 10) ∷ []

abbrev long : ℕ → List ℕ
long n = 101 ∷ (48 + n / 10) ∷ (48 + n % 10) ∷ []

pub name_short : (n : ℕ) → n < 10 → short n ≡ entity n
unfolding digits
name_short n h = same_name (short n) (entity n) (all_below (λ i. is_name (short i) (entity i)) 10 n refl h)

pub name_long : (n : ℕ) → 10 ≤ n → n < 64 → long n ≡ entity n
unfolding digits
name_long n l h =
    let back : 10 + (n - 10) ≡ n = omega arith in
    subst (λ i. long i ≡ entity i) back (same_name (long (10 + (n - 10))) (entity (10 + (n - 10))) (all_from (λ i. is_name (long i) (entity i)) 10 54 (n - 10) refl (omega arith)))

abbrev is_named : List ℕ → Bool
is_named e = (nat_lt 0 (length e) && nat_le (length e) 32) && list_all is_name_byte e

pub entity_named : (n : ℕ) → n < 64 → IsName (entity n)
unfolding digits
entity_named n h =
    let parts = and_both (nat_lt 0 (length (entity n)) && nat_le (length (entity n)) 32) (list_all is_name_byte (entity n)) (all_below (λ i. is_named (entity i)) 64 n refl h) in
    let sizes = and_both (nat_lt 0 (length (entity n))) (nat_le (length (entity n)) 32) parts.0 in
    record { some = below 0 (length (entity n)) sizes.0; fits = at_most (length (entity n)) 32 sizes.1; each = parts.1 }
