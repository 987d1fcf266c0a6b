-- Numbers in a row, and the counts of a producer's sends.
use Rattle.std.proofs.Common.{◌≡◌, ◌<◌, ◌≤◌, ℕ, zero, suc, ◌+◌, ap, ◌∙◌, refl, arith, length-append}
use Rattle.std.specs.Prelude.{Bool, true, false, List, [], ◌∷◌, ◌++◌, length, filter, map, slice_index_or, if◌then◌else◌, cond}
use Rattle.std.proofs.lemmas.List.Elements.{filter-append}
use Rattle.std.proofs.lemmas.Bool.Decides.{Decides-eqb}
use Rattle.std.proofs.lemmas.Slice.Eq.{slice_eq-Decides}
use Rattle.std.proofs.lemmas.List.{get_or-map}
use Rattle.yard_model.specs.declared.charter.Line.{Line}
use Rattle.yard_model.specs.declared.charter.Sending.{Sending}
use Rattle.yard_model.specs.Words.{numbers}
use Rattle.yard_model.specs.Script.{count_to, is_name, sends_in}

pub numbers_length : (a n : ℕ) → length (numbers a n) ≡ n
numbers_length a zero = refl
numbers_length a (suc n) = ap suc (numbers_length (a + 1) n)

pub numbers_at : (a n i d : ℕ) → i < n → slice_index_or (numbers a n) i d ≡ a + i
numbers_at a zero i d h = absurd (omega arith)
numbers_at a (suc n) zero d h = omega arith
numbers_at a (suc n) (suc i) d h = numbers_at (a + 1) n i d (omega arith) ∙ omega arith

-- one send more counts for its own name
pub count_more : (e : List ℕ) (sends : List Sending) (x : Sending) → count_to e (sends ++ x ∷ []) ≡ count_to e sends + (if is_name x.entity e then 1 else 0)
count_more e sends x =
    ap length (filter-append (λ (y : Sending). is_name y.entity e) sends (x ∷ [])) ∙ (length-append (filter (λ (y : Sending). is_name y.entity e) sends) (filter (λ (y : Sending). is_name y.entity e) (x ∷ [])) ∙ ap (λ n. count_to e sends + n) (one (is_name x.entity e)))
  where
    one : (b : Bool) → length (cond b (x ∷ []) []) ≡ (if b then 1 else 0)
    one true = refl
    one false = refl

pub count_within : (e : List ℕ) (sends : List Sending) → count_to e sends ≤ length sends
count_within e [] = omega arith
count_within e (x ∷ xs) = step (is_name x.entity e) (count_within e xs)
  where
    step : (b : Bool) → count_to e xs ≤ length xs → length (cond b (x ∷ filter (λ (y : Sending). is_name y.entity e) xs) (filter (λ (y : Sending). is_name y.entity e) xs)) ≤ suc (length xs)
    step true h = omega arith
    step false h = omega arith

-- names that are found the same are equal
pub same_name : (a b : List ℕ) → is_name a b ≡ true → a ≡ b
same_name a b e = (slice_eq-Decides Decides-eqb a b (is_name a b) refl).0 e

-- of each producer the sends that are kept are its own
pub sends_at : (orders : List Line) (i : ℕ) (d : List Sending) → i < 32 → slice_index_or (map (λ p. sends_in p orders) (numbers 1 32)) i d ≡ sends_in (i + 1) orders
sends_at orders i d h =
    let inside : i < length (numbers 1 32) = h in
    get_or-map (λ p. sends_in p orders) (numbers 1 32) i 0 d inside ∙ ap (λ p. sends_in p orders) (numbers_at 1 32 i 0 h ∙ omega arith)
