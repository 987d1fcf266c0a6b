-- The first of the least, along a list.
use Rattle.std.proofs.Common.{◌≡◌, ℕ, ◌+◌, ◌<◌, ◌≤◌, Bool, true, false, inl, inr, List, [], ◌∷◌, length, map, drop, get_or, ap, sym, ◌∙◌, refl, arith, if◌then◌else◌, Some}
use Rattle.std.specs.Prelude.{nat_lt, fold}
use Rattle.std.proofs.lemmas.Bool.{ltb-true, ltb-false, cases_lt}
use Rattle.std.proofs.lemmas.List.{at_drop_more, drop_all}
use Rattle.yard_model.specs.declared.load.Load.{Load}
use Rattle.yard_model.specs.Loads.{no_load}
use Rattle.yard_model.specs.Coordinator.{Share, smallest}
use Rattle.least_shard.specs.Spread.{count_of, share_of, shares_of}

-- the first of the two, unless the second has fewer
abbrev pub smaller : Share → Share → Share
smaller x y = if nat_lt y.count x.count then y else x

-- one item more of a fold
pub fold_more : {A B C : Type 0} (f : B → A → B) (g : C → A) (b : B) (xs : List C) (i : ℕ) (d : C) → i < length xs
    → fold f b (map g (drop i xs)) ≡ fold f (f b (g (get_or xs i d))) (map g (drop (i + 1) xs))
fold_more f g b xs i d h = at_drop_more (λ l. fold f b (map g l)) xs i d h

abbrev load_at : List Load → ℕ → Load
load_at xs i = get_or xs i no_load

-- the first of the least among the first n
pub record IsLeast (xs : List Load) (n i : ℕ) : Type 0 where
  pub within : i < n
  pub least : (k : ℕ) → k < n → count_of (load_at xs i) ≤ count_of (load_at xs k)
  pub first : (k : ℕ) → k < i → count_of (load_at xs i) < count_of (load_at xs k)
  pub rest : fold smaller (share_of (load_at xs i)) (shares_of (drop n xs)) ≡ fold smaller (share_of (load_at xs 0)) (shares_of (drop 1 xs))

pub least_one : (xs : List Load) → IsLeast xs 1 0
least_one xs = record { within = omega arith; least = λ k h. omega (arith, ap (λ n. count_of (load_at xs n)) (at_zero k h)); first = λ k h. absurd (omega arith); rest = refl }
  where
    at_zero : (k : ℕ) → k < 1 → k ≡ 0
    at_zero k h = omega arith

least_by : (xs : List Load) (n i : ℕ) → n < length xs → IsLeast xs n i → (b : Bool) → nat_lt (count_of (load_at xs n)) (count_of (load_at xs i)) ≡ b
    → IsLeast xs (n + 1) (if b then n else i)
least_by xs n i h old true e = let fewer : count_of (load_at xs n) < count_of (load_at xs i) = ltb-true _ _ e in record {
  within = omega arith;
  least = λ k low. at_or_below k low (λ below. omega (arith, old.least k below)) (λ here. omega (arith, ap (λ j. count_of (load_at xs j)) here));
  first = λ k low. omega (arith, old.least k low);
  rest = ap (λ b. fold smaller (if b then share_of (load_at xs n) else share_of (load_at xs i)) (shares_of (drop (n + 1) xs))) (sym e)
      ∙ (sym (fold_more smaller share_of (share_of (load_at xs i)) xs n no_load h) ∙ old.rest);
}
  where
    at_or_below : {P : Type 0} (k : ℕ) → k < n + 1 → (k < n → P) → (k ≡ n → P) → P
    at_or_below {P} k low p q = elim (cases_lt k n) as (λ _. P) [ inl x ↦ p x | inr x ↦ q (omega arith) ]
least_by xs n i h old false e = let others : count_of (load_at xs i) ≤ count_of (load_at xs n) = ltb-false _ _ e in record {
  within = omega (arith, old.within);
  least = λ k low. at_or_below k low (λ below. old.least k below) (λ here. omega (arith, ap (λ j. count_of (load_at xs j)) here));
  first = old.first;
  rest = ap (λ b. fold smaller (if b then share_of (load_at xs n) else share_of (load_at xs i)) (shares_of (drop (n + 1) xs))) (sym e)
      ∙ (sym (fold_more smaller share_of (share_of (load_at xs i)) xs n no_load h) ∙ old.rest);
}
  where
    at_or_below : {P : Type 0} (k : ℕ) → k < n + 1 → (k < n → P) → (k ≡ n → P) → P
    at_or_below {P} k low p q = elim (cases_lt k n) as (λ _. P) [ inl x ↦ p x | inr x ↦ q (omega arith) ]

pub least_more : (xs : List Load) (n i : ℕ) → n < length xs → IsLeast xs n i
    → IsLeast xs (n + 1) (if nat_lt (count_of (load_at xs n)) (count_of (load_at xs i)) then n else i)
least_more xs n i h old = least_by xs n i h old _ refl

pub least_all : (xs : List Load) (n i : ℕ) → length xs ≤ n → 0 < length xs → IsLeast xs n i → smallest (shares_of xs) ≡ Some (share_of (load_at xs i))
least_all [] n i end some old = absurd (omega arith)
least_all (x ∷ xs) n i end some old = ap Some (sym (ap (λ l. fold smaller (share_of (load_at (x ∷ xs) i)) (shares_of l)) (sym (drop_all n (x ∷ xs) end)) ∙ old.rest))
