-- What a rebalancing picks.
use Rattle.std.proofs.Common.{◌≡◌, ◌≢◌, ◌<◌, ◌^◌, max, ℕ, zero, suc, sym, ap, ◌∙◌, refl, arith, length}
use Rattle.std.specs.Prelude.{Bool, true, false, ◌==◌, ◌||◌, not, cond, fold, List, [], ◌∷◌, filter, slice_index_or}
use Rattle.std.specs.List.{list_any}
use Rattle.std.specs.Int.{bit_at}
use Rattle.std.proofs.lemmas.Bool.{eqb-true, eqb-false}
use Rattle.std.proofs.lemmas.Nat.Bits.{bit_at-lt, bit_at-zero, bit_at_or, bit_at-pow_same, bit_at-pow_other}
use Rattle.yard_model.specs.declared.incarnation.Incarnation.{Incarnation}
use Rattle.yard_model.specs.declared.load.Load.{Load}
use Rattle.yard_model.specs.Coordinator.{Coordinator, picks, picked, shares}
use Rattle.yard_model.specs.Loads.{no_load}
use Rattle.yard_model.specs.ShardSet.{has, with_shard, set_of}
use Rattle.yard_model.specs.Words.{is_same, is_among}
use Rattle.coordinator_state.specs.Homes.{regions_of}
use Rattle.least_shard.specs.Spread.{AreOfDifferentRegions}
use Rattle.coordinator_actor.specs.Parts.{staying_of, shards_in}
use Rattle.coordinator_actor.proofs.Differ.{differ, differ_filter, of_not, or_both}
use Rattle.coordinator_actor.proofs.Same.{true_is_not_false, and_both, same_turned}
use Rattle.coordinator_actor.proofs.ShareLaws.{same_filter}

-- s is one of them
abbrev pub is_in : ℕ → List ℕ → Bool
is_in s xs = list_any (λ x. x == s) xs

or_any : (b : Bool) → true ≡ (b || true)
or_any true = refl
or_any false = refl

one_bit : (a b : ℕ) → a < 2 → b ≡ 1 → (max a b == 1) ≡ ((a == 1) || true)
one_bit a b h e = let most : max a b ≡ 1 = omega arith in ap (λ n. n == 1) most ∙ or_any (a == 1)

or_none : (b : Bool) → b ≡ (b || false)
or_none true = refl
or_none false = refl

with_one : (set p s : ℕ) (b : Bool) → (p == s) ≡ b → has (with_shard set p) s ≡ (has set s || b)
with_one set p s true e =
    let same : p ≡ s = eqb-true p s e in
    ap (λ n. n == 1) (bit_at_or set (2 ^ p) s) ∙ one_bit (bit_at set s) (bit_at (2 ^ p) s) (bit_at-lt set s) (ap (λ n. bit_at (2 ^ n) s) same ∙ bit_at-pow_same s)
with_one set p s false e =
    let apart : s ≢ p = λ h. eqb-false p s e (sym h) in
    let none : max (bit_at set s) (bit_at (2 ^ p) s) ≡ bit_at set s = omega (arith, bit_at-pow_other p s apart) in
    ap (λ n. n == 1) (bit_at_or set (2 ^ p) s ∙ none) ∙ or_none (has set s)

or_assoc : (a b c : Bool) → ((a || b) || c) ≡ (a || (b || c))
or_assoc true b c = refl
or_assoc false b c = refl

set_from : (acc s : ℕ) (ps : List ℕ) → has (fold with_shard acc ps) s ≡ (has acc s || is_in s ps)
set_from acc s [] = or_none (has acc s)
set_from acc s (p ∷ ps) = set_from (with_shard acc p) s ps ∙ (ap (λ b. b || is_in s ps) (with_one acc p s (p == s) refl) ∙ or_assoc (has acc s) (p == s) (is_in s ps))

in_set : (s : ℕ) (ps : List ℕ) → has (set_of ps) s ≡ is_in s ps
in_set s ps = set_from 0 s ps ∙ ap (λ b. b || is_in s ps) (ap (λ b. b == 1) (bit_at-zero s))

pub picked_are : (set limit : ℕ) (st : Coordinator) → set ≡ set_of (picks limit (shares st)) → shards_in set st ≡ picked limit st
picked_are set limit st e =
    let ps : List ℕ = picks limit (shares st) in
    same_filter (has set) (λ s. is_in s ps) 0 st.set.config.shards (λ t u v. ap (λ n. has n t) e ∙ in_set t ps)

-- Loads of different regions.

apart_at : (x : Incarnation) (ls : List Load) → is_among x (regions_of ls) ≡ false → (j : ℕ) → j < length ls → is_same x (slice_index_or ls j no_load).region ≡ false
apart_at x [] e j h = absurd (omega (arith, h))
apart_at x (l ∷ ls) e zero h = (or_both (is_same x l.region) (is_among x (regions_of ls)) e).0
apart_at x (l ∷ ls) e (suc j) h = apart_at x ls (or_both (is_same x l.region) (is_among x (regions_of ls)) e).1 j (omega (arith, h))

pub are_different : (ls : List Load) → differ (regions_of ls) ≡ true → AreOfDifferentRegions ls
are_different [] e i j h k same = absurd (omega (arith, h))
are_different (l ∷ ls) e zero zero h k same = refl
are_different (l ∷ ls) e zero (suc j) h k same =
    let m : (not (is_among l.region (regions_of ls)) ≡ true) × (differ (regions_of ls) ≡ true) = and_both (not (is_among l.region (regions_of ls))) (differ (regions_of ls)) e in
    absurd (true_is_not_false (sym same ∙ apart_at l.region ls (of_not (is_among l.region (regions_of ls)) m.0) j (omega (arith, k))))
are_different (l ∷ ls) e (suc i) zero h k same =
    let m : (not (is_among l.region (regions_of ls)) ≡ true) × (differ (regions_of ls) ≡ true) = and_both (not (is_among l.region (regions_of ls))) (differ (regions_of ls)) e in
    absurd (true_is_not_false (sym same ∙ (same_turned (slice_index_or ls i no_load).region l.region ∙ apart_at l.region ls (of_not (is_among l.region (regions_of ls)) m.0) i (omega (arith, h)))))
are_different (l ∷ ls) e (suc i) (suc j) h k same =
    let m : (not (is_among l.region (regions_of ls)) ≡ true) × (differ (regions_of ls) ≡ true) = and_both (not (is_among l.region (regions_of ls))) (differ (regions_of ls)) e in
    ap suc (are_different ls m.1 i j (omega (arith, h)) (omega (arith, k)) same)

staying_regions : (quitting : List Incarnation) (ls : List Load) → regions_of (staying_of quitting ls) ≡ filter (λ r. not (is_among r quitting)) (regions_of ls)
staying_regions quitting [] = refl
staying_regions quitting (l ∷ ls) = step (not (is_among l.region quitting)) (staying_regions quitting ls)
  where
    step : (b : Bool) → regions_of (staying_of quitting ls) ≡ filter (λ r. not (is_among r quitting)) (regions_of ls)
        → regions_of (cond b (l ∷ staying_of quitting ls) (staying_of quitting ls)) ≡ cond b (l.region ∷ filter (λ r. not (is_among r quitting)) (regions_of ls)) (filter (λ r. not (is_among r quitting)) (regions_of ls))
    step true e = ap (λ (xs : List Incarnation). l.region ∷ xs) e
    step false e = e

pub staying_different : (quitting rs : List Incarnation) (ls : List Load) → regions_of ls ≡ rs → differ rs ≡ true → AreOfDifferentRegions (staying_of quitting ls)
staying_different quitting rs ls e d =
    are_different (staying_of quitting ls) (ap differ (staying_regions quitting ls) ∙ differ_filter (λ r. not (is_among r quitting)) (regions_of ls) (ap differ e ∙ d))
