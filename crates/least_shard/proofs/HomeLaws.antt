-- Each pick is of a load.
use Rattle.std.proofs.Common.{◌≡◌, ◌≢◌, ℕ, zero, suc, ◌+◌, ◌^◌, ◌<◌, ◌≤◌, max, Bool, true, false, true≢false, ◌||◌, List, [], ◌∷◌, length, map, drop, get_or, ap, sym, ◌∙◌, refl, arith, if◌then◌else◌}
use Rattle.std.specs.Prelude.{◌==◌, nat_le, fold, filter}
use Rattle.std.specs.List.{list_any}
use Rattle.std.specs.Int.{bit_at}
use Rattle.std.proofs.lemmas.Bool.{eqb-true, eqb-false, leb-true, leb-false}
use Rattle.std.proofs.lemmas.List.{get_or-map, length-map}
use Rattle.std.proofs.lemmas.List.Folds.{list_any_at}
use Rattle.std.proofs.lemmas.Nat.Bits.{bit_at-lt, bit_at-zero, bit_at_or, bit_at-pow_same, bit_at-pow_other}
use Rattle.yard_model.specs.declared.load.Load.{Load}
use Rattle.yard_model.specs.Loads.{no_load}
use Rattle.yard_model.specs.Words.{numbers}
use Rattle.yard_model.specs.ShardSet.{has, with_shard, set_of}
use Rattle.yard_model.specs.Coordinator.{Share, with_pick, picks}
use Rattle.least_shard.specs.Spread.{members, members_below, share_of, shares_of, AreOfDifferentRegions}
use Rattle.least_shard.specs.Fair.{no_share, share_at, IsFair}
use Rattle.least_shard.proofs.PickLaws.{IsPick, largest_is, smallest_is, picks_more, picks_end, has_rest, fair_after, fair_first, picked_by}
use Rattle.least_shard.proofs.EvenLaws.{IsSome, some_of}

-- s is one of them
abbrev pub is_in : ℕ → List ℕ → Bool
is_in s xs = list_any (λ x. x == s) xs

or_any : (b : Bool) → true ≡ (b || true)
or_any true = refl
or_any false = refl

one_bit : (a b : ℕ) → a < 2 → b ≡ 1 → (max a b == 1) ≡ ((a == 1) || true)
one_bit a b h e = let most : max a b ≡ 1 = omega arith in ap (λ n. n == 1) most ∙ or_any (a == 1)

or_none : (b : Bool) → b ≡ (b || false)
or_none true = refl
or_none false = refl

with_one : (set p s : ℕ) (b : Bool) → (p == s) ≡ b → has (with_shard set p) s ≡ (has set s || b)
with_one set p s true e =
    let same : p ≡ s = eqb-true p s e in
    ap (λ n. n == 1) (bit_at_or set (2 ^ p) s) ∙ one_bit (bit_at set s) (bit_at (2 ^ p) s) (bit_at-lt set s) (ap (λ n. bit_at (2 ^ n) s) same ∙ bit_at-pow_same s)
with_one set p s false e =
    let apart : s ≢ p = λ h. eqb-false p s e (sym h) in
    let none : max (bit_at set s) (bit_at (2 ^ p) s) ≡ bit_at set s = omega (arith, bit_at-pow_other p s apart) in
    ap (λ n. n == 1) (bit_at_or set (2 ^ p) s ∙ none) ∙ or_none (has set s)

or_assoc : (a b c : Bool) → ((a || b) || c) ≡ (a || (b || c))
or_assoc true b c = refl
or_assoc false b c = refl

set_from : (acc s : ℕ) (ps : List ℕ) → has (fold with_shard acc ps) s ≡ (has acc s || is_in s ps)
set_from acc s [] = or_none (has acc s)
set_from acc s (p ∷ ps) = set_from (with_shard acc p) s ps ∙ (ap (λ b. b || is_in s ps) (with_one acc p s (p == s) refl) ∙ or_assoc (has acc s) (p == s) (is_in s ps))

-- the members of a set of these shards
pub in_set : (s : ℕ) (ps : List ℕ) → has (set_of ps) s ≡ true → is_in s ps ≡ true
in_set s ps h = sym (set_from 0 s ps ∙ ap (λ b. b || is_in s ps) (ap (λ b. b == 1) (bit_at-zero s))) ∙ h

filter_by : (q : ℕ → Bool) (s x : ℕ) (l : List ℕ) → (is_in s l ≡ true → q s ≡ true) → (b : Bool) → q x ≡ b → is_in s (if b then x ∷ l else l) ≡ true → q s ≡ true
filter_by q s x l next true e h = test (x == s) refl h
  where
    test : (c : Bool) → (x == s) ≡ c → (c || is_in s l) ≡ true → q s ≡ true
    test true f k = ap q (sym (eqb-true x s f)) ∙ e
    test false f k = next k
filter_by q s x l next false e h = next h

filter_in : (q : ℕ → Bool) (s : ℕ) (xs : List ℕ) → is_in s (filter q xs) ≡ true → q s ≡ true
filter_in q s [] h = absurd (true≢false (sym h))
filter_in q s (x ∷ xs) h = filter_by q s x (filter q xs) (filter_in q s xs) (q x) refl h

pub of_members : (n s : ℕ) → is_in s (members n) ≡ true → has n s ≡ true
unfolding members members_below
of_members n s h = filter_in (has n) s (numbers 0 128) h

-- s is there to be picked
pub record IsThere (s : ℕ) (xs : List Share) : Type 0 where
  pub place : ℕ
  pub within : place < length xs
  pub there : is_in s (share_at xs place).rest ≡ true

or_true : (a b : Bool) → b ≡ true → (a || b) ≡ true
or_true true b h = refl
or_true false b h = h

any_drop : (s : ℕ) (xs : List ℕ) → is_in s (drop 1 xs) ≡ true → is_in s xs ≡ true
any_drop s [] h = h
any_drop s (x ∷ xs) h = or_true (x == s) (is_in s xs) h

rest_by : (s : ℕ) (z : Share) (one two : Bool) → is_in s (picked_by z one two).rest ≡ true → is_in s z.rest ≡ true
rest_by s z true two h = any_drop s z.rest h
rest_by s z false true h = h
rest_by s z false false h = h

there_before : (s : ℕ) (xs : List Share) (x y : Share) → IsThere s (map (with_pick x y) xs) → IsThere s xs
there_before s xs x y h =
    let low : h.place < length xs = omega (arith, h.within, length-map xs (with_pick x y)) in record {
      place = h.place;
      within = low;
      there = rest_by s (share_at xs h.place) _ _ (ap (λ (z : Share). is_in s z.rest) (sym (get_or-map (with_pick x y) xs h.place no_share no_share low)) ∙ h.there);
    }

there_by : (s n : ℕ) (xs : List Share) (t : IsSome xs) → IsFair xs
    → (IsFair (map (with_pick t.top t.bottom) xs) → is_in s (picks n (map (with_pick t.top t.bottom) xs)) ≡ true → IsThere s (map (with_pick t.top t.bottom) xs))
    → (b : Bool) → nat_le (t.bottom.count + 2) t.top.count ≡ b → is_in s (picks (suc n) xs) ≡ true → IsThere s xs
there_by s n xs t fair next true e h = test (get_or t.top.rest 0 0 == s) refl (sym (ap (is_in s) (picks_more n xs t.top t.bottom t.largest t.smallest apart)) ∙ h)
  where
    apart : t.bottom.count + 2 ≤ t.top.count
    apart = leb-true _ _ e

    pick : IsPick xs t.top t.bottom
    pick = record { largest = largest_is xs t.top t.largest; smallest = smallest_is xs t.bottom t.smallest; apart = apart }

    test : (c : Bool) → (get_or t.top.rest 0 0 == s) ≡ c → (c || is_in s (picks n (map (with_pick t.top t.bottom) xs))) ≡ true → IsThere s xs
    test true f k = record {
      place = pick.largest.place;
      within = pick.largest.within;
      there = ap (λ (z : Share). is_in s z.rest) pick.largest.there ∙ list_any_at (λ x. x == s) t.top.rest 0 0 (omega (arith, apart, has_rest xs t.top t.bottom fair pick)) f;
    }
    test false f k = there_before s xs t.top t.bottom (next (fair_after xs t.top t.bottom fair pick) k)
there_by s n xs t fair next false e h =
    absurd (true≢false (sym h ∙ ap (is_in s) (picks_end (suc n) xs t.top t.bottom t.largest t.smallest (leb-false _ _ e))))

pub picks_there : (s n : ℕ) (xs : List Share) → IsFair xs → is_in s (picks n xs) ≡ true → IsThere s xs
picks_there s zero xs fair h = absurd (true≢false (sym h))
picks_there s (suc n) [] fair h = absurd (true≢false (sym h))
picks_there s (suc n) (x ∷ xs) fair h =
    let t = some_of x xs in
    there_by s n (x ∷ xs) t fair (picks_there s n (map (with_pick t.top t.bottom) (x ∷ xs))) _ refl h

-- each pick is a shard of some load
pub picks_of_loads : (s n : ℕ) (loads : List Load) → AreOfDifferentRegions loads → has (set_of (picks n (shares_of loads))) s ≡ true → list_any (λ l. has l.shards s) loads ≡ true
picks_of_loads s n loads different h =
    let t = picks_there s n (shares_of loads) (fair_first loads different) (in_set s _ h) in
    let low : t.place < length loads = omega (arith, t.within, length-map loads share_of) in
    let there = ap (λ (z : Share). is_in s z.rest) (sym (get_or-map share_of loads t.place no_load no_share low)) ∙ t.there in
    list_any_at (λ l. has l.shards s) loads t.place no_load low (of_members (get_or loads t.place no_load).shards s there)
