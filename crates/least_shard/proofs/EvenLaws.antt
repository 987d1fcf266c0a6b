-- Counts that differ by at most one, and the picks.
use Rattle.std.proofs.Common.{◌≡◌, ℕ, zero, suc, ◌+◌, ◌^◌, ◌<◌, ◌≤◌, Bool, true, false, List, [], ◌∷◌, length, map, get_or, ap, refl, arith, if◌then◌else◌, Some}
use Rattle.std.specs.Prelude.{nat_le, fold}
use Rattle.std.proofs.lemmas.Bool.{leb-true, leb-false}
use Rattle.std.proofs.lemmas.List.{get_or-map, length-map}
use Rattle.std.proofs.lemmas.Nat.{le_or_l, le_or_r, pow_pos}
use Rattle.yard_model.specs.declared.load.Load.{Load}
use Rattle.yard_model.specs.Loads.{no_load}
use Rattle.yard_model.specs.ShardSet.{with_shard, set_of}
use Rattle.yard_model.specs.Coordinator.{Share, smallest, largest, with_pick, picks}
use Rattle.least_shard.specs.Spread.{share_of, shares_of, AreEven}
use Rattle.least_shard.specs.Fair.{no_share, AreEvenShares, moved}
use Rattle.least_shard.proofs.PickLaws.{HasNoMore, HasNoFewer, IsBest, largest_is, smallest_is, picks_more, picks_end}

even_from : (xs : List Share) (x y : Share) → IsBest HasNoMore xs x → IsBest HasNoFewer xs y → x.count < y.count + 2 → AreEvenShares xs
even_from xs x y top bottom near = λ i j low high. omega (arith, top.best i low, bottom.best j high)

apart_from : (xs : List Share) (x y : Share) → IsBest HasNoMore xs x → IsBest HasNoFewer xs y → AreEvenShares xs → x.count < y.count + 2
apart_from xs x y top bottom even =
    let e = ap (λ (s : Share). s.count) top.there in
    let f = ap (λ (s : Share). s.count) bottom.there in
    omega (arith, even top.place bottom.place top.within bottom.within)

-- What a list of shares is: empty, or with a largest and a smallest.
pub record IsSome (xs : List Share) : Type 0 where
  pub top : Share
  pub bottom : Share
  pub largest : largest xs ≡ Some top
  pub smallest : smallest xs ≡ Some bottom

abbrev pub some_of : (x : Share) (xs : List Share) → IsSome (x ∷ xs)
some_of x xs = record { top = _; bottom = _; largest = refl; smallest = refl }

pub none_picked : (n : ℕ) (xs : List Share) → AreEvenShares xs → picks n xs ≡ []
none_picked zero xs even = refl
none_picked (suc n) [] even = refl
none_picked (suc n) (x ∷ xs) even =
    let s = some_of x xs in
    picks_end (suc n) (x ∷ xs) s.top s.bottom s.largest s.smallest
    (apart_from (x ∷ xs) s.top s.bottom (largest_is _ s.top s.largest) (smallest_is _ s.bottom s.smallest) even)

above : (acc : ℕ) (ps : List ℕ) → acc ≤ fold with_shard acc ps
above acc [] = omega arith
above acc (p ∷ ps) = omega (arith, le_or_l acc (2 ^ p), above (with_shard acc p) ps)

some_set : (p : ℕ) (ps : List ℕ) → 0 < set_of (p ∷ ps)
some_set p ps = omega (arith, pow_pos p, le_or_r 0 (2 ^ p), above (with_shard 0 p) ps)

even_by : (n : ℕ) (xs : List Share) (s : IsSome xs) → set_of (picks (suc n) xs) ≡ 0 → (b : Bool) → nat_le (s.bottom.count + 2) s.top.count ≡ b → AreEvenShares xs
even_by n xs s none true e =
    let some = some_set (get_or s.top.rest 0 0) (picks n (map (with_pick s.top s.bottom) xs)) in
    let same = ap set_of (picks_more n xs s.top s.bottom s.largest s.smallest (leb-true _ _ e)) in
    absurd (omega arith)
even_by n xs s none false e = even_from xs s.top s.bottom (largest_is _ s.top s.largest) (smallest_is _ s.bottom s.smallest) (leb-false _ _ e)

pub even_where_none : (n : ℕ) (xs : List Share) → 0 < n → set_of (picks n xs) ≡ 0 → AreEvenShares xs
even_where_none zero xs some none = absurd (omega arith)
even_where_none (suc n) [] some none = λ i j low high. absurd (omega arith)
even_where_none (suc n) (x ∷ xs) some none = even_by n (x ∷ xs) (some_of x xs) none _ refl

few_by : (n : ℕ) (xs : List Share) (s : IsSome xs) → length (picks n (map (with_pick s.top s.bottom) xs)) ≤ n → (b : Bool) → nat_le (s.bottom.count + 2) s.top.count ≡ b → length (picks (suc n) xs) ≤ suc n
few_by n xs s next true e = omega (arith, ap length (picks_more n xs s.top s.bottom s.largest s.smallest (leb-true _ _ e)))
few_by n xs s next false e = omega (arith, ap length (picks_end (suc n) xs s.top s.bottom s.largest s.smallest (leb-false _ _ e)))

pub few_picks : (n : ℕ) (xs : List Share) → length (picks n xs) ≤ n
few_picks zero xs = omega arith
few_picks (suc n) [] = omega arith
few_picks (suc n) (x ∷ xs) = let s = some_of x xs in few_by n (x ∷ xs) s (few_picks n (map (with_pick s.top s.bottom) (x ∷ xs))) _ refl

moved_by : (n : ℕ) (xs : List Share) (s : IsSome xs) → length (picks (suc n) xs) < suc n
    → (length (picks n (map (with_pick s.top s.bottom) xs)) < n → AreEvenShares (moved n (map (with_pick s.top s.bottom) xs)))
    → (b : Bool) → nat_le (s.bottom.count + 2) s.top.count ≡ b → AreEvenShares (if b then moved n (map (with_pick s.top s.bottom) xs) else xs)
moved_by n xs s few next true e = next (omega (arith, ap length (picks_more n xs s.top s.bottom s.largest s.smallest (leb-true _ _ e))))
moved_by n xs s few next false e = even_from xs s.top s.bottom (largest_is _ s.top s.largest) (smallest_is _ s.bottom s.smallest) (leb-false _ _ e)

-- where fewer are picked than may be, the counts then differ by at most one
pub even_moved : (n : ℕ) (xs : List Share) → length (picks n xs) < n → AreEvenShares (moved n xs)
even_moved zero xs few = absurd (omega arith)
even_moved (suc n) [] few = λ i j low high. absurd (omega arith)
even_moved (suc n) (x ∷ xs) few = let s = some_of x xs in moved_by n (x ∷ xs) s few (even_moved n (map (with_pick s.top s.bottom) (x ∷ xs))) _ refl

pub even_loads : (loads : List Load) → AreEvenShares (shares_of loads) → AreEven loads
even_loads loads even = λ i j low high.
    let size = length-map loads share_of in
    let e = ap (λ (s : Share). s.count) (get_or-map share_of loads i no_load no_share low) in
    let f = ap (λ (s : Share). s.count) (get_or-map share_of loads j no_load no_share high) in
    omega (arith, even i j (omega arith) (omega arith))

pub even_shares : (loads : List Load) → AreEven loads → AreEvenShares (shares_of loads)
even_shares loads even = λ i j low high.
    let size = length-map loads share_of in
    let li : i < length loads = omega arith in
    let lj : j < length loads = omega arith in
    let e = ap (λ (s : Share). s.count) (get_or-map share_of loads i no_load no_share li) in
    let f = ap (λ (s : Share). s.count) (get_or-map share_of loads j no_load no_share lj) in
    omega (arith, even i j li lj)
