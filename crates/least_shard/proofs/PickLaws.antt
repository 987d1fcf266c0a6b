-- The picks of a round, over the shares alone.
use Rattle.std.proofs.Common.{◌≡◌, ℕ, zero, suc, ◌+◌, ◌-◌, ◌<◌, ◌≤◌, max, Bool, true, false, true≢false, ◌⊎◌, inl, inr, List, [], ◌∷◌, length, map, drop, get_or, ap, sym, subst, ◌∙◌, refl, arith, if◌then◌else◌, Option, Some, None}
use Rattle.std.specs.Prelude.{nat_lt, nat_le, fold}
use Rattle.std.proofs.lemmas.Bool.{ltb-true, ltb-false, le-leb, lt-leb}
use Rattle.std.proofs.lemmas.List.{get_or-map, length-map, length-drop}
use Rattle.yard_model.specs.declared.load.Load.{Load}
use Rattle.yard_model.specs.Loads.{no_load}
use Rattle.yard_model.specs.Words.{is_same}
use Rattle.yard_model.specs.Coordinator.{Share, smallest, largest, with_pick, picks}
use Rattle.least_shard.specs.Spread.{members, share_of, shares_of, AreOfDifferentRegions}
use Rattle.least_shard.specs.Fair.{no_share, share_at, IsFair, CountsWithin}
use Rattle.least_shard.proofs.BestLaws.{smaller}
use Rattle.least_shard.proofs.MemberLaws.{few_members}

-- the first of the two, unless the second has more
abbrev pub bigger : Share → Share → Share
bigger x y = if nat_lt x.count y.count then y else x

-- x is one of xs, and R of each of them
pub record IsBest (R : Share → Share → Type 0) (xs : List Share) (x : Share) : Type 0 where
  pub place : ℕ
  pub within : place < length xs
  pub there : share_at xs place ≡ x
  pub best : (i : ℕ) → i < length xs → R (share_at xs i) x

-- a choice between two
pub record Chooses (R : Share → Share → Type 0) (f : Share → Share → Share) : Type 0 where
  pub same : (x : Share) → R x x
  pub along : (x y z : Share) → R x y → R y z → R x z
  pub left : (x y : Share) → R x (f x y)
  pub right : (x y : Share) → R y (f x y)
  pub either : (x y : Share) → (f x y ≡ x) ⊎ (f x y ≡ y)

best_more : (R : Share → Share → Type 0) (f : Share → Share → Share) → Chooses R f → (x y : Share) (ys : List Share) (b : Share) → IsBest R (f x y ∷ ys) b → IsBest R (x ∷ y ∷ ys) b
best_more R f c x y ys b h = place_by h.place h.within h.there
  where
    all : (i : ℕ) → i < length (x ∷ y ∷ ys) → R (share_at (x ∷ y ∷ ys) i) b
    all zero low = c.along x (f x y) b (c.left x y) (h.best 0 (omega arith))
    all (suc zero) low = c.along y (f x y) b (c.right x y) (h.best 0 (omega arith))
    all (suc (suc i)) low = h.best (suc i) (omega arith)

    place_by : (p : ℕ) → p < length (f x y ∷ ys) → share_at (f x y ∷ ys) p ≡ b → IsBest R (x ∷ y ∷ ys) b
    place_by zero low at = elim (c.either x y) as (λ _. IsBest R (x ∷ y ∷ ys) b) [
      | inl e ↦ record { place = 0; within = omega arith; there = sym e ∙ at; best = all }
      | inr e ↦ record { place = 1; within = omega arith; there = sym e ∙ at; best = all }
    ]
    place_by (suc p) low at = record { place = suc (suc p); within = omega arith; there = at; best = all }

best_fold : (R : Share → Share → Type 0) (f : Share → Share → Share) → Chooses R f → (x : Share) (xs : List Share) → IsBest R (x ∷ xs) (fold f x xs)
best_fold R f c x [] = record { place = 0; within = omega arith; there = refl; best = λ i low. alone i low }
  where
    alone : (i : ℕ) → i < 1 → R (share_at (x ∷ []) i) x
    alone zero low = c.same x
    alone (suc i) low = absurd (omega arith)
best_fold R f c x (y ∷ ys) = best_more R f c x y ys _ (best_fold R f c (f x y) ys)

abbrev pub HasNoMore : Share → Share → Type 0
HasNoMore x y = x.count ≤ y.count

abbrev pub HasNoFewer : Share → Share → Type 0
HasNoFewer x y = y.count ≤ x.count

bigger_by : (x y : Share) (b : Bool) → nat_lt x.count y.count ≡ b → (x.count ≤ (if b then y else x).count) × (y.count ≤ (if b then y else x).count)
bigger_by x y true e = let less = ltb-true _ _ e in (omega arith, omega arith)
bigger_by x y false e = let less = ltb-false _ _ e in (omega arith, omega arith)

smaller_by : (x y : Share) (b : Bool) → nat_lt y.count x.count ≡ b → ((if b then y else x).count ≤ x.count) × ((if b then y else x).count ≤ y.count)
smaller_by x y true e = let less = ltb-true _ _ e in (omega arith, omega arith)
smaller_by x y false e = let less = ltb-false _ _ e in (omega arith, omega arith)

either_by : (x y : Share) (b : Bool) → ((if b then y else x) ≡ x) ⊎ ((if b then y else x) ≡ y)
either_by x y true = inr refl
either_by x y false = inl refl

bigger_chooses : Chooses HasNoMore bigger
bigger_chooses = record {
  same = λ x. omega arith;
  along = λ x y z h k. omega arith;
  left = λ x y. (bigger_by x y _ refl).0;
  right = λ x y. (bigger_by x y _ refl).1;
  either = λ x y. either_by x y (nat_lt x.count y.count);
}

smaller_chooses : Chooses HasNoFewer smaller
smaller_chooses = record {
  same = λ x. omega arith;
  along = λ x y z h k. omega arith;
  left = λ x y. (smaller_by x y _ refl).0;
  right = λ x y. (smaller_by x y _ refl).1;
  either = λ x y. either_by x y (nat_lt y.count x.count);
}

best_is : (R : Share → Share → Type 0) (xs : List Share) (b x : Share) → Some b ≡ Some x → IsBest R xs b → IsBest R xs x
best_is R xs b x e h = let same : b ≡ x = cc in subst (λ (y : Share). IsBest R xs y) same h

pub largest_is : (xs : List Share) (x : Share) → largest xs ≡ Some x → IsBest HasNoMore xs x
largest_is [] x e = absurd (true≢false cc)
largest_is (y ∷ ys) x e = best_is HasNoMore (y ∷ ys) _ x e (best_fold HasNoMore bigger bigger_chooses y ys)

pub smallest_is : (xs : List Share) (x : Share) → smallest xs ≡ Some x → IsBest HasNoFewer xs x
smallest_is [] x e = absurd (true≢false cc)
smallest_is (y ∷ ys) x e = best_is HasNoFewer (y ∷ ys) _ x e (best_fold HasNoFewer smaller smaller_chooses y ys)

-- the shares that are picked from and counted to
pub record IsPick (xs : List Share) (x y : Share) : Type 0 where
  pub largest : IsBest HasNoMore xs x
  pub smallest : IsBest HasNoFewer xs y
  pub apart : y.count + 2 ≤ x.count

-- the share picked from has shards to be picked
pub has_rest : (xs : List Share) (x y : Share) → IsFair xs → IsPick xs x y → x.count ≤ length x.rest
has_rest xs x y fair pick =
    let x_at = pick.largest.there in
    let y_at = pick.smallest.there in
    let there = fair.there pick.largest.place pick.smallest.place pick.largest.within pick.smallest.within in
    let there' : x.count ≤ max (length x.rest) (y.count + 1) =
    subst (λ (z : Share). z.count ≤ max (length z.rest) (y.count + 1)) x_at (subst (λ (w : Share). (share_at xs pick.largest.place).count ≤ max (length (share_at xs pick.largest.place).rest) (w.count + 1)) y_at there) in
    omega (arith, pick.apart)

abbrev pub picked_by : Share → Bool → Bool → Share
picked_by z one two =
    if one then record { region = z.region; rest = drop 1 z.rest; count = z.count - 1 }
    else if two then record { region = z.region; rest = z.rest; count = z.count + 1 }
    else z

low_by : (x y z : Share) → y.count + 2 ≤ x.count → y.count ≤ z.count → (one two : Bool) → (one ≡ true → z ≡ x) → y.count ≤ (picked_by z one two).count
low_by x y z apart low true two same = let e = ap (λ (s : Share). s.count) (same refl) in omega arith
low_by x y z apart low false true same = omega arith
low_by x y z apart low false false same = low

high_by : (x y z : Share) → x.count ≤ length x.rest → z.count ≤ max (length z.rest) (y.count + 1) → (one two : Bool) → (one ≡ true → z ≡ x) → (two ≡ true → z ≡ y)
    → (picked_by z one two).count ≤ max (length (picked_by z one two).rest) (y.count + 1)
high_by x y z has high true two same other =
    let e = ap (λ (s : Share). s.count) (same refl) in
    let f = ap (λ (s : Share). length s.rest) (same refl) in
    omega (arith, length-drop 1 z.rest)
high_by x y z has high false true same other = let e = ap (λ (s : Share). s.count) (other refl) in omega arith
high_by x y z has high false false same other = high

-- after a pick the shares are still so
pub fair_after : (xs : List Share) (x y : Share) → IsFair xs → IsPick xs x y → IsFair (map (with_pick x y) xs)
fair_after xs x y fair pick = record { one = one; there = there }
  where
    size : length (map (with_pick x y) xs) ≡ length xs
    size = length-map xs (with_pick x y)

    at' : (i : ℕ) → i < length xs → share_at (map (with_pick x y) xs) i ≡ with_pick x y (share_at xs i)
    at' i low = get_or-map (with_pick x y) xs i no_share no_share low

    region_by : (z : Share) (one two : Bool) → (picked_by z one two).region ≡ z.region
    region_by z true two = refl
    region_by z false true = refl
    region_by z false false = refl

    is_x : (i : ℕ) → i < length xs → is_same (share_at xs i).region x.region ≡ true → share_at xs i ≡ x
    is_x i low h = fair.one i pick.largest.place low pick.largest.within (ap (λ (s : Share). is_same (share_at xs i).region s.region) pick.largest.there ∙ h) ∙ pick.largest.there

    is_y : (i : ℕ) → i < length xs → is_same (share_at xs i).region y.region ≡ true → share_at xs i ≡ y
    is_y i low h = fair.one i pick.smallest.place low pick.smallest.within (ap (λ (s : Share). is_same (share_at xs i).region s.region) pick.smallest.there ∙ h) ∙ pick.smallest.there

    one : (i j : ℕ) → i < length (map (with_pick x y) xs) → j < length (map (with_pick x y) xs) → is_same (share_at (map (with_pick x y) xs) i).region (share_at (map (with_pick x y) xs) j).region ≡ true → share_at (map (with_pick x y) xs) i ≡ share_at (map (with_pick x y) xs) j
    one i j low high h =
        let li : i < length xs = omega (arith, size) in
        let lj : j < length xs = omega (arith, size) in
        let ri : (share_at (map (with_pick x y) xs) i).region ≡ (share_at xs i).region = ap (λ (s : Share). s.region) (at' i li) ∙ region_by (share_at xs i) _ _ in
        let rj : (share_at (map (with_pick x y) xs) j).region ≡ (share_at xs j).region = ap (λ (s : Share). s.region) (at' j lj) ∙ region_by (share_at xs j) _ _ in
        let same : is_same (share_at xs i).region (share_at xs j).region ≡ true = ap (λ r. is_same r (share_at xs j).region) (sym ri) ∙ (ap (is_same (share_at (map (with_pick x y) xs) i).region) (sym rj) ∙ h) in
        at' i li ∙ (ap (with_pick x y) (fair.one i j li lj same) ∙ sym (at' j lj))

    there : (i j : ℕ) → i < length (map (with_pick x y) xs) → j < length (map (with_pick x y) xs) → (share_at (map (with_pick x y) xs) i).count ≤ max (length (share_at (map (with_pick x y) xs) i).rest) ((share_at (map (with_pick x y) xs) j).count + 1)
    there i j low high =
        let li : i < length xs = omega (arith, size) in
        let lj : j < length xs = omega (arith, size) in
        let before : (share_at xs i).count ≤ max (length (share_at xs i).rest) (y.count + 1) =
        subst (λ (w : Share). (share_at xs i).count ≤ max (length (share_at xs i).rest) (w.count + 1)) pick.smallest.there (fair.there i pick.smallest.place li pick.smallest.within) in
        let top : (with_pick x y (share_at xs i)).count ≤ max (length (with_pick x y (share_at xs i)).rest) (y.count + 1) =
        high_by x y (share_at xs i) (has_rest xs x y fair pick) before _ _ (is_x i li) (is_y i li) in
        let bottom : y.count ≤ (with_pick x y (share_at xs j)).count = low_by x y (share_at xs j) pick.apart (pick.smallest.best j lj) _ _ (is_x j lj) in
        let top' : (share_at (map (with_pick x y) xs) i).count ≤ max (length (share_at (map (with_pick x y) xs) i).rest) (y.count + 1) =
        subst (λ (s : Share). s.count ≤ max (length s.rest) (y.count + 1)) (sym (at' i li)) top in
        let bottom' : y.count ≤ (share_at (map (with_pick x y) xs) j).count = subst (λ (s : Share). y.count ≤ s.count) (sym (at' j lj)) bottom in
        omega arith

-- at first
pub fair_first : (loads : List Load) → AreOfDifferentRegions loads → IsFair (shares_of loads)
fair_first loads different = record { one = one; there = there }
  where
    size : length (shares_of loads) ≡ length loads
    size = length-map loads share_of

    at' : (i : ℕ) → i < length loads → share_at (shares_of loads) i ≡ share_of (get_or loads i no_load)
    at' i low = get_or-map share_of loads i no_load no_share low

    one : (i j : ℕ) → i < length (shares_of loads) → j < length (shares_of loads) → is_same (share_at (shares_of loads) i).region (share_at (shares_of loads) j).region ≡ true
        → share_at (shares_of loads) i ≡ share_at (shares_of loads) j
    one i j low high h =
        let li : i < length loads = omega (arith, size) in
        let lj : j < length loads = omega (arith, size) in
        let same : is_same (get_or loads i no_load).region (get_or loads j no_load).region ≡ true =
        ap (λ (s : Share). is_same s.region (get_or loads j no_load).region) (sym (at' i li)) ∙ (ap (λ (s : Share). is_same (share_at (shares_of loads) i).region s.region) (sym (at' j lj)) ∙ h) in
        ap (share_at (shares_of loads)) (different i j li lj same)

    there : (i j : ℕ) → i < length (shares_of loads) → j < length (shares_of loads)
        → (share_at (shares_of loads) i).count ≤ max (length (share_at (shares_of loads) i).rest) ((share_at (shares_of loads) j).count + 1)
    there i j low high =
        let li : i < length loads = omega (arith, size) in
        let e : (share_at (shares_of loads) i).count ≡ length (members (get_or loads i no_load).shards) = ap (λ (s : Share). s.count) (at' i li) in
        let f : length (share_at (shares_of loads) i).rest ≡ length (members (get_or loads i no_load).shards) = ap (λ (s : Share). length s.rest) (at' i li) in
        omega arith

abbrev by_test : ℕ → List Share → Share → Share → Bool → List ℕ
by_test n xs x y b = elim b as (λ b. List ℕ) [
  | true ↦ get_or x.rest 0 0 ∷ picks n (map (with_pick x y) xs)
  | false ↦ []
]

abbrev by_smallest : ℕ → List Share → Share → Option Share → List ℕ
by_smallest n xs x o = elim o as (λ o. List ℕ) [
  | None ↦ []
  | Some y ↦ by_test n xs x y (nat_le (y.count + 2) x.count)
]

abbrev by_largest : ℕ → List Share → Option Share → Option Share → List ℕ
by_largest n xs o p = elim o as (λ o. List ℕ) [
  | None ↦ []
  | Some x ↦ by_smallest n xs x p
]

by_both : (n : ℕ) (xs : List Share) (x y : Share) → largest xs ≡ Some x → smallest xs ≡ Some y → picks (suc n) xs ≡ by_test n xs x y (nat_le (y.count + 2) x.count)
by_both n xs x y e f = ap (λ o. by_largest n xs o (smallest xs)) e ∙ ap (by_smallest n xs x) f

-- one pick more
pub picks_more : (n : ℕ) (xs : List Share) (x y : Share) → largest xs ≡ Some x → smallest xs ≡ Some y → y.count + 2 ≤ x.count
    → picks (suc n) xs ≡ get_or x.rest 0 0 ∷ picks n (map (with_pick x y) xs)
picks_more n xs x y e f apart = by_both n xs x y e f ∙ ap (by_test n xs x y) (le-leb (y.count + 2) x.count apart)

-- no pick more
pub picks_end : (n : ℕ) (xs : List Share) (x y : Share) → largest xs ≡ Some x → smallest xs ≡ Some y → x.count < y.count + 2 → picks n xs ≡ []
picks_end zero xs x y e f near = refl
picks_end (suc n) xs x y e f near = by_both n xs x y e f ∙ ap (by_test n xs x y) (lt-leb (y.count + 2) x.count near)

pub picks_none : (n : ℕ) → picks n [] ≡ []
picks_none zero = refl
picks_none (suc n) = refl

pub counts_after : (n : ℕ) (xs : List Share) (x y : Share) → CountsWithin n xs → CountsWithin (n + 1) (map (with_pick x y) xs)
counts_after n xs x y h = λ i low.
    let li : i < length xs = omega (arith, length-map xs (with_pick x y)) in
    subst (λ (s : Share). s.count ≤ n + 1) (sym (get_or-map (with_pick x y) xs i no_share no_share li)) (count_by_case (share_at xs i) (h i li) _ _)
  where
    count_by_case : (z : Share) → z.count ≤ n → (one two : Bool) → (picked_by z one two).count ≤ n + 1
    count_by_case z k true two = omega arith
    count_by_case z k false true = omega arith
    count_by_case z k false false = omega arith

pub counts_first : (loads : List Load) → CountsWithin 128 (shares_of loads)
counts_first loads = λ i low.
    let li : i < length loads = omega (arith, length-map loads share_of) in
    subst (λ (s : Share). s.count ≤ 128) (sym (get_or-map share_of loads i no_load no_share li)) (few_members (get_or loads i no_load).shards)

pub counts_more : (m n : ℕ) (xs : List Share) → m ≤ n → CountsWithin m xs → CountsWithin n xs
counts_more m n xs less h = λ i low. omega (arith, h i low)
