-- The shards that a rebalancing picks have homes: a region that gained a shard is by one above the smallest at most, so it gives none, and one that gave only has as many left as it counts.
use Rattle.std.proofs.Common.{◌≡◌, ◌<◌, ◌≤◌, ℕ, zero, suc, ◌+◌, ◌-◌, sym, ap, ◌∙◌, refl, subst, arith}
use Rattle.std.specs.Prelude.{Bool, true, false, ◌||◌, nat_lt, nat_le, List, [], ◌∷◌, length, map, fold, drop, if◌then◌else◌, slice_index_or}
use Rattle.std.specs.List.{list_all}
use Rattle.yard_model.specs.declared.incarnation.Incarnation.{Incarnation}
use Rattle.yard_model.specs.Words.{is_same, is_among}
use Rattle.yard_model.specs.Coordinator.{Share, with_pick, picks}
use Rattle.plain_laws.proofs.Booleans.{true_is_not_false, and_both, both, left_of, right_of, at_most, not_below, below}
use Rattle.plain_laws.proofs.Members.{same_is, itself_is}

-- One of several that none beats.

pub record IsBest (as_good : Share → Share → Type 0) (share : Incarnation → Share) (first : Incarnation) (rest : List Incarnation) (best : Share) : Type 0 where
  pub who : Incarnation
  pub among_is : is_among who (first ∷ rest) ≡ true
  pub best_is : best ≡ share who
  pub beats_first : as_good best (share first)
  pub beats_rest : (q : Incarnation) → is_among q rest ≡ true → as_good best (share q)

-- it is this one, or among the others
by_first : (P : Type 0) (q r : Incarnation) (rs : List Incarnation) → is_among q (r ∷ rs) ≡ true → (q ≡ r → P) → (is_among q rs ≡ true → P) → P
by_first P q r rs e here there = step (is_same q r) refl
  where
    step : (b : Bool) → is_same q r ≡ b → P
    step true t = here (same_is q r t)
    step false t = there (ap (λ b. b || is_among q rs) (sym t) ∙ e)

best_found : (beats : Share → Share → Bool) (as_good : Share → Share → Type 0) → ((x : Share) → as_good x x) → ((x y z : Share) → as_good x y → as_good y z → as_good x z)
    → ((x y : Share) → beats y x ≡ true → as_good y x) → ((x y : Share) → beats y x ≡ false → as_good x y)
    → (share : Incarnation → Share) (first : Incarnation) (rest : List Incarnation) → IsBest as_good share first rest (fold (λ best y. if beats y best then y else best) (share first) (map share rest))
best_found beats as_good itself further wins loses share first [] = record {
  who = first;
  among_is = left_of (is_same first first) false (itself_is first first refl);
  best_is = refl;
  beats_first = itself (share first);
  beats_rest = λ q e. absurd (true_is_not_false (sym e));
}
best_found beats as_good itself further wins loses share first (r ∷ rs) =
    step (beats (share r) (share first)) refl (best_found beats as_good itself further wins loses share r rs) (best_found beats as_good itself further wins loses share first rs)
  where
    best_from : Share → Share
    best_from x = fold (λ best y. if beats y best then y else best) x (map share rs)

    step : (b : Bool) → beats (share r) (share first) ≡ b → IsBest as_good share r rs (best_from (share r)) → IsBest as_good share first rs (best_from (share first))
        → IsBest as_good share first (r ∷ rs) (best_from (if b then share r else share first))
    step true t k l = record {
      who = k.who;
      among_is = right_of (is_same k.who first) (is_among k.who (r ∷ rs)) k.among_is;
      best_is = k.best_is;
      beats_first = further (best_from (share r)) (share r) (share first) k.beats_first (wins (share first) (share r) t);
      beats_rest = λ q e. by_first (as_good (best_from (share r)) (share q)) q r rs e (λ same. subst (λ x. as_good (best_from (share r)) (share x)) (sym same) k.beats_first) (λ there. k.beats_rest q there);
    }
    step false t k l = record {
      who = l.who;
      among_is = by_first (is_among l.who (first ∷ (r ∷ rs)) ≡ true) l.who first rs l.among_is
          (λ same. left_of (is_same l.who first) (is_among l.who (r ∷ rs)) (itself_is l.who first same))
          (λ there. right_of (is_same l.who first) (is_among l.who (r ∷ rs)) (right_of (is_same l.who r) (is_among l.who rs) there));
      best_is = l.best_is;
      beats_first = l.beats_first;
      beats_rest = λ q e. by_first (as_good (best_from (share first)) (share q)) q r rs e
          (λ same. subst (λ x. as_good (best_from (share first)) (share x)) (sym same) (further (best_from (share first)) (share first) (share r) l.beats_first (loses (share first) (share r) t)))
          (λ there. l.beats_rest q there);
    }

-- it has no more shards
abbrev no_more : Share → Share → Type 0
no_more x y = x.count ≤ y.count

-- it has no fewer
abbrev no_fewer : Share → Share → Type 0
no_fewer x y = y.count ≤ x.count

lower : (a b : ℕ) → nat_lt a b ≡ true → a ≤ b
lower a b e = let h : a < b = below a b e in omega (arith, h)

smallest_found : (share : Incarnation → Share) (first : Incarnation) (rest : List Incarnation) → IsBest no_more share first rest (fold (λ best y. if nat_lt y.count best.count then y else best) (share first) (map share rest))
smallest_found share first rest =
    best_found (λ y x. nat_lt y.count x.count) no_more (λ x. omega arith) (λ x y z e f. omega (arith, e, f)) (λ x y e. lower y.count x.count e) (λ x y e. not_below y.count x.count e) share first rest

largest_found : (share : Incarnation → Share) (first : Incarnation) (rest : List Incarnation) → IsBest no_fewer share first rest (fold (λ best y. if nat_lt best.count y.count then y else best) (share first) (map share rest))
largest_found share first rest =
    best_found (λ y x. nat_lt x.count y.count) no_fewer (λ x. omega arith) (λ x y z e f. omega (arith, e, f)) (λ x y e. lower x.count y.count e) (λ x y e. not_below x.count y.count e) share first rest

-- Shares between picks.

-- each is its region's; what is left of it passes a test; one that gained nothing has as many left as it counts; one that gained is by one above any other at most
pub record IsShared (p : ℕ → Bool) (rs : List Incarnation) (share : Incarnation → Share) (gained : Incarnation → Bool) : Type 0 where
  pub region_is : (r : Incarnation) → (share r).region ≡ r
  pub rest_are : (r : Incarnation) → list_all p (share r).rest ≡ true
  pub count_is : (r : Incarnation) → gained r ≡ false → (share r).count ≡ length (share r).rest
  pub is_low : (r q : Incarnation) → gained r ≡ true → is_among r rs ≡ true → is_among q rs ≡ true → (share r).count ≤ (share q).count + 1

-- a share after a pick, by whether it gives and whether it gains
abbrev picked_from : Bool → Bool → Share → Share
picked_from gives gains z =
    if gives then record { region = z.region; rest = drop 1 z.rest; count = z.count - 1 }
    else if gains then record { region = z.region; rest = z.rest; count = z.count + 1 }
    else z

abbrev gained_after : Bool → Bool → Bool → Bool
gained_after gives gains old = if gives then old else if gains then true else old

region_kept : (gives gains : Bool) (z : Share) → (picked_from gives gains z).region ≡ z.region
region_kept true gains z = refl
region_kept false true z = refl
region_kept false false z = refl

drop_all : (p : ℕ → Bool) (xs : List ℕ) → list_all p xs ≡ true → list_all p (drop 1 xs) ≡ true
drop_all p [] e = refl
drop_all p (x ∷ xs) e = (and_both (p x) (list_all p xs) e).1

rest_kept : (p : ℕ → Bool) (gives gains : Bool) (z : Share) → list_all p z.rest ≡ true → list_all p (picked_from gives gains z).rest ≡ true
rest_kept p true gains z e = drop_all p z.rest e
rest_kept p false true z e = e
rest_kept p false false z e = e

drop_length : (xs : List ℕ) → length xs - 1 ≡ length (drop 1 xs)
drop_length [] = refl
drop_length (x ∷ xs) = omega arith

count_kept : (gives gains old : Bool) (z : Share) → (old ≡ false → z.count ≡ length z.rest) → gained_after gives gains old ≡ false → (picked_from gives gains z).count ≡ length (picked_from gives gains z).rest
count_kept true gains old z h e = ap (λ n. n - 1) (h e) ∙ drop_length z.rest
count_kept false true old z h e = absurd (true_is_not_false e)
count_kept false false old z h e = h e

-- a number that no share is below, and the one that gives is above, is no more than any count after the pick
at_least : (gives gains : Bool) (z : Share) (m : ℕ) → (gives ≡ true → m + 1 ≤ z.count) → m ≤ z.count → m ≤ (picked_from gives gains z).count
at_least true gains z m h e = let g : m + 1 ≤ z.count = h refl in omega (arith, g)
at_least false true z m h e = omega (arith, e)
at_least false false z m h e = e

pub next_shared : (p : ℕ → Bool) (rs : List Incarnation) (share : Incarnation → Share) (gained : Incarnation → Bool) (a b : Incarnation) → IsShared p rs share gained → is_among a rs ≡ true → is_among b rs ≡ true
    → ((q : Incarnation) → is_among q rs ≡ true → (share q).count ≤ (share a).count) → ((q : Incarnation) → is_among q rs ≡ true → (share b).count ≤ (share q).count) → (share b).count + 2 ≤ (share a).count
    → IsShared p rs (λ r. with_pick (share a) (share b) (share r)) (λ r. gained_after (is_same (share r).region (share a).region) (is_same (share r).region (share b).region) (gained r))
next_shared p rs share gained a b k a_there b_there most fewest apart = record {
  region_is = λ r. region_kept (gives r) (gains r) (share r) ∙ k.region_is r;
  rest_are = λ r. rest_kept p (gives r) (gains r) (share r) (k.rest_are r);
  count_is = λ r e. count_kept (gives r) (gains r) (gained r) (share r) (k.count_is r) e;
  is_low = λ r q e r_there q_there. low r q (gives r) (gains r) refl refl e r_there q_there;
}
  where
    gives : Incarnation → Bool
    gives r = is_same (share r).region (share a).region

    gains : Incarnation → Bool
    gains r = is_same (share r).region (share b).region

    same_share : (r s : Incarnation) → is_same (share r).region (share s).region ≡ true → r ≡ s
    same_share r s e = sym (k.region_is r) ∙ (same_is (share r).region (share s).region e ∙ k.region_is s)

    gives_more : (q : Incarnation) (m : ℕ) → m + 1 ≤ (share a).count → gives q ≡ true → m + 1 ≤ (share q).count
    gives_more q m h t = subst (λ x. m + 1 ≤ (share x).count) (sym (same_share q a t)) h

    low : (r q : Incarnation) (u v : Bool) → gives r ≡ u → gains r ≡ v → gained_after u v (gained r) ≡ true → is_among r rs ≡ true → is_among q rs ≡ true → (picked_from u v (share r)).count ≤ (picked_from (gives q) (gains q) (share q)).count + 1
    low r q true v s t e r_there q_there =
        let far : (share r).count ≤ (share b).count + 1 = k.is_low r b e r_there b_there in
        let same : (share r).count ≡ (share a).count = ap (λ x. (share x).count) (same_share r a s) in
        absurd (omega (arith, far, same, apart))
    low r q false true s t e r_there q_there =
        let same : (share r).count ≡ (share b).count = ap (λ x. (share x).count) (same_share r b t) in
        let g : (share b).count ≤ (picked_from (gives q) (gains q) (share q)).count = at_least (gives q) (gains q) (share q) (share b).count (gives_more q (share b).count (omega (arith, apart))) (fewest q q_there) in
        omega (arith, same, g)
    low r q false false s t e r_there q_there = near (share r).count (k.is_low r q e r_there q_there) (most r r_there)
      where
        near : (n : ℕ) → n ≤ (share q).count + 1 → n ≤ (share a).count → n ≤ (picked_from (gives q) (gains q) (share q)).count + 1
        near zero f h = omega arith
        near (suc m) f h =
            let g : m ≤ (picked_from (gives q) (gains q) (share q)).count = at_least (gives q) (gains q) (share q) m (gives_more q m (omega (arith, h))) (omega (arith, f)) in
            omega (arith, g)

-- the share that gives has one to give
gives_one : (p : ℕ → Bool) (x : Share) (m : ℕ) → x.count ≡ length x.rest → m + 2 ≤ x.count → list_all p x.rest ≡ true → p (slice_index_or x.rest 0 0) ≡ true
gives_one p x m e h all = step x.rest (e) all
  where
    step : (xs : List ℕ) → x.count ≡ length xs → list_all p xs ≡ true → p (slice_index_or xs 0 0) ≡ true
    step [] f g = let long : x.count ≡ 0 = f in absurd (omega (arith, long, h))
    step (y ∷ ys) f g = (and_both (p y) (list_all p ys) g).0

map_twice : (g : Share → Share) (f : Incarnation → Share) (rs : List Incarnation) → map g (map f rs) ≡ map (λ r. g (f r)) rs
map_twice g f [] = refl
map_twice g f (r ∷ rs) = ap (λ xs. g (f r) ∷ xs) (map_twice g f rs)

pub picks_pass : (p : ℕ → Bool) (n : ℕ) (rs : List Incarnation) (share : Incarnation → Share) (gained : Incarnation → Bool) → IsShared p rs share gained → list_all p (picks n (map share rs)) ≡ true
picks_pass p zero rs share gained k = refl
picks_pass p (suc n) [] share gained k = refl
picks_pass p (suc n) (first ∷ rest) share gained k =
    step (nat_le (small.count + 2) large.count) refl (smallest_found share first rest) (largest_found share first rest) (λ next gains h. picks_pass p n (first ∷ rest) next gains h)
  where
    rs : List Incarnation
    rs = first ∷ rest

    small : Share
    small = fold (λ best y. if nat_lt y.count best.count then y else best) (share first) (map share rest)

    large : Share
    large = fold (λ best y. if nat_lt best.count y.count then y else best) (share first) (map share rest)

    step : (b : Bool) → nat_le (small.count + 2) large.count ≡ b → IsBest no_more share first rest small → IsBest no_fewer share first rest large
        → ((next : Incarnation → Share) (gains : Incarnation → Bool) → IsShared p rs next gains → list_all p (picks n (map next rs)) ≡ true)
        → list_all p (elim b as (λ b. List ℕ) [ true ↦ slice_index_or large.rest 0 0 ∷ picks n (map (with_pick large small) (map share rs)) | false ↦ [] ]) ≡ true
    step false t s l again = refl
    step true t s l again =
        let far : small.count + 2 ≤ large.count = at_most (small.count + 2) large.count t in
        let apart : (share s.who).count + 2 ≤ (share l.who).count = subst (λ x. x.count + 2 ≤ (share l.who).count) s.best_is (subst (λ x. small.count + 2 ≤ x.count) l.best_is far) in
        let most : (q : Incarnation) → is_among q rs ≡ true → (share q).count ≤ (share l.who).count = λ q e. subst (λ x. (share q).count ≤ x.count) l.best_is
        (by_first ((share q).count ≤ large.count) q first rest e (λ same. subst (λ x. (share x).count ≤ large.count) (sym same) l.beats_first) (λ there. l.beats_rest q there)) in
        let fewest : (q : Incarnation) → is_among q rs ≡ true → (share s.who).count ≤ (share q).count = λ q e. subst (λ x. x.count ≤ (share q).count) s.best_is
        (by_first (small.count ≤ (share q).count) q first rest e (λ same. subst (λ x. small.count ≤ (share x).count) (sym same) s.beats_first) (λ there. s.beats_rest q there)) in
        let gained_not : gained l.who ≡ false = never (gained l.who) refl (λ g. let low : (share l.who).count ≤ (share s.who).count + 1 = k.is_low l.who s.who g l.among_is s.among_is in omega (arith, low, apart)) in
        let one : p (slice_index_or large.rest 0 0) ≡ true = ap (λ (x : Share). p (slice_index_or x.rest 0 0)) l.best_is ∙ gives_one p (share l.who) (share s.who).count (k.count_is l.who gained_not) apart (k.rest_are l.who) in
        let next : map (with_pick large small) (map share rs) ≡ map (λ r. with_pick (share l.who) (share s.who) (share r)) rs =
        ap (λ x. map (with_pick x small) (map share rs)) l.best_is ∙ (ap (λ x. map (with_pick (share l.who) x) (map share rs)) s.best_is ∙ map_twice (with_pick (share l.who) (share s.who)) share rs) in
        both (p (slice_index_or large.rest 0 0)) (list_all p (picks n (map (with_pick large small) (map share rs)))) one
        (ap (λ xs. list_all p (picks n xs)) next
        ∙ again (λ r. with_pick (share l.who) (share s.who) (share r)) (λ r. gained_after (is_same (share r).region (share l.who).region) (is_same (share r).region (share s.who).region) (gained r))
        (next_shared p rs share gained l.who s.who k l.among_is s.among_is most fewest apart))
      where
        never : (b : Bool) → gained l.who ≡ b → (gained l.who ≡ true → ⊥) → gained l.who ≡ false
        never true g h = absurd (h g)
        never false g h = g
