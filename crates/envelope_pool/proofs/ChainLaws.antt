-- Chains of places, after a place is taken out or put in.
use Rattle.std.proofs.Common.{◌≡◌, ◌≢◌, ℕ, zero, suc, ◌+◌, ◌-◌, ◌<◌, ◌≤◌, Bool, true, false, List, [], ◌∷◌, ◌++◌, length, length-append, drop, map, get_or, set, refl, ap, ap₂, ◌∙◌, sym, subst, arith, cond}
use Rattle.std.specs.Prelude.{◌==◌, nat_lt, sum_by, slice_index, replicate}
use Rattle.std.proofs.lemmas.List.{same_lists, map-set, get_or-set_same, get_or-set_other, length-map}
use Rattle.std.proofs.Math.ListN.{get_or-map, length-set}
use Rattle.std.proofs.lemmas.List.Sums.{sum_by-set, sum_by-cons}
use Rattle.std.proofs.lemmas.Bool.Decides.{nat_tests}
use Rattle.envelope_pool.specs.declared.links.Chain.{Chain}
use Rattle.envelope_pool.specs.Chains.{walk, places_of, chains_of, chain_at, no_chain, times, room, IsLinked}

-- what is at a place within a list is there whatever the default
pub get_or_any : {A : Type 0} (xs : List A) (i : ℕ) (d e : A) → i < length xs → get_or xs i d ≡ get_or xs i e
get_or_any [] i d e h = absurd (omega arith)
get_or_any (x ∷ xs) zero d e h = refl
get_or_any (x ∷ xs) (suc i) d e h = get_or_any xs i d e (omega arith)

-- a part of a sum is no more than the sum
pub part-le : {A : Type 0} (f : A → ℕ) (xs : List A) (i : ℕ) (d : A) → i < length xs → f (get_or xs i d) ≤ sum_by f xs
part-le f [] i d h = absurd (omega arith)
part-le f (x ∷ xs) zero d h = let e = sum_by-cons f x xs in let r : f x ≤ sum_by f (x ∷ xs) = omega (arith, e) in r
part-le f (x ∷ xs) (suc i) d h =
    let e = sum_by-cons f x xs in
    let rest = part-le f xs i d (omega arith) in
    let r : f (get_or xs i d) ≤ sum_by f (x ∷ xs) = omega (arith, e, rest) in r

-- two parts of a sum
pub parts-le : {A : Type 0} (f : A → ℕ) (xs : List A) (i j : ℕ) (d : A) → i < length xs → j < length xs → i ≢ j → f (get_or xs i d) + f (get_or xs j d) ≤ sum_by f xs
parts-le f [] i j d h g ne = absurd (omega arith)
parts-le f (x ∷ xs) zero zero d h g ne = absurd (ne refl)
parts-le f (x ∷ xs) zero (suc j) d h g ne =
    let e = sum_by-cons f x xs in
    let rest = part-le f xs j d (omega arith) in
    let r : f x + f (get_or xs j d) ≤ sum_by f (x ∷ xs) = omega (arith, e, rest) in r
parts-le f (x ∷ xs) (suc i) zero d h g ne =
    let e = sum_by-cons f x xs in
    let rest = part-le f xs i d (omega arith) in
    let r : f (get_or xs i d) + f x ≤ sum_by f (x ∷ xs) = omega (arith, e, rest) in r
parts-le f (x ∷ xs) (suc i) (suc j) d h g ne =
    let e = sum_by-cons f x xs in
    let rest = parts-le f xs i j d (omega arith) (omega arith) (λ eq. ne (ap suc eq)) in
    let r : f (get_or xs i d) + f (get_or xs j d) ≤ sum_by f (x ∷ xs) = omega (arith, e, rest) in r

pub walk_length : (next : List ℕ) (p n : ℕ) → length (walk next p n) ≡ n
walk_length next p zero = refl
walk_length next p (suc n) = ap suc (walk_length next (slice_index next p) n)

-- the chain at a number
pub chains_at : (next : List ℕ) (cs : List Chain) (k : ℕ) → k < length cs → get_or (chains_of next cs) k [] ≡ places_of next (chain_at cs k)
chains_at next cs k h = get_or-map (places_of next) cs k no_chain

-- how many places a chain has
pub chain_len : (next : List ℕ) (cs : List Chain) (k : ℕ) → k < length cs → (chain_at cs k).len ≡ length (get_or (chains_of next cs) k [])
chain_len next cs k h = sym (ap length (chains_at next cs k h) ∙ walk_length next (chain_at cs k).first (chain_at cs k).len)

same_is : (q p : ℕ) → (q == p) ≡ true → q ≡ p
same_is q p e = grind (arith, nat_tests)

is_same : (q p : ℕ) → q ≡ p → (q == p) ≡ true
is_same q p e = grind (arith, nat_tests)

times_self : (q : ℕ) (qs : List ℕ) → times q (q ∷ qs) ≡ 1 + times q qs
times_self q qs = ap (λ b. cond b 1 0 + times q qs) (is_same q q refl)

pub times_append : (p : ℕ) (xs ys : List ℕ) → times p (xs ++ ys) ≡ times p xs + times p ys
times_append p [] ys = omega arith
times_append p (x ∷ xs) ys = ap (λ n. cond (x == p) 1 0 + n) (times_append p xs ys) ∙ omega arith

-- the last of a walk stands once more than in the walk before it
times_front : (next : List ℕ) (q n f : ℕ) → slice_index (walk next f (suc n)) n ≡ q → times q (walk next f (suc n)) ≡ times q (walk next f n) + 1
times_front next q zero f e = ap (λ b. cond b 1 0 + 0) (is_same f q e)
times_front next q (suc n) f e = ap (λ m. cond (f == q) 1 0 + m) (times_front next q n (slice_index next f) e) ∙ omega arith

pub none_first : (q f : ℕ) (n : ℕ) → cond (f == q) 1 0 + n ≡ 0 → (f ≢ q) × (n ≡ 0)
none_first q f n e = step (f == q) refl e
  where
    step : (b : Bool) → (f == q) ≡ b → cond b 1 0 + n ≡ 0 → (f ≢ q) × (n ≡ 0)
    step true t h = absurd (omega arith)
    step false t h = (λ s. grind (arith, nat_tests), omega arith)

-- a walk that doesn't come to a place is the same whatever is next of that
walk_kept : (next : List ℕ) (q p n f : ℕ) → times q (walk next f n) ≡ 0 → walk (set next q p) f n ≡ walk next f n
walk_kept next q p zero f h = refl
walk_kept next q p (suc n) f h =
    let parts = none_first q f (times q (walk next (slice_index next f) n)) h in
    ap (λ xs. f ∷ xs) (ap (λ g. walk (set next q p) g n) (get_or-set_other next q f p 0 parts.0) ∙ walk_kept next q p n (slice_index next f) parts.1)

-- a walk to whose end a place is tied
walk_grown : (next : List ℕ) (q p n f : ℕ) → slice_index (walk next f (suc n)) n ≡ q → times q (walk next f n) ≡ 0 → q < length next → walk (set next q p) f (suc (suc n)) ≡ walk next f (suc n) ++ p ∷ []
walk_grown next q p zero f e h lt = ap (λ g. f ∷ g ∷ []) (ap (λ k. get_or (set next q p) k 0) e ∙ get_or-set_same next q p 0 lt)
walk_grown next q p (suc n) f e h lt =
    let parts = none_first q f (times q (walk next (slice_index next f) n)) h in
    ap (λ xs. f ∷ xs) (ap (λ g. walk (set next q p) g (suc (suc n))) (get_or-set_other next q f p 0 parts.0) ∙ walk_grown next q p n (slice_index next f) e parts.1 lt)

-- one place for each number below n
room_one : (n p : ℕ) → room n p ≤ 1
room_one n p = step (nat_lt p n)
  where
    step : (b : Bool) → cond b 1 0 ≤ 1
    step true = omega arith
    step false = omega arith

room_below : (n p : ℕ) → 0 < room n p → p < n
room_below n p h = step (nat_lt p n) refl h
  where
    step : (b : Bool) → nat_lt p n ≡ b → 0 < cond b 1 0 → p < n
    step true t g = grind (arith, nat_tests)
    step false t g = absurd (omega arith)

room_of : (n p : ℕ) → p < n → room n p ≡ 1
room_of n p h = let t : nat_lt p n ≡ true = grind (arith, nat_tests) in ap (λ b. cond b 1 0) t

walk_first : (next : List ℕ) (f n : ℕ) → 0 < n → walk next f n ≡ f ∷ walk next (slice_index next f) (n - 1)
walk_first next f zero h = absurd (omega arith)
walk_first next f (suc n) h = let e : suc n - 1 ≡ n = omega arith in ap (λ j. f ∷ walk next (slice_index next f) j) (sym e)

-- the chain without its first place
abbrev pub shorter : List ℕ → Chain → Chain
shorter next c = record { first = slice_index next c.first; last = c.last; len = c.len - 1 }

abbrev pub chain : ℕ → ℕ → ℕ → Chain
chain f l n = record { first = f; last = l; len = n }

pub shorter_is : (next : List ℕ) (n : ℕ) (c d : Chain) → c ≡ d → n ≡ slice_index next d.first → chain n c.last (c.len - 1) ≡ shorter next d
shorter_is next n c d e f = ap₂ (λ (x : Chain) (y : ℕ). chain y x.last (x.len - 1)) e f

true_false : true ≡ false → ⊥
true_false e = cc

at_same : (cs : List Chain) (k : ℕ) (c : Chain) → k < length cs → chain_at (set cs k c) k ≡ c
at_same cs k c h = get_or-set_same cs k c no_chain h

at_other : (cs : List Chain) (k j : ℕ) (c : Chain) → j ≢ k → chain_at (set cs k c) j ≡ chain_at cs j
at_other cs k j c ne = get_or-set_other cs k j c no_chain ne

module _ (next : List ℕ) (cs : List Chain) (k : ℕ) (linked : IsLinked next cs 0) (h : k < length cs) (some : 0 < (chain_at cs k).len) where
  parts : get_or (chains_of next cs) k [] ≡ (chain_at cs k).first ∷ places_of next (shorter next (chain_at cs k))
  parts = chains_at next cs k h ∙ walk_first next (chain_at cs k).first (chain_at cs k).len some

  pub taken_place : get_or (chains_of next cs) k [] ≡ (chain_at cs k).first ∷ drop 1 (get_or (chains_of next cs) k [])
  taken_place = parts ∙ ap (λ l. (chain_at cs k).first ∷ l) (sym (ap (drop 1) parts))

  pub taken_chains : chains_of next (set cs k (shorter next (chain_at cs k))) ≡ set (chains_of next cs) k (drop 1 (get_or (chains_of next cs) k []))
  taken_chains = map-set (places_of next) cs k (shorter next (chain_at cs k)) ∙ ap (set (chains_of next cs) k) (sym (ap (drop 1) parts))

  inside : k < length (chains_of next cs)
  inside = omega (arith, length-map cs (places_of next))

  changed : (f : List ℕ → ℕ) → sum_by f (chains_of next (set cs k (shorter next (chain_at cs k)))) + f ((chain_at cs k).first ∷ places_of next (shorter next (chain_at cs k)))
      ≡ sum_by f (chains_of next cs) + f (places_of next (shorter next (chain_at cs k)))
  changed f =
      ap₂ (λ s g. sum_by f s + f g) (map-set (places_of next) cs k (shorter next (chain_at cs k))) (sym parts)
      ∙ sum_by-set f (chains_of next cs) k (places_of next (shorter next (chain_at cs k))) [] inside

  counted : (r : ℕ) → sum_by (times r) (chains_of next (set cs k (shorter next (chain_at cs k)))) + cond ((chain_at cs k).first == r) 1 0 ≡ sum_by (times r) (chains_of next cs)
  counted r = let e = changed (times r) in omega (arith, e)

  counted_first : sum_by (times (chain_at cs k).first) (chains_of next (set cs k (shorter next (chain_at cs k)))) + 1 ≡ sum_by (times (chain_at cs k).first) (chains_of next cs)
  counted_first = ap (λ b. sum_by (times (chain_at cs k).first) (chains_of next (set cs k (shorter next (chain_at cs k)))) + cond b 1 0) (sym (is_same (chain_at cs k).first (chain_at cs k).first refl)) ∙ counted (chain_at cs k).first

  pub taken_loose : sum_by (times (chain_at cs k).first) (chains_of next (set cs k (shorter next (chain_at cs k)))) ≡ 0
  taken_loose = omega (arith, counted_first, linked.once (chain_at cs k).first, room_one (length next) (chain_at cs k).first)

  pub taken_within : (chain_at cs k).first < length next
  taken_within = room_below (length next) (chain_at cs k).first (omega (arith, counted_first, linked.once (chain_at cs k).first))

  taken_end : 0 < (chain_at cs k).len - 1 → slice_index (places_of next (shorter next (chain_at cs k))) ((chain_at cs k).len - 1 - 1) ≡ (chain_at cs k).last
  taken_end more =
      let e : (chain_at cs k).len - 1 ≡ suc ((chain_at cs k).len - 1 - 1) = omega arith in
      sym (ap₂ (λ l n. slice_index l n) (walk_first next (chain_at cs k).first (chain_at cs k).len some) e) ∙ linked.ends k h some

  pub taken_linked : IsLinked next (set cs k (shorter next (chain_at cs k))) 1
  taken_linked = record {
    once = λ r. omega (arith, counted r, linked.once r);
    ends = λ j g. by_place j g;
    all = let e = changed length in omega (arith, e, linked.all);
    small = linked.small;
  }
    where
      by_place : (j : ℕ) → j < length (set cs k (shorter next (chain_at cs k))) → 0 < (chain_at (set cs k (shorter next (chain_at cs k))) j).len
          → slice_index (places_of next (chain_at (set cs k (shorter next (chain_at cs k))) j)) ((chain_at (set cs k (shorter next (chain_at cs k))) j).len - 1) ≡ (chain_at (set cs k (shorter next (chain_at cs k))) j).last
      by_place j g = step (j == k) refl
        where
          step : (b : Bool) → (j == k) ≡ b → 0 < (chain_at (set cs k (shorter next (chain_at cs k))) j).len
              → slice_index (places_of next (chain_at (set cs k (shorter next (chain_at cs k))) j)) ((chain_at (set cs k (shorter next (chain_at cs k))) j).len - 1) ≡ (chain_at (set cs k (shorter next (chain_at cs k))) j).last
          step true t = subst (λ (c : Chain). 0 < c.len → slice_index (places_of next c) (c.len - 1) ≡ c.last) (sym (at_same cs k (shorter next (chain_at cs k)) h) ∙ ap (λ i. chain_at (set cs k (shorter next (chain_at cs k))) i) (sym (same_is j k t))) taken_end
          step false t = subst (λ (c : Chain). 0 < c.len → slice_index (places_of next c) (c.len - 1) ≡ c.last) (sym (at_other cs k j (shorter next (chain_at cs k)) (λ e. absurd (true_false (sym (is_same j k e) ∙ t))))) (linked.ends j (omega (arith, length-set cs k (shorter next (chain_at cs k)))))

get_push : (xs : List ℕ) (p n : ℕ) → length xs ≡ n → slice_index (xs ++ p ∷ []) n ≡ p
get_push [] p zero e = refl
get_push [] p (suc n) e = absurd (omega arith)
get_push (x ∷ xs) p zero e = absurd (omega arith)
get_push (x ∷ xs) p (suc n) e = get_push xs p n (omega arith)

module _ (next : List ℕ) (cs : List Chain) (k p : ℕ) (linked : IsLinked next cs 1) (h : k < length cs) (loose : sum_by (times p) (chains_of next cs) ≡ 0) (within : p < length next) where
  stands : k < length (chains_of next cs)
  stands = omega (arith, length-map cs (places_of next))

  grows : (f : List ℕ → ℕ) → sum_by f (set (chains_of next cs) k (get_or (chains_of next cs) k [] ++ p ∷ [])) + f (get_or (chains_of next cs) k []) ≡ sum_by f (chains_of next cs) + f (get_or (chains_of next cs) k [] ++ p ∷ [])
  grows f = sum_by-set f (chains_of next cs) k (get_or (chains_of next cs) k [] ++ p ∷ []) [] stands

  counted_more : (r : ℕ) → sum_by (times r) (set (chains_of next cs) k (get_or (chains_of next cs) k [] ++ p ∷ [])) ≡ sum_by (times r) (chains_of next cs) + cond (p == r) 1 0
  counted_more r =
      let e = grows (times r) in
      let a : times r (get_or (chains_of next cs) k [] ++ p ∷ []) ≡ times r (get_or (chains_of next cs) k []) + (cond (p == r) 1 0 + 0) = times_append r (get_or (chains_of next cs) k []) (p ∷ []) in
      omega (arith, e, a)

  once_more : (r : ℕ) → sum_by (times r) (set (chains_of next cs) k (get_or (chains_of next cs) k [] ++ p ∷ [])) ≤ room (length next) r
  once_more r = step (p == r) refl
    where
      step : (b : Bool) → (p == r) ≡ b → sum_by (times r) (set (chains_of next cs) k (get_or (chains_of next cs) k [] ++ p ∷ [])) ≤ room (length next) r
      step true t =
          let e : p ≡ r = same_is p r t in
          let c : sum_by (times r) (set (chains_of next cs) k (get_or (chains_of next cs) k [] ++ p ∷ [])) ≡ sum_by (times r) (chains_of next cs) + 1 = counted_more r ∙ ap (λ b. sum_by (times r) (chains_of next cs) + cond b 1 0) t in
          let none : sum_by (times r) (chains_of next cs) ≡ 0 = ap (λ x. sum_by (times x) (chains_of next cs)) (sym e) ∙ loose in
          let one : room (length next) r ≡ 1 = room_of (length next) r (omega arith) in
          omega (arith, c, none, one)
      step false t =
          let c : sum_by (times r) (set (chains_of next cs) k (get_or (chains_of next cs) k [] ++ p ∷ [])) ≡ sum_by (times r) (chains_of next cs) + 0 = counted_more r ∙ ap (λ b. sum_by (times r) (chains_of next cs) + cond b 1 0) t in
          omega (arith, c, linked.once r)

  put_all : sum_by length (set (chains_of next cs) k (get_or (chains_of next cs) k [] ++ p ∷ [])) + 0 ≡ length next
  put_all = let e = grows length in omega (arith, e, length-append (get_or (chains_of next cs) k []) (p ∷ []), linked.all)

  -- the ends after one chain is changed
  ends_after : (next' : List ℕ) (c : Chain) → slice_index (places_of next' c) (c.len - 1) ≡ c.last → ((j : ℕ) → j ≢ k → j < length cs → places_of next' (chain_at cs j) ≡ places_of next (chain_at cs j))
      → (j : ℕ) → j < length (set cs k c) → 0 < (chain_at (set cs k c) j).len → slice_index (places_of next' (chain_at (set cs k c) j)) ((chain_at (set cs k c) j).len - 1) ≡ (chain_at (set cs k c) j).last
  ends_after next' c own same j g = step (j == k) refl
    where
      step : (b : Bool) → (j == k) ≡ b → 0 < (chain_at (set cs k c) j).len → slice_index (places_of next' (chain_at (set cs k c) j)) ((chain_at (set cs k c) j).len - 1) ≡ (chain_at (set cs k c) j).last
      step true t = subst (λ (d : Chain). 0 < d.len → slice_index (places_of next' d) (d.len - 1) ≡ d.last) (sym (at_same cs k c h) ∙ ap (λ i. chain_at (set cs k c) i) (sym (same_is j k t))) (λ _. own)
      step false t =
          let ne : j ≢ k = λ e. true_false (sym (is_same j k e) ∙ t) in
          let inside : j < length cs = omega (arith, length-set cs k c) in
          subst (λ (d : Chain). 0 < d.len → slice_index (places_of next' d) (d.len - 1) ≡ d.last) (sym (at_other cs k j c ne))
          (λ some. ap (λ l. slice_index l ((chain_at cs j).len - 1)) (same j ne inside) ∙ linked.ends j inside some)

  chains_after : (next' : List ℕ) (c : Chain) → places_of next' c ≡ get_or (chains_of next cs) k [] ++ p ∷ [] → ((j : ℕ) → j ≢ k → j < length cs → places_of next' (chain_at cs j) ≡ places_of next (chain_at cs j))
      → chains_of next' (set cs k c) ≡ set (chains_of next cs) k (get_or (chains_of next cs) k [] ++ p ∷ [])
  chains_after next' c own same =
      same_lists (chains_of next' (set cs k c)) (set (chains_of next cs) k (get_or (chains_of next cs) k [] ++ p ∷ []))
      (length-map (set cs k c) (places_of next') ∙ (length-set cs k c ∙ sym (length-set (chains_of next cs) k (get_or (chains_of next cs) k [] ++ p ∷ []) ∙ length-map cs (places_of next))))
      (λ j d g.
      let far : j < length (set cs k c) = omega (arith, length-map (set cs k c) (places_of next')) in
      let inside : j < length cs = omega (arith, length-set cs k c) in
      let there : j < length (set (chains_of next cs) k (get_or (chains_of next cs) k [] ++ p ∷ [])) = omega (arith, length-set (chains_of next cs) k (get_or (chains_of next cs) k [] ++ p ∷ []), length-map cs (places_of next)) in
      get_or_any (chains_of next' (set cs k c)) j d [] g
      ∙ (chains_at next' (set cs k c) j far
      ∙ (step j inside (j == k) refl
      ∙ get_or_any (set (chains_of next cs) k (get_or (chains_of next cs) k [] ++ p ∷ [])) j [] d there)))
    where
      step : (j : ℕ) → j < length cs → (b : Bool) → (j == k) ≡ b → places_of next' (chain_at (set cs k c) j) ≡ get_or (set (chains_of next cs) k (get_or (chains_of next cs) k [] ++ p ∷ [])) j []
      step j inside true t =
          subst (λ i. places_of next' (chain_at (set cs k c) i) ≡ get_or (set (chains_of next cs) k (get_or (chains_of next cs) k [] ++ p ∷ [])) i []) (sym (same_is j k t))
          (ap (places_of next') (at_same cs k c h) ∙ (own ∙ sym (get_or-set_same (chains_of next cs) k (get_or (chains_of next cs) k [] ++ p ∷ []) [] stands)))
      step j inside false t =
          let ne : j ≢ k = λ e. true_false (sym (is_same j k e) ∙ t) in
          ap (places_of next') (at_other cs k j c ne) ∙ (same j ne inside ∙ (sym (chains_at next cs j inside) ∙ sym (get_or-set_other (chains_of next cs) k j (get_or (chains_of next cs) k [] ++ p ∷ []) [] ne)))

  put_linked : (next' : List ℕ) (c : Chain) → length next' ≡ length next → places_of next' c ≡ get_or (chains_of next cs) k [] ++ p ∷ [] → slice_index (places_of next' c) (c.len - 1) ≡ c.last
      → ((j : ℕ) → j ≢ k → j < length cs → places_of next' (chain_at cs j) ≡ places_of next (chain_at cs j)) → IsLinked next' (set cs k c) 0
  put_linked next' c long own last same = record {
    once = λ r. subst (λ x. sum_by (times r) x ≤ room (length next') r) (sym (chains_after next' c own same)) (subst (λ n. sum_by (times r) (set (chains_of next cs) k (get_or (chains_of next cs) k [] ++ p ∷ [])) ≤ room n r) (sym long) (once_more r));
    ends = ends_after next' c last same;
    all = ap (λ x. sum_by length x + 0) (chains_after next' c own same) ∙ (put_all ∙ sym long);
    small = subst (λ n. n < 65536) (sym long) linked.small;
  }

  -- into a chain of none
  begun : (chain_at cs k).len ≡ 0 → places_of next (chain p p 1) ≡ get_or (chains_of next cs) k [] ++ p ∷ []
  begun e = ap (λ l. l ++ p ∷ []) (sym (chains_at next cs k h ∙ ap (λ n. walk next (chain_at cs k).first n) e))

  pub put_first_linked : (chain_at cs k).len ≡ 0 → IsLinked next (set cs k (chain p p 1)) 0
  put_first_linked e = put_linked next (chain p p 1) refl (begun e) refl (λ j ne g. refl)

  pub put_first_chains : (chain_at cs k).len ≡ 0 → chains_of next (set cs k (chain p p 1)) ≡ set (chains_of next cs) k (get_or (chains_of next cs) k [] ++ p ∷ [])
  put_first_chains e = chains_after next (chain p p 1) (begun e) (λ j ne g. refl)

  -- after the last of a chain
  module _ (some : 0 < (chain_at cs k).len) where
    full : (chain_at cs k).len ≡ suc ((chain_at cs k).len - 1)
    full = omega arith

    were : get_or (chains_of next cs) k [] ≡ walk next (chain_at cs k).first (suc ((chain_at cs k).len - 1))
    were = chains_at next cs k h ∙ ap (λ n. walk next (chain_at cs k).first n) full

    ending : slice_index (walk next (chain_at cs k).first (suc ((chain_at cs k).len - 1))) ((chain_at cs k).len - 1) ≡ (chain_at cs k).last
    ending = ap (λ n. slice_index (walk next (chain_at cs k).first n) ((chain_at cs k).len - 1)) (sym full) ∙ linked.ends k h some

    in_it : times (chain_at cs k).last (get_or (chains_of next cs) k []) ≡ times (chain_at cs k).last (walk next (chain_at cs k).first ((chain_at cs k).len - 1)) + 1
    in_it = ap (times (chain_at cs k).last) were ∙ times_front next (chain_at cs k).last ((chain_at cs k).len - 1) (chain_at cs k).first ending

    before : times (chain_at cs k).last (walk next (chain_at cs k).first ((chain_at cs k).len - 1)) ≡ 0
    before = omega (arith, in_it, part-le (times (chain_at cs k).last) (chains_of next cs) k [] stands, linked.once (chain_at cs k).last, room_one (length next) (chain_at cs k).last)

    pub last_within : (chain_at cs k).last < length next
    last_within = room_below (length next) (chain_at cs k).last (omega (arith, in_it, part-le (times (chain_at cs k).last) (chains_of next cs) k [] stands, linked.once (chain_at cs k).last))

    pub len_within : (chain_at cs k).len + 1 < 65536
    len_within = let e : length (get_or (chains_of next cs) k []) ≡ (chain_at cs k).len = ap length (chains_at next cs k h) ∙ walk_length next (chain_at cs k).first (chain_at cs k).len in
        omega (arith, e, part-le length (chains_of next cs) k [] stands, linked.all, linked.small)

    same_else : (j : ℕ) → j ≢ k → j < length cs → places_of (set next (chain_at cs k).last p) (chain_at cs j) ≡ places_of next (chain_at cs j)
    same_else j ne g =
        let two = parts-le (times (chain_at cs k).last) (chains_of next cs) k j [] stands (omega (arith, length-map cs (places_of next))) (λ e. ne (sym e)) in
        let out : times (chain_at cs k).last (get_or (chains_of next cs) j []) ≡ 0 = omega (arith, in_it, two, linked.once (chain_at cs k).last, room_one (length next) (chain_at cs k).last) in
        walk_kept next (chain_at cs k).last p (chain_at cs j).len (chain_at cs j).first (ap (times (chain_at cs k).last) (sym (chains_at next cs j g)) ∙ out)

    own_more : places_of (set next (chain_at cs k).last p) (chain (chain_at cs k).first p ((chain_at cs k).len + 1)) ≡ get_or (chains_of next cs) k [] ++ p ∷ []
    own_more =
        let e : (chain_at cs k).len + 1 ≡ suc (suc ((chain_at cs k).len - 1)) = omega arith in
        ap (λ n. walk (set next (chain_at cs k).last p) (chain_at cs k).first n) e ∙ (walk_grown next (chain_at cs k).last p ((chain_at cs k).len - 1) (chain_at cs k).first ending before last_within ∙ ap (λ l. l ++ p ∷ []) (sym were))

    own_last : slice_index (places_of (set next (chain_at cs k).last p) (chain (chain_at cs k).first p ((chain_at cs k).len + 1))) ((chain_at cs k).len + 1 - 1) ≡ p
    own_last =
        ap (λ l. slice_index l ((chain_at cs k).len + 1 - 1)) own_more
        ∙ get_push (get_or (chains_of next cs) k []) p ((chain_at cs k).len + 1 - 1) (ap length (chains_at next cs k h) ∙ (walk_length next (chain_at cs k).first (chain_at cs k).len ∙ omega arith))

    pub put_more_linked : IsLinked (set next (chain_at cs k).last p) (set cs k (chain (chain_at cs k).first p ((chain_at cs k).len + 1))) 0
    put_more_linked = put_linked (set next (chain_at cs k).last p) (chain (chain_at cs k).first p ((chain_at cs k).len + 1)) (length-set next (chain_at cs k).last p) own_more own_last same_else

    pub put_more_chains : chains_of (set next (chain_at cs k).last p) (set cs k (chain (chain_at cs k).first p ((chain_at cs k).len + 1))) ≡ set (chains_of next cs) k (get_or (chains_of next cs) k [] ++ p ∷ [])
    put_more_chains = chains_after (set next (chain_at cs k).last p) (chain (chain_at cs k).first p ((chain_at cs k).len + 1)) own_more same_else

-- all places in one chain
pub none_places : (next : List ℕ) (n : ℕ) → map (places_of next) (replicate n no_chain) ≡ replicate n []
none_places next zero = refl
none_places next (suc n) = ap (λ l. [] ∷ l) (none_places next n)

none_sum : (f : List ℕ → ℕ) (n : ℕ) → f [] ≡ 0 → sum_by f (replicate n []) ≡ 0
none_sum f zero e = refl
none_sum f (suc n) e = sum_by-cons f [] (replicate n []) ∙ omega (arith, e, none_sum f n e)

none_at : (n k : ℕ) → chain_at (replicate n no_chain) k ≡ no_chain
none_at zero k = refl
none_at (suc n) zero = refl
none_at (suc n) (suc k) = none_at n k

-- no place yet
pub none_linked : (n : ℕ) → IsLinked [] (replicate n no_chain) 0
none_linked n = record {
  once = λ r. let e : sum_by (times r) (chains_of [] (replicate n no_chain)) ≡ 0 = ap (sum_by (times r)) (none_places [] n) ∙ none_sum (times r) n refl in omega (arith, e);
  ends = λ k h some. let e : (chain_at (replicate n no_chain) k).len ≡ 0 = ap (λ (c : Chain). c.len) (none_at n k) in absurd (omega (arith, e));
  all = let e : sum_by length (chains_of [] (replicate n no_chain)) ≡ 0 = ap (sum_by length) (none_places [] n) ∙ none_sum length n refl in omega (arith, e);
  small = omega arith;
}

-- One place more, in no chain yet.

-- what stands at the end is what is read past it
pub get_past : {A : Type 0} (xs : List A) (d : A) (i : ℕ) → get_or (xs ++ d ∷ []) i d ≡ get_or xs i d
get_past [] d zero = refl
get_past [] d (suc i) = refl
get_past (x ∷ xs) d zero = refl
get_past (x ∷ xs) d (suc i) = get_past xs d i

walk_past : (next : List ℕ) (p n : ℕ) → walk (next ++ 0 ∷ []) p n ≡ walk next p n
walk_past next p zero = refl
walk_past next p (suc n) = ap (λ l. p ∷ l) (ap (λ g. walk (next ++ 0 ∷ []) g n) (get_past next 0 p) ∙ walk_past next (slice_index next p) n)

pub made_chains : (next : List ℕ) (cs : List Chain) → chains_of (next ++ 0 ∷ []) cs ≡ chains_of next cs
made_chains next [] = refl
made_chains next (c ∷ cs) = ap₂ (λ l m. l ∷ m) (walk_past next c.first c.len) (made_chains next cs)

room_more : (n p : ℕ) → room n p ≤ room (n + 1) p
room_more n p = by_test (nat_lt p n) refl
  where
    by_test : (b : Bool) → nat_lt p n ≡ b → room n p ≤ room (n + 1) p
    by_test true t =
        let inside : p < n = grind (arith, nat_tests) in
        let more : room (n + 1) p ≡ 1 = room_of (n + 1) p (omega arith) in
        omega (arith, more, room_one n p)
    by_test false t = let none : room n p ≡ 0 = ap (λ b. cond b 1 0) t in omega (arith, none)

room_none : (n : ℕ) → room n n ≡ 0
room_none n = let t : nat_lt n n ≡ false = grind (arith, nat_tests) in ap (λ b. cond b 1 0) t

pub made_linked : (next : List ℕ) (cs : List Chain) → IsLinked next cs 0 → length next + 1 < 65536 → IsLinked (next ++ 0 ∷ []) cs 1
made_linked next cs linked few =
    let long : length (next ++ 0 ∷ []) ≡ length next + 1 = length-append next (0 ∷ []) in
    record {
      once = λ r.
          let same : sum_by (times r) (chains_of (next ++ 0 ∷ []) cs) ≡ sum_by (times r) (chains_of next cs) = ap (sum_by (times r)) (made_chains next cs) in
          let wide : room (length (next ++ 0 ∷ [])) r ≡ room (length next + 1) r = ap (λ n. room n r) long in
          omega (arith, same, wide, linked.once r, room_more (length next) r);
      ends = λ k h some. ap (λ l. slice_index l ((chain_at cs k).len - 1)) (walk_past next (chain_at cs k).first (chain_at cs k).len) ∙ linked.ends k h some;
      all = let same : sum_by length (chains_of (next ++ 0 ∷ []) cs) ≡ sum_by length (chains_of next cs) = ap (sum_by length) (made_chains next cs) in omega (arith, same, linked.all, long);
      small = omega (arith, long, few);
    }

pub made_loose : (next : List ℕ) (cs : List Chain) → IsLinked next cs 0 → sum_by (times (length next)) (chains_of (next ++ 0 ∷ []) cs) ≡ 0
made_loose next cs linked =
    let same : sum_by (times (length next)) (chains_of (next ++ 0 ∷ []) cs) ≡ sum_by (times (length next)) (chains_of next cs) = ap (sum_by (times (length next))) (made_chains next cs) in
    omega (arith, same, linked.once (length next), room_none (length next))
