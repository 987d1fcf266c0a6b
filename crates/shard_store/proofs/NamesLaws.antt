-- The names of a shard are in order, and each is found.
use Rattle.std.proofs.Common.{◌≡◌, ◌≢◌, ℕ, ◌<◌, ◌≤◌, List, length, ◌+◌, sym, ap, subst, ◌∙◌, refl, true, false, nat_lt, arith, true≢false}
use Rattle.std.specs.Prelude.{Bool, [], ◌∷◌, ◌++◌, ◌||◌, ◌==◌, zero, suc, cond, drop, filter, map, count_by, slice_index_or, IsSorted}
use Rattle.std.specs.List.{list_any, HoldsAt}
use Rattle.std.specs.List.Sorted.{IsStrictlySortedBy, IsNonDecreasingBy, IsPartitionPoint}
use Rattle.std.specs.Ordering.{nat_cmp, ordering_index, ordering_reverse, is_lt}
use Rattle.std.specs.declared.cmp.Ordering.{Ordering}
use Rattle.std.specs.declared.cmp.Ordering.TheVariants.{Less, Equal, Greater}
use Rattle.std.specs.Cmp.Lexicographic.{slice_cmp, nat_list_cmp_total}
use Rattle.std.proofs.lemmas.Bool.Decides.{nat_tests, Decides-eqb}
use Rattle.std.proofs.lemmas.Slice.Eq.{slice_eq-Decides}
use Rattle.std.proofs.lemmas.Map.Lookups.{exact_bytes}
use Rattle.std.proofs.lemmas.List.{append_assoc, append-nil, drop_more, get_or-map}
use Rattle.std.proofs.lemmas.List.Sorted.{searchable_from_sorted}
use Rattle.std.proofs.lemmas.Cmp.{tied_itself}
use Rattle.std.proofs.lemmas.List.Kept.{IsStrictlySortedBy-filter}
use Rattle.std.proofs.lemmas.List.Sums.{length-filter, count_by-le-length}
use Rattle.yard_model.specs.Script.{Script, IsScript, is_name, names_in}
use Rattle.yard_model.specs.Shard.{shard}

pub sorted_names : (shards s : ℕ) (names : List (List ℕ)) → IsStrictlySortedBy (slice_cmp nat_cmp) names → IsStrictlySortedBy (slice_cmp nat_cmp) (filter (λ e. shard shards e == s) names)
sorted_names shards s names h = IsStrictlySortedBy-filter (slice_cmp nat_cmp) (λ e. shard shards e == s) names h

pub few_names : (c : Script) (shards s : ℕ) (all picked : List (List ℕ)) → IsScript c → all ≡ names_in c.orders → picked ≡ filter (λ e. shard shards e == s) all → length picked ≤ 1000
few_names c shards s all picked k names is =
    let p : List ℕ → Bool = λ e. shard shards e == s in
    let count : length picked ≡ count_by p all = ap length is ∙ length-filter p all in
    let few : count_by p all ≤ length all = count_by-le-length p all in
    let most : length all ≤ 1000 = subst (λ l. length l ≤ 1000) (sym names) k.names in
    omega (arith, count, few, most)

-- names that are found the same are equal
pub same_name : (a b : List ℕ) → is_name a b ≡ true → a ≡ b
same_name a b e = (slice_eq-Decides Decides-eqb a b (is_name a b) refl).0 e

-- what compares alike is the name
pub found_at : (names : List (List ℕ)) (e : List ℕ) (i : ℕ) → HoldsAt (λ y. slice_cmp nat_cmp y e ≡ Equal) names i → HoldsAt (λ y. y ≡ e) names i
found_at names e i h d = exact_bytes (slice_index_or names i d) e (h d)

not_alike : (x e : List ℕ) (o : Ordering) → slice_cmp nat_cmp x e ≡ o → o ≢ Equal → x ≢ e
not_alike x e o c other same = other (sym c ∙ (ap (λ y. slice_cmp nat_cmp y e) same ∙ tied_itself nat_list_cmp_total e))

lt_of : (k i : ℕ) → nat_lt k i ≡ true → k < i
lt_of k i e = grind (arith, nat_tests)

le_of : (k i : ℕ) → nat_lt k i ≡ false → i ≤ k
le_of k i e = grind (arith, nat_tests)

-- a place of a name that is among these
pub record Place (names : List (List ℕ)) (e : List ℕ) : Type 0 where
  pub place : ℕ
  pub within : place < length names
  pub it : slice_index_or names place e ≡ e

pub place_of : (names : List (List ℕ)) (e : List ℕ) → list_any (is_name e) names ≡ true → Place names e
place_of [] e h = absurd (true≢false (sym h))
place_of (n ∷ ns) e h = at (is_name e n) refl (λ m. place_of ns e m)
  where
    at : (b : Bool) → is_name e n ≡ b → (list_any (is_name e) ns ≡ true → Place ns e) → Place (n ∷ ns) e
    at true it rest = record { place = zero; within = omega arith; it = sym (same_name e n it) }
    at false it rest = let p : Place ns e = rest (sym (ap (λ b. b || list_any (is_name e) ns) it) ∙ h) in record { place = suc p.place; within = omega (arith, p.within); it = p.it }

-- the next of names of which each is below those after it isn't below
next_of : (xs : List (List ℕ)) (k j : ℕ) (d : List ℕ) → IsStrictlySortedBy (slice_cmp nat_cmp) xs → j ≡ k + 1 → j < length xs → is_lt (slice_cmp nat_cmp (slice_index_or xs j d) (slice_index_or xs k d)) ≡ false
unfolding IsStrictlySortedBy
next_of [] k j d h e within = absurd (omega arith)
next_of (x ∷ []) k j d h e within = absurd (omega arith)
next_of (x ∷ y ∷ ys) zero j d h e within = subst (λ n. is_lt (slice_cmp nat_cmp (slice_index_or (x ∷ y ∷ ys) n d) x) ≡ false) (sym e) (ap is_lt (nat_list_cmp_total.antisymm y x ∙ ap ordering_reverse h.0.0))
next_of (x ∷ y ∷ ys) (suc k) zero d h e within = absurd (omega arith)
next_of (x ∷ y ∷ ys) (suc k) (suc j) d h e within = next_of (y ∷ ys) k j d h.1 (omega arith) (omega arith)

pub sorted_of : (xs : List (List ℕ)) → IsStrictlySortedBy (slice_cmp nat_cmp) xs → IsSorted (slice_cmp nat_cmp) xs
sorted_of xs h k d a b = next_of xs k (k + 1) d h refl b

-- a name that is among sorted names isn't missed
pub not_missing : (names : List (List ℕ)) (e : List ℕ) (i : ℕ) → IsStrictlySortedBy (slice_cmp nat_cmp) names →
    (IsNonDecreasingBy (λ y. ordering_index (slice_cmp nat_cmp y e)) names → IsPartitionPoint (λ y. slice_cmp nat_cmp y e ≡ Less) (λ y. slice_cmp nat_cmp y e ≡ Greater) names i) →
    list_any (is_name e) names ≡ true → ⊥
not_missing names e i sorted place among =
    let point : IsPartitionPoint (λ y. slice_cmp nat_cmp y e ≡ Less) (λ y. slice_cmp nat_cmp y e ≡ Greater) names i = place (searchable_from_sorted nat_list_cmp_total (λ n. n) names e (sorted_of names sorted)) in
    let p : Place names e = place_of names e among in
    elim (nat_lt p.place i) as (λ b. nat_lt p.place i ≡ b → ⊥) [
      | true ↦ λ below. not_alike (slice_index_or names p.place e) e Less (point.0 p.place e (omega arith) (lt_of p.place i below)) (λ q. cc) p.it
      | false ↦ λ above. not_alike (slice_index_or names p.place e) e Greater (point.1 p.place e (le_of p.place i above) p.within) (λ q. cc) p.it
    ] refl

-- one name more, picked where it is of the shard
pub picked_next : (count s i t : ℕ) (names picked new : List (List ℕ)) (b : Bool) → i < length names → t ≡ slice_index_or (map (shard count) names) i t → b ≡ (t == s) → new ≡ picked ++ cond b (slice_index_or names i [] ∷ []) []
    → picked ++ filter (λ e. shard count e == s) (drop i names) ≡ filter (λ e. shard count e == s) names → new ++ filter (λ e. shard count e == s) (drop (i + 1) names) ≡ filter (λ e. shard count e == s) names
picked_next count s i t names picked new b inside is of next so_far =
    let p : List ℕ → Bool = λ e. shard count e == s in
    let e : List ℕ = slice_index_or names i [] in
    let shard_is : t ≡ shard count e = is ∙ get_or-map (shard count) names i [] t inside in
    let b_is : b ≡ p e = of ∙ ap (λ n. n == s) shard_is in
    let rest : List (List ℕ) = filter p (drop (i + 1) names) in
    let here : filter p (drop i names) ≡ cond (p e) (e ∷ rest) rest = ap (filter p) (drop_more names i [] inside) in
    ap (λ l. l ++ rest) next ∙ (by b rest ∙ (ap (λ c. picked ++ cond c (e ∷ rest) rest) b_is ∙ (ap (λ l. picked ++ l) (sym here) ∙ so_far)))
  where
    by : (b : Bool) (rest : List (List ℕ)) → (picked ++ cond b (slice_index_or names i [] ∷ []) []) ++ rest ≡ picked ++ cond b (slice_index_or names i [] ∷ rest) rest
    by true rest = append_assoc picked (slice_index_or names i [] ∷ []) rest
    by false rest = ap (λ l. l ++ rest) (append-nil picked)
