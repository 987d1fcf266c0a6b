-- The names of a script, each with its place: one name more.
use Rattle.std.proofs.Common.{◌≡◌, ◌≢◌, ℕ, ◌+◌, ◌<◌, ◌≤◌, List, [], ◌∷◌, ◌++◌, length, length-append, map, replicate, sym, ap, subst, ◌∙◌, refl, true, false, arith, get_or-set_same, get_or-set_other}
use Rattle.std.specs.Prelude.{Bool, zero, suc, ◌==◌, ◌||◌, nat_lt, cond, filter, take, Option, None, slice_set, slice_index_or}
use Rattle.std.specs.List.{list_any}
use Rattle.std.specs.Option.{option_map}
use Rattle.std.specs.List.Sorted.{IsStrictlySortedBy}
use Rattle.std.specs.Ordering.{nat_cmp}
use Rattle.std.specs.Cmp.Lexicographic.{slice_cmp}
use Rattle.std.proofs.lemmas.Bool.Decides.{nat_tests, Decides-eqb}
use Rattle.std.proofs.lemmas.List.{length-set, get_or_default, get_or_append_left, get_or-replicate, length-replicate}
use Rattle.std.proofs.lemmas.List.Filters.{length-filter_more}
use Rattle.std.proofs.Math.Seq.{get_or-append_seam}
use Rattle.yard_model.specs.declared.incarnation.Incarnation.{Incarnation}
use Rattle.yard_model.specs.Entities.{new_entities}
use Rattle.yard_model.specs.Script.{Script, IsScript, setting, is_name}
use Rattle.yard_model.specs.Setting.{shard_of, names_of}
use Rattle.shard_store.specs.Shelved.{name_at, IsNamed}
use Rattle.entity_cells.specs.Celled.{Celled, celled}
use Rattle.shard_entities.specs.Lodged.{lodged, cell_of, hosted_of, room_of}
use Rattle.shard_entities.specs.declared.hosting.Hosting.{Hosting}
use Rattle.shard_entities.specs.Placed.{IsPlace, AreFirst, AreCounts, place_of, no_spot}
use Rattle.shard_entities.specs.declared.places.Spot.{Spot}
use Rattle.yard_model.specs.Behaviour.{is_in}
use Rattle.yard_model.specs.Shard.{shard, absolute, java_hash}
use Rattle.plain_laws.proofs.Booleans.{and_both, same_number, other_number}
use Rattle.plain_laws.proofs.Names.{name_itself}
use Rattle.std.proofs.Math.Nat.{mod-lt}
use Rattle.shard_entities.proofs.NameLaws.{picked_place}
use Rattle.name_index.proofs.NameLaws.{placed}

pub list_any_at : (names : List (List ℕ)) (k : ℕ) → k < length names → list_any (is_name (name_at names k)) names ≡ true
list_any_at [] k within = absurd (omega arith)
list_any_at (x ∷ xs) zero within = ap (λ b. b || list_any (is_name x) xs) (name_itself x)
list_any_at (x ∷ xs) (suc k) within = step (is_name (name_at xs k) x) (list_any_at xs k (omega (arith, within)))
  where
    step : (b : Bool) → list_any (is_name (name_at xs k)) xs ≡ true → (b || list_any (is_name (name_at xs k)) xs) ≡ true
    step true h = refl
    step false h = h

-- the place of the next name
place_is : (c : Script) (k : ℕ) (counts : List ℕ) (s : ℕ) → IsStrictlySortedBy (slice_cmp nat_cmp) (setting c).names → AreCounts c k counts → k < length (setting c).names → s ≡ shard_of (setting c) (name_at (setting c).names k) → s < c.config.shards → s < 128
    → IsPlace c (record { entity = name_at (setting c).names k; shard = s; at = k; inner = slice_index_or counts s 0 })
place_is c k counts s sorted counted within shard inside fits = record {
  here = record { within = within; it = refl };
  there = subst (λ n. IsNamed (names_of (setting c) s) n (name_at (setting c).names k)) (sym (counted.each s fits)) (picked_place (λ e. shard_of (setting c) e == s) (setting c).names k within ((Decides-eqb (shard_of (setting c) (name_at (setting c).names k)) s).1 (sym shard)));
  shard_is = shard;
  at_is = placed (setting c).names (name_at (setting c).names k) k sorted within refl;
  brought = list_any_at (setting c).names k within;
  shard_in = inside;
}

-- where the next name stands
pub first_more : (c : Script) (k : ℕ) (spots : List Spot) (counts : List ℕ) (x : Spot) → IsStrictlySortedBy (slice_cmp nat_cmp) (setting c).names → AreFirst c k spots → AreCounts c k counts → k < length (setting c).names
    → x.shard ≡ shard_of (setting c) (name_at (setting c).names k) → x.inner ≡ slice_index_or counts x.shard 0 → x.shard < c.config.shards → x.shard < 128
    → AreFirst c (k + 1) (spots ++ x ∷ [])
first_more c k spots counts x sorted first counted within shard inner inside fits = record {
  there = length-append spots (x ∷ []) ∙ ap (λ n. n + 1) first.there;
  each = λ i below. at_place i below (nat_lt i k) refl;
  inner_is = λ i below. inner_at i below (nat_lt i k) refl;
}
  where
    lt_of : (a b : ℕ) → nat_lt a b ≡ true → a < b
    lt_of a b e = grind (arith, nat_tests)

    le_of : (a b : ℕ) → nat_lt a b ≡ false → b ≤ a
    le_of a b e = grind (arith, nat_tests)

    old : (i : ℕ) → i < k → slice_index_or (spots ++ x ∷ []) i no_spot ≡ slice_index_or spots i no_spot
    old i below = get_or_append_left spots (x ∷ []) no_spot i (omega (arith, below, first.there))

    new : (i : ℕ) → i ≡ k → slice_index_or (spots ++ x ∷ []) i no_spot ≡ x
    new i same = ap (λ n. slice_index_or (spots ++ x ∷ []) n no_spot) (same ∙ sym first.there) ∙ get_or-append_seam spots x [] no_spot

    last : (i : ℕ) → i < k + 1 → nat_lt i k ≡ false → i ≡ k
    last i below e = let up : k ≤ i = le_of i k e in omega (arith, below, up)

    whole : IsPlace c (place_of c k x)
    whole = subst (λ n. IsPlace c (record { entity = name_at (setting c).names k; shard = x.shard; at = k; inner = n })) (sym inner) (place_is c k counts x.shard sorted counted within shard inside fits)

    at_place : (i : ℕ) → i < k + 1 → (b : Bool) → nat_lt i k ≡ b → IsPlace c (place_of c i (slice_index_or (spots ++ x ∷ []) i no_spot))
    at_place i below true e = subst (λ y. IsPlace c (place_of c i y)) (sym (old i (lt_of i k e))) (first.each i (lt_of i k e))
    at_place i below false e = subst (λ y. IsPlace c (place_of c i y)) (sym (new i (last i below e))) (subst (λ n. IsPlace c (place_of c n x)) (sym (last i below e)) whole)

    Inner : ℕ → Spot → Type 0
    Inner i y = y.inner ≡ length (filter (λ e. shard_of (setting c) e == y.shard) (take i (setting c).names))

    inner_at : (i : ℕ) → i < k + 1 → (b : Bool) → nat_lt i k ≡ b → (slice_index_or (spots ++ x ∷ []) i no_spot).inner ≡ length (filter (λ e. shard_of (setting c) e == (slice_index_or (spots ++ x ∷ []) i no_spot).shard) (take i (setting c).names))
    inner_at i below true e = subst (λ y. Inner i y) (sym (old i (lt_of i k e))) (first.inner_is i (lt_of i k e))
    inner_at i below false e = subst (λ y. Inner i y) (sym (new i (last i below e))) (subst (λ n. Inner n x) (sym (last i below e)) (inner ∙ counted.each x.shard fits))

pub counts_more : (c : Script) (k : ℕ) (counts : List ℕ) (s n : ℕ) → AreCounts c k counts → k < length (setting c).names → s ≡ shard_of (setting c) (name_at (setting c).names k) → s < 128 → n ≡ slice_index_or counts s 0 → AreCounts c (k + 1) (slice_set counts s (n + 1))
counts_more c k counts s n counted within shard fits now = record {
  size = length-set counts s (n + 1) ∙ counted.size;
  each = λ t below. at_shard t below (t == s) refl;
}
  where
    more : (t : ℕ) → length (filter (λ e. shard_of (setting c) e == t) (take (k + 1) (setting c).names)) ≡ length (filter (λ e. shard_of (setting c) e == t) (take k (setting c).names)) + cond (shard_of (setting c) (name_at (setting c).names k) == t) 1 0
    more t = length-filter_more (λ e. shard_of (setting c) e == t) (setting c).names k [] within

    add_none : (n : ℕ) → n + 0 ≡ n
    add_none n = omega arith

    other_shard : (a b : ℕ) → a ≢ b → (b == a) ≡ false
    other_shard a b other = grind (arith, nat_tests)

    at_shard : (t : ℕ) → t < 128 → (b : Bool) → (t == s) ≡ b → slice_index_or (slice_set counts s (n + 1)) t 0 ≡ length (filter (λ e. shard_of (setting c) e == t) (take (k + 1) (setting c).names))
    at_shard t below true e =
        rw (same_number t s e) (get_or-set_same counts s (n + 1) 0 (omega (arith, counted.size, fits)) ∙ (ap (λ x. x + 1) (now ∙ counted.each s fits) ∙ sym (more s ∙ ap (λ b. length (filter (λ e. shard_of (setting c) e == s) (take k (setting c).names)) + cond b 1 0) ((Decides-eqb (shard_of (setting c) (name_at (setting c).names k)) s).1 (sym shard)))))
    at_shard t below false e =
        get_or-set_other counts s t (n + 1) 0 (other_number t s e) ∙ (counted.each t below ∙ sym (more t ∙ ap (λ b. length (filter (λ e. shard_of (setting c) e == t) (take k (setting c).names)) + cond b 1 0) (subst (λ x. (x == t) ≡ false) shard (other_shard t s (other_number t s e))) ∙ add_none (length (filter (λ e. shard_of (setting c) e == t) (take k (setting c).names)))))

pub count_fits : (c : Script) (k : ℕ) (counts : List ℕ) (s n : ℕ) → AreCounts c k counts → s < 128 → n ≡ slice_index_or counts s 0 → n ≤ k
count_fits c k counts s n counted fits now =
    let few : length (filter (λ e. shard_of (setting c) e == s) (take k (setting c).names)) ≤ k = few_before (λ e. shard_of (setting c) e == s) (setting c).names k in
    let is : slice_index_or counts s 0 ≡ length (filter (λ e. shard_of (setting c) e == s) (take k (setting c).names)) = counted.each s fits in
    omega (arith, few, is, now)
  where
    few_before : (p : List ℕ → Bool) (xs : List (List ℕ)) (k : ℕ) → length (filter p (take k xs)) ≤ k
    few_before p [] zero = omega arith
    few_before p [] (suc k) = omega arith
    few_before p (x ∷ xs) zero = omega arith
    few_before p (x ∷ xs) (suc k) = step (p x) (few_before p xs k)
      where
        step : (b : Bool) → length (filter p (take k xs)) ≤ k → length (cond b (x ∷ filter p (take k xs)) (filter p (take k xs))) ≤ suc k
        step true h = omega (arith, h)
        step false h = omega (arith, h)

pub first_none : (c : Script) → AreFirst c 0 []
first_none c = record { there = refl; each = λ i below. absurd (omega (arith, below)); inner_is = λ i below. absurd (omega (arith, below)) }

pub counts_none : (c : Script) → AreCounts c 0 (replicate 128 0)
counts_none c = record { size = length-replicate {A = ℕ} 128 0; each = λ s below. get_or-replicate {A = ℕ} 128 s 0 0 below }

pub counts_of : (c : Script) (counts : List ℕ) → counts ≡ replicate 128 0 → AreCounts c 0 counts
counts_of c counts none = subst (AreCounts c 0) (sym none) (counts_none c)

pub first_of : (c : Script) (spots : List Spot) → spots ≡ [] → AreFirst c 0 spots
first_of c spots none = rw none (first_none c)

pub shards_some : (c : Script) → IsScript c → 0 < c.config.shards
shards_some c k =
    let a : _ × _ = and_both _ (is_in 1 10 c.config.keep) k.config in
    let b : _ × _ = and_both _ (is_in 1 10000 c.config.snapshot) a.0 in
    let d : _ × _ = and_both _ (is_in 1 64 c.config.window) b.0 in
    let e : _ × _ = and_both _ (is_in 1 1000 c.config.buffer) d.0 in
    let f : _ × _ = and_both _ (is_in 1 32 c.config.producers) e.0 in
    at_least c.config.shards (and_both (is_in 1 16 c.config.nodes) (is_in 1 128 c.config.shards) f.0).1
  where
    at_least : (n : ℕ) → is_in 1 128 n ≡ true → 0 < n
    at_least n h = grind (arith, nat_tests)

pub shards_most : (c : Script) → IsScript c → c.config.shards ≤ 128
shards_most c k =
    let a : _ × _ = and_both _ (is_in 1 10 c.config.keep) k.config in
    let b : _ × _ = and_both _ (is_in 1 10000 c.config.snapshot) a.0 in
    let d : _ × _ = and_both _ (is_in 1 64 c.config.window) b.0 in
    let e : _ × _ = and_both _ (is_in 1 1000 c.config.buffer) d.0 in
    let f : _ × _ = and_both _ (is_in 1 32 c.config.producers) e.0 in
    at_most c.config.shards (and_both (is_in 1 16 c.config.nodes) (is_in 1 128 c.config.shards) f.0).1
  where
    at_most : (n : ℕ) → is_in 1 128 n ≡ true → n ≤ 128
    at_most n h = grind (arith, nat_tests)

-- the loop's step
pub next : (c : Script) (k : ℕ) (names : List (List ℕ)) (spots new : List Spot) (counts : List ℕ) (x : List ℕ) (s i j : ℕ) → IsScript c → AreFirst c k spots × AreCounts c k counts → names ≡ (setting c).names → IsStrictlySortedBy (slice_cmp nat_cmp) names → k < length names
    → x ≡ slice_index_or names k x → s ≡ shard c.config.shards x → i ≡ s → j ≡ s → s < 128 → new ≡ spots ++ record { shard = s; inner = slice_index_or counts i 0 } ∷ []
    → AreFirst c (k + 1) new × AreCounts c (k + 1) (slice_set counts j (slice_index_or counts i 0 + 1))
next c k names spots new counts x s i j script inv are sorted within x_is shard_is i_is j_is fits pushed =
    let inside : k < length (setting c).names = subst (λ l. k < length l) are within in
    let name : x ≡ name_at (setting c).names k = x_is ∙ (get_or_default names k x [] within ∙ ap (λ l. name_at l k) are) in
    let here : s ≡ shard_of (setting c) (name_at (setting c).names k) = shard_is ∙ ap (shard c.config.shards) name in
    let lt : s < c.config.shards = subst (λ n. n < c.config.shards) (sym shard_is) (mod-lt (absolute (java_hash x)) (shards_some c script)) in (
      subst (AreFirst c (k + 1)) (sym pushed) (first_more c k spots counts (record { shard = s; inner = slice_index_or counts i 0 }) (subst (IsStrictlySortedBy (slice_cmp nat_cmp)) are sorted) inv.0 inv.1 inside here (ap (λ n. slice_index_or counts n 0) i_is) lt fits),
      subst (λ n. AreCounts c (k + 1) (slice_set counts n (slice_index_or counts i 0 + 1))) (sym j_is) (counts_more c k counts s (slice_index_or counts i 0) inv.1 inside here fits (ap (λ n. slice_index_or counts n 0) i_is)),
    )

-- all names were passed
pub all_passed : (c : Script) (at : ℕ) (names : List (List ℕ)) → names ≡ (setting c).names → length names ≤ at → at ≤ length names → at ≡ length (setting c).names
all_passed c at names are past within = let whole : at ≡ length names = omega (arith, past, within) in whole ∙ ap length are

-- The value of a node's entities as it comes up.

none_hosted : (n : ℕ) → map (option_map hosted_of) (replicate n None) ≡ replicate n None
none_hosted zero = refl
none_hosted (suc n) = ap (λ l. None ∷ l) (none_hosted n)

no_rooms : (n : ℕ) → map room_of (replicate n None) ≡ replicate n 0
no_rooms zero = refl
no_rooms (suc n) = ap (λ l. 0 ∷ l) (no_rooms n)

pub new_cells : (n : ℕ) (x : Celled) → map cell_of (replicate n x) ≡ replicate n x.cell
new_cells zero x = refl
new_cells (suc n) x = ap (λ l. x.cell ∷ l) (new_cells n x)

pub lodged_new : (script c : Script) (version : ℕ) (who : Incarnation) (items : List (Option Hosting)) (cells : List Celled) → script ≡ c → items ≡ replicate c.config.shards None → cells ≡ replicate (length (setting c).names) (celled c.config.producers c.config.window)
    → lodged script version who items cells ≡ record { script = c; state = new_entities (setting c) version who; rooms = replicate c.config.shards 0 }
lodged_new script c version who items cells same none fresh =
    ap (λ s. lodged s version who items cells) same
    ∙ (ap (λ l. lodged c version who l cells) none
    ∙ (ap (λ l. lodged c version who (replicate c.config.shards None) l) fresh
    ∙ (ap (λ h. record { script = c; state = record { who = who; set = setting c; version = version; hosted = h; cells = map cell_of (replicate (length (setting c).names) (celled c.config.producers c.config.window)) }; rooms = map room_of (replicate c.config.shards None) }) (none_hosted c.config.shards)
    ∙ (ap (λ l. record { script = c; state = record { who = who; set = setting c; version = version; hosted = replicate c.config.shards None; cells = l }; rooms = map room_of (replicate c.config.shards None) }) (new_cells (length (setting c).names) (celled c.config.producers c.config.window))
    ∙ ap (λ r. record { script = c; state = new_entities (setting c) version who; rooms = r }) (no_rooms c.config.shards)))))
