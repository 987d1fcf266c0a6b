-- The places of the names, shard after shard.
use Rattle.std.proofs.Common.{◌≡◌, ◌≢◌, ℕ, ◌+◌, ◌-◌, ◌*◌, ◌<◌, ◌≤◌, List, [], ◌∷◌, ◌++◌, length, length-append, sym, ap, subst, ◌∙◌, refl, true, false, arith, get_or-set_same, get_or-set_other}
use Rattle.std.specs.Prelude.{Bool, zero, suc, ◌==◌, nat_lt, cond, filter, take, slice_set, slice_index_or}
use Rattle.std.specs.List.{list_any}
use Rattle.std.specs.List.Sorted.{IsStrictlySortedBy}
use Rattle.std.specs.Ordering.{nat_cmp}
use Rattle.std.specs.Cmp.Lexicographic.{slice_cmp}
use Rattle.std.proofs.lemmas.Bool.Decides.{nat_tests}
use Rattle.std.proofs.lemmas.List.{length-set, get_or_default, get_or_append_left}
use Rattle.std.proofs.lemmas.List.Filters.{length-filter_more}
use Rattle.std.proofs.Math.Seq.{get_or-append_seam}
use Rattle.yard_model.specs.Script.{Script, Setting, IsScript, setting, is_name}
use Rattle.yard_model.specs.Setting.{shard_of, names_of}
use Rattle.shard_store.specs.Shelved.{name_at}
use Rattle.name_index.proofs.NameLaws.{placed}
use Rattle.shard_entities.specs.declared.places.Kept.{Kept}
use Rattle.shard_entities.specs.Placed.{IsPlace, AreFirst, AreCounts, AreStarts, AreOrdered, ArePlaces, AreKept, place_of, place_in, no_spot, start_of}
use Rattle.shard_entities.specs.declared.places.Spot.{Spot}
use Rattle.plain_laws.proofs.Booleans.{same_number, other_number}
use Rattle.shard_entities.proofs.PlacesLaws.{list_any_at}
use Rattle.shard_entities.proofs.PlannedLaws.{picked_few}

-- Where a shard begins.

pub start_next : (set : Setting) (s j : ℕ) → j ≡ s + 1 → start_of set j ≡ start_of set s + length (names_of set s)
start_next set s zero e = absurd (omega (arith, e))
start_next set s (suc j) e = let same : j ≡ s = omega (arith, e) in ap (λ n. start_of set n + length (names_of set n)) same

-- a shard ends before a later one begins
starts_rise : (set : Setting) (n s t : ℕ) → t ≡ s + n → start_of set s ≤ start_of set t
starts_rise set zero s t e = let same : t ≡ s = omega (arith, e) in subst (λ m. start_of set s ≤ start_of set m) (sym same) (omega arith)
starts_rise set (suc n) s t e =
    let one : start_of set (s + n + 1) ≡ start_of set (s + n) + length (names_of set (s + n)) = start_next set (s + n) (s + n + 1) refl in
    let low : start_of set s ≤ start_of set (s + n) = starts_rise set n s (s + n) refl in
    let same : t ≡ s + n + 1 = omega (arith, e) in
    subst (λ m. start_of set s ≤ start_of set m) (sym same) (omega (arith, one, low))

pub ends_before : (set : Setting) (s t : ℕ) → s < t → start_of set s + length (names_of set s) ≤ start_of set t
ends_before set s t lt =
    let one : start_of set (s + 1) ≡ start_of set s + length (names_of set s) = start_next set s (s + 1) refl in
    let low : start_of set (s + 1) ≤ start_of set t = starts_rise set (t - (s + 1)) (s + 1) t (omega (arith, lt)) in
    omega (arith, one, low)

-- places of names of different shards, or different ones of one shard, are different
pub apart_shards : (set : Setting) (s t i j : ℕ) → s ≢ t → i < length (names_of set s) → j < length (names_of set t) → start_of set s + i ≢ start_of set t + j
apart_shards set s t i j other below under = by (nat_lt s t) refl
  where
    lt_of : (a b : ℕ) → nat_lt a b ≡ true → a < b
    lt_of a b e = grind (arith, nat_tests)

    le_of : (a b : ℕ) → nat_lt a b ≡ false → b ≤ a
    le_of a b e = grind (arith, nat_tests)

    by : (b : Bool) → nat_lt s t ≡ b → start_of set s + i ≢ start_of set t + j
    by true e = λ same. let far : start_of set s + length (names_of set s) ≤ start_of set t = ends_before set s t (lt_of s t e) in absurd (omega (arith, far, below, same))
    by false e = λ same.
        let up : t ≤ s = le_of s t e in
        let far : start_of set t + length (names_of set t) ≤ start_of set s = ends_before set t s (less s t up other) in absurd (omega (arith, far, under, same))
      where
        less : (s t : ℕ) → t ≤ s → s ≢ t → t < s
        less s t up other = grind (arith)

pub apart_places : (set : Setting) (s i j : ℕ) → i ≢ j → start_of set s + i ≢ start_of set s + j
apart_places set s i j other same = other (omega (arith, same))

-- a place of a shard is one of all
pub inside_all : (set : Setting) (n s i : ℕ) → s < n → i < length (names_of set s) → start_of set s + i < start_of set n
inside_all set n s i lt below = let far : start_of set s + length (names_of set s) ≤ start_of set n = ends_before set s n lt in omega (arith, far, below)

-- The list of where each begins.

pub starts_none : (set : Setting) (starts : List ℕ) → starts ≡ [] → AreStarts set 0 starts
starts_none set starts none = subst (AreStarts set 0) (sym none) (record { there = refl; each = λ s below. absurd (omega (arith, below)) })

pub starts_more : (set : Setting) (n start : ℕ) (starts new : List ℕ) → AreStarts set n starts → start ≡ start_of set n → new ≡ starts ++ start ∷ [] → AreStarts set (n + 1) new
starts_more set n start starts new are is pushed = subst (AreStarts set (n + 1)) (sym pushed) (record {
  there = length-append starts (start ∷ []) ∙ ap (λ m. m + 1) are.there;
  each = λ s below. start_at s below (nat_lt s n) refl;
})
  where
    lt_of : (a b : ℕ) → nat_lt a b ≡ true → a < b
    lt_of a b e = grind (arith, nat_tests)

    le_of : (a b : ℕ) → nat_lt a b ≡ false → b ≤ a
    le_of a b e = grind (arith, nat_tests)

    start_at : (s : ℕ) → s < n + 1 → (b : Bool) → nat_lt s n ≡ b → slice_index_or (starts ++ start ∷ []) s 0 ≡ start_of set s
    start_at s below true e = get_or_append_left starts (start ∷ []) 0 s (let lt : s < n = lt_of s n e in omega (arith, lt, are.there)) ∙ are.each s (lt_of s n e)
    start_at s below false e =
        let last : s ≡ n = (let up : n ≤ s = le_of s n e in omega (arith, below, up)) in
        ap (λ m. slice_index_or (starts ++ start ∷ []) m 0) (last ∙ sym are.there) ∙ (get_or-append_seam starts start [] 0 ∙ (is ∙ ap (start_of set) (sym last)))

-- all names of the first ones are counted
take_whole : (xs : List (List ℕ)) → take (length xs) xs ≡ xs
take_whole [] = refl
take_whole (x ∷ xs) = ap (λ l. x ∷ l) (take_whole xs)

pub counted_whole : (c : Script) (counts : List ℕ) (s : ℕ) → AreCounts c (length (setting c).names) counts → s < 128 → slice_index_or counts s 0 ≡ length (names_of (setting c) s)
counted_whole c counts s are fits = are.each s fits ∙ ap (λ l. length (filter (λ e. shard_of (setting c) e == s) l)) (take_whole (setting c).names)

-- the loop's step
pub start_more : (c : Script) (counts : List ℕ) (s start : ℕ) {n : ℕ} → AreCounts c (length (setting c).names) counts → s < 128 → n ≡ slice_index_or counts s 0 → start ≡ start_of (setting c) s → start + n ≡ start_of (setting c) (s + 1)
start_more c counts s start {n} are fits read is =
    let one : start_of (setting c) (s + 1) ≡ start_of (setting c) s + length (names_of (setting c) s) = start_next (setting c) s (s + 1) refl in
    let count : n ≡ length (names_of (setting c) s) = read ∙ counted_whole c counts s are fits in
    omega (arith, one, count, is)

pub shard_few : (c : Script) (s : ℕ) → IsScript c → length (names_of (setting c) s) ≤ 1000
shard_few c s script =
    let most : length (names_of (setting c) s) ≤ length (setting c).names = picked_few (λ e. shard_of (setting c) e == s) (setting c).names in
    let few : length (setting c).names ≤ 1000 = script.names in
    omega (arith, most, few)

pub start_few : (c : Script) (s : ℕ) → IsScript c → start_of (setting c) s ≤ 1000 * s
start_few c zero script = omega arith
start_few c (suc s) script = let one : start_of (setting c) (suc s) ≡ start_of (setting c) s + length (names_of (setting c) s) = refl in let rest : start_of (setting c) s ≤ 1000 * s = start_few c s script in let own : length (names_of (setting c) s) ≤ 1000 = shard_few c s script in omega (arith, one, rest, own)

-- The places in order.

pub ordered_none : (c : Script) (order : List ℕ) → length order ≡ start_of (setting c) c.config.shards → AreOrdered c 0 order
ordered_none c order long = record { there = long; within = λ s i lt below. absurd (omega (arith, below)); names_are = λ s i lt below. absurd (omega (arith, below)) }

-- where the next name stands
pub spot_fits : (c : Script) (k : ℕ) (spots : List Spot) {x : Spot} → AreFirst c (length (setting c).names) spots → k < length spots → x ≡ slice_index_or spots k x → IsPlace c (place_of c k x) × (x.inner ≡ length (filter (λ e. shard_of (setting c) e == x.shard) (take k (setting c).names)))
spot_fits c k spots {x} first within read =
    let below : k < length (setting c).names = subst (λ n. k < n) first.there within in
    let same : slice_index_or spots k no_spot ≡ x = get_or_default spots k no_spot x within ∙ sym read in
    (subst (λ y. IsPlace c (place_of c k y)) same (first.each k below), subst (λ (y : Spot). y.inner ≡ length (filter (λ e. shard_of (setting c) e == y.shard) (take k (setting c).names))) same (first.inner_is k below))

few_of : (p : List ℕ → Bool) (xs : List (List ℕ)) (k : ℕ) → length (filter p (take k xs)) ≤ length (filter p xs)
few_of p [] zero = omega arith
few_of p [] (suc k) = omega arith
few_of p (x ∷ xs) zero = omega arith
few_of p (x ∷ xs) (suc k) = step (p x) (few_of p xs k)
  where
    step : (b : Bool) → length (filter p (take k xs)) ≤ length (filter p xs) → length (cond b (x ∷ filter p (take k xs)) (filter p (take k xs))) ≤ length (cond b (x ∷ filter p xs) (filter p xs))
    step true h = omega (arith, h)
    step false h = h

pub ordered_more : (c : Script) (k : ℕ) (spots : List Spot) (order new : List ℕ) {x : Spot} {start : ℕ} → AreFirst c (length (setting c).names) spots → AreOrdered c k order → k < length spots → x ≡ slice_index_or spots k x → start ≡ start_of (setting c) x.shard
    → new ≡ slice_set order (start + x.inner) k → AreOrdered c (k + 1) new
ordered_more c k spots order new {x} {start} first are within read is step = subst (AreOrdered c (k + 1)) (sym (step ∙ ap (λ n. slice_set order (n + x.inner) k) is)) (record {
  there = length-set order (start_of set x.shard + x.inner) k ∙ are.there;
  within = λ s i lt below. (both s i lt below (s == x.shard) refl (i == x.inner) refl).0;
  names_are = λ s i lt below. (both s i lt below (s == x.shard) refl (i == x.inner) refl).1;
})
  where
    set : Setting
    set = setting c

    below_names : k < length set.names
    below_names = subst (λ n. k < n) first.there within

    here : IsPlace c (place_of c k x)
    here = (spot_fits c k spots first within read).0

    inner_is : x.inner ≡ length (filter (λ e. shard_of set e == x.shard) (take k set.names))
    inner_is = (spot_fits c k spots first within read).1

    now : List ℕ
    now = slice_set order (start_of set x.shard + x.inner) k

    IsAt : ℕ → ℕ → ℕ → Type 0
    IsAt n s i = (n < k + 1) × (name_at set.names n ≡ name_at (names_of set s) i)

    longer : (s : ℕ) → length (filter (λ e. shard_of set e == s) (take (k + 1) set.names)) ≡ length (filter (λ e. shard_of set e == s) (take k set.names)) + cond (shard_of set (name_at set.names k) == s) 1 0
    longer s = length-filter_more (λ e. shard_of set e == s) set.names k [] below_names

    other_shard : (a b : ℕ) → a ≢ b → (b == a) ≡ false
    other_shard a b other = grind (arith, nat_tests)

    -- no more names of another shard
    as_before : (s i : ℕ) → s ≢ x.shard → i < length (filter (λ e. shard_of set e == s) (take (k + 1) set.names)) → i < length (filter (λ e. shard_of set e == s) (take k set.names))
    as_before s i other below =
        let no_more : ◌≡◌ {A = ℕ} (cond (shard_of set (name_at set.names k) == s) 1 0) 0 = ap (λ b. cond {A = ℕ} b 1 0) (subst (λ n. (n == s) ≡ false) here.shard_is (other_shard s x.shard other)) in
        let long : length (filter (λ e. shard_of set e == s) (take (k + 1) set.names)) ≡ length (filter (λ e. shard_of set e == s) (take k set.names)) + cond (shard_of set (name_at set.names k) == s) 1 0 = longer s in
        omega (arith, below, no_more, long)

    one_more : (b : Bool) → cond b 1 0 ≤ 1
    one_more true = omega arith
    one_more false = omega arith

    -- all but the new one of its own shard
    of_own : (i : ℕ) → i ≢ x.inner → i < length (filter (λ e. shard_of set e == x.shard) (take (k + 1) set.names)) → i < length (filter (λ e. shard_of set e == x.shard) (take k set.names))
    of_own i other below =
        let long : length (filter (λ e. shard_of set e == x.shard) (take (k + 1) set.names)) ≡ length (filter (λ e. shard_of set e == x.shard) (take k set.names)) + cond (shard_of set (name_at set.names k) == x.shard) 1 0 = longer x.shard in
        let one : cond (shard_of set (name_at set.names k) == x.shard) 1 0 ≤ 1 = one_more (shard_of set (name_at set.names k) == x.shard) in
        smaller i x.inner (length (filter (λ e. shard_of set e == x.shard) (take k set.names))) (omega (arith, below, long, one)) inner_is other
      where
        smaller : (i n m : ℕ) → i < m + 1 → n ≡ m → i ≢ n → i < m
        smaller i n m low same other = grind (arith)

    kept : (s i : ℕ) → s < c.config.shards → i < length (filter (λ e. shard_of set e == s) (take k set.names)) → start_of set s + i ≢ start_of set x.shard + x.inner → IsAt (place_in set now s i) s i
    kept s i lt below apart =
        let same : place_in set now s i ≡ place_in set order s i = get_or-set_other order (start_of set x.shard + x.inner) (start_of set s + i) k 0 apart in
        let low : place_in set order s i < k = are.within s i lt below in
        (omega (arith, same, low), ap (name_at set.names) same ∙ are.names_are s i lt below)

    inside : (s i : ℕ) → i < length (filter (λ e. shard_of set e == s) (take k set.names)) → i < length (names_of set s)
    inside s i below = let few : length (filter (λ e. shard_of set e == s) (take k set.names)) ≤ length (names_of set s) = few_of (λ e. shard_of set e == s) set.names k in omega (arith, below, few)

    there : start_of set x.shard + x.inner < length order
    there = subst (λ n. start_of set x.shard + x.inner < n) (sym are.there) (inside_all set c.config.shards x.shard x.inner here.shard_in here.there.within)

    newest : IsAt (place_in set now x.shard x.inner) x.shard x.inner
    newest =
        let same : place_in set now x.shard x.inner ≡ k = get_or-set_same order (start_of set x.shard + x.inner) k 0 there in
        (omega (arith, same), ap (name_at set.names) same ∙ sym here.there.it)

    both : (s i : ℕ) → s < c.config.shards → i < length (filter (λ e. shard_of set e == s) (take (k + 1) set.names)) → (a : Bool) → (s == x.shard) ≡ a → (b : Bool) → (i == x.inner) ≡ b → IsAt (place_in set now s i) s i
    both s i lt below false e b f =
        let other : s ≢ x.shard = other_number s x.shard e in
        let before : i < length (filter (λ e. shard_of set e == s) (take k set.names)) = as_before s i other below in
        kept s i lt before (apart_shards set s x.shard i x.inner other (inside s i before) here.there.within)
    both s i lt below true e true f =
        subst (λ n. IsAt (place_in set now n i) n i) (sym (same_number s x.shard e)) (subst (λ n. IsAt (place_in set now x.shard n) x.shard n) (sym (same_number i x.inner f)) newest)
    both s i lt below true e false f =
        let it : s ≡ x.shard = same_number s x.shard e in
        let other : i ≢ x.inner = other_number i x.inner f in
        let below_own : i < length (filter (λ e. shard_of set e == x.shard) (take (k + 1) set.names)) = subst (λ n. i < length (filter (λ e. shard_of set e == n) (take (k + 1) set.names))) it below in
        subst (λ n. IsAt (place_in set now n i) n i) (sym it) (kept x.shard i here.shard_in (of_own i other below_own) (apart_places set x.shard i x.inner other))

-- where a shard begins, as it is read for the next name
pub begins : (c : Script) (k : ℕ) (spots : List Spot) (starts : List ℕ) {x : Spot} {start : ℕ} → AreFirst c (length (setting c).names) spots → AreStarts (setting c) (c.config.shards + 1) starts → k < length spots → x ≡ slice_index_or spots k x → start ≡ slice_index_or starts x.shard 0 → start ≡ start_of (setting c) x.shard
begins c k spots starts {x} {start} first are within read begin =
    let lt : x.shard < c.config.shards = (spot_fits c k spots first within read).0.shard_in in
    begin ∙ are.each x.shard (omega (arith, lt))

pub spot_inside : (c : Script) (k : ℕ) (spots : List Spot) (order : List ℕ) {x : Spot} {start : ℕ} → AreFirst c (length (setting c).names) spots → AreOrdered c k order → k < length spots → x ≡ slice_index_or spots k x → start ≡ start_of (setting c) x.shard → start + x.inner < length order
spot_inside c k spots order {x} {start} first are within read begin =
    let here : IsPlace c (place_of c k x) = (spot_fits c k spots first within read).0 in
    let inside : start_of (setting c) x.shard + x.inner < start_of (setting c) c.config.shards = inside_all (setting c) c.config.shards x.shard x.inner here.shard_in here.there.within in
    let long : length order ≡ start_of (setting c) c.config.shards = are.there in
    omega (arith, inside, long, begin)

-- What is read of them.

-- what is lent of what is kept is so too
pub lent : {k x : Kept} → k ≡ x → AreKept x → AreKept k
lent {k} {x} e are = subst AreKept (sym e) are

pub lent_script : {k x : Kept} {v : Script} → k ≡ x → x.script.value ≡ v → k.script.value ≡ v
lent_script {k} {x} {v} e seen = ap (λ (k : Kept). k.script.value) e ∙ seen

pub start_read : {c v : Script} {names : List (List ℕ)} {spots : List Spot} {starts order : List ℕ} (j : ℕ) {n : ℕ} → ArePlaces c names spots starts order → c ≡ v → j ≤ v.config.shards → n ≡ slice_index_or starts j 0 → n ≡ start_of (setting v) j
start_read {c} {v} {names} {spots} {starts} {order} j {n} k seen most read =
    subst (λ (v : Script). n ≡ start_of (setting v) j) seen (read ∙ k.begin.each j (subst (λ (x : Script). j < x.config.shards + 1) (sym seen) (omega (arith, most))))

pub picked_passes : (p : List ℕ → Bool) (xs : List (List ℕ)) (k : ℕ) → k < length (filter p xs) → p (name_at (filter p xs) k) ≡ true
picked_passes p [] k inside = absurd (omega (arith, inside))
picked_passes p (x ∷ xs) k inside = by (p x) refl k inside (λ j below. picked_passes p xs j below)
  where
    by : (b : Bool) → p x ≡ b → (k : ℕ) → k < length (cond b (x ∷ filter p xs) (filter p xs)) → ((j : ℕ) → j < length (filter p xs) → p (name_at (filter p xs) j) ≡ true) → p (name_at (cond b (x ∷ filter p xs) (filter p xs)) k) ≡ true
    by true e zero inside rest = e
    by true e (suc k) inside rest = rest k (let here : suc k < suc (length (filter p xs)) = inside in omega (arith, here))
    by false e k inside rest = rest k inside

-- where a name stands
pub found : {c v : Script} {names : List (List ℕ)} {spots : List Spot} {starts order : List ℕ} (i : ℕ) {e : List ℕ} {x : Spot} → ArePlaces c names spots starts order → c ≡ v → i < length names → slice_index_or names i [] ≡ e → x ≡ slice_index_or spots i x → IsPlace v (record { entity = e; shard = x.shard; at = i; inner = x.inner })
found {c} {v} {names} {spots} {starts} {order} i {e} {x} k seen within it read =
    let below : i < length spots = subst (λ n. i < n) (sym k.first.there) (subst (λ l. i < length l) k.names_are within) in
    let name : name_at (setting c).names i ≡ e = ap (λ l. slice_index_or l i []) (sym k.names_are) ∙ it in
    subst (λ (v : Script). IsPlace v (record { entity = e; shard = x.shard; at = i; inner = x.inner })) seen
    (subst (λ n. IsPlace c (record { entity = n; shard = x.shard; at = i; inner = x.inner })) name (spot_fits c i spots k.first below read).0)

pub spot_there : {c v : Script} {names : List (List ℕ)} {spots : List Spot} {starts order : List ℕ} (i : ℕ) → ArePlaces c names spots starts order → c ≡ v → i < length names → i < length spots
spot_there {c} {v} {names} {spots} {starts} {order} i k seen within = subst (λ n. i < n) (sym k.first.there) (subst (λ l. i < length l) k.names_are within)

-- the name at a place among all
pub names_there : {c v : Script} {names : List (List ℕ)} {spots : List Spot} {starts order : List ℕ} (i : ℕ) → ArePlaces c names spots starts order → c ≡ v → i < length (setting v).names → i < length names
names_there {c} {v} {names} {spots} {starts} {order} i k seen within = subst (λ l. i < length l) (sym k.names_are) (subst (λ (v : Script). i < length (setting v).names) (sym seen) within)

pub named_at : {c v : Script} {names : List (List ℕ)} {spots : List Spot} {starts order : List ℕ} (i : ℕ) {e : List ℕ} {x : Spot} → ArePlaces c names spots starts order → c ≡ v → i < length (setting v).names → e ≡ slice_index_or names i e → x ≡ slice_index_or spots i x
    → IsPlace v (record { entity = e; shard = x.shard; at = i; inner = x.inner }) × (e ≡ name_at (setting v).names i)
named_at {c} {v} {names} {spots} {starts} {order} i {e} {x} k seen within named read =
    let inside : i < length names = names_there i k seen within in
    let it : slice_index_or names i [] ≡ e = get_or_default names i [] e inside ∙ sym named in
    (found i k seen inside it read, sym it ∙ (ap (λ l. slice_index_or l i []) k.names_are ∙ ap (λ (v : Script). name_at (setting v).names i) seen))

-- the name of a shard at a place
pub nth_there : {c v : Script} {names : List (List ℕ)} {spots : List Spot} {starts order : List ℕ} (s i : ℕ) → ArePlaces c names spots starts order → c ≡ v → s < v.config.shards → i < length (names_of (setting v) s) → start_of (setting v) s + i < length order
nth_there {c} {v} {names} {spots} {starts} {order} s i k seen lt below = subst (λ (v : Script). s < v.config.shards → i < length (names_of (setting v) s) → start_of (setting v) s + i < length order) seen (λ lt below. subst (λ n. start_of (setting c) s + i < n) (sym k.ordered.there) (inside_all (setting c) c.config.shards s i lt below)) lt below

counted_names : (c : Script) (s i : ℕ) → i < length (names_of (setting c) s) → i < length (filter (λ e. shard_of (setting c) e == s) (take (length (setting c).names) (setting c).names))
counted_names c s i below = subst (λ l. i < length (filter (λ e. shard_of (setting c) e == s) l)) (sym (take_whole (setting c).names)) below

-- the name of a shard is the one at its place
nth_in : {c : Script} {names : List (List ℕ)} {spots : List Spot} {starts order : List ℕ} (s i n start : ℕ) → ArePlaces c names spots starts order → s < c.config.shards → i < length (names_of (setting c) s) → start ≡ start_of (setting c) s → n ≡ slice_index_or order (start + i) n
    → (n < length (setting c).names) × (name_at (setting c).names n ≡ name_at (names_of (setting c) s) i)
nth_in {c} {names} {spots} {starts} {order} s i n start k lt below begins read =
    let place : n ≡ place_in (setting c) order s i = read ∙ (ap (λ m. slice_index_or order (m + i) n) begins ∙ get_or_default order (start_of (setting c) s + i) n 0 (subst (λ m. start_of (setting c) s + i < m) (sym k.ordered.there) (inside_all (setting c) c.config.shards s i lt below))) in
    (subst (λ m. m < length (setting c).names) (sym place) (k.ordered.within s i lt (counted_names c s i below)), ap (name_at (setting c).names) place ∙ k.ordered.names_are s i lt (counted_names c s i below))

pub nth_below : {c v : Script} {names : List (List ℕ)} {spots : List Spot} {starts order : List ℕ} (s i n start : ℕ) → ArePlaces c names spots starts order → c ≡ v → s < v.config.shards → i < length (names_of (setting v) s) → start ≡ start_of (setting v) s → n ≡ slice_index_or order (start + i) n → n < length names
nth_below {c} {v} {names} {spots} {starts} {order} s i n start k seen lt below begins read =
    subst (λ (v : Script). s < v.config.shards → i < length (names_of (setting v) s) → start ≡ start_of (setting v) s → n < length names) seen
    (λ lt below begins. subst (λ l. n < length l) (sym k.names_are) (nth_in s i n start k lt below begins read).0) lt below begins

pub nth_of : {c v : Script} {names : List (List ℕ)} {spots : List Spot} {starts order : List ℕ} (s i n start : ℕ) {e : List ℕ} → ArePlaces c names spots starts order → c ≡ v → s < v.config.shards → i < length (names_of (setting v) s) → start ≡ start_of (setting v) s → n ≡ slice_index_or order (start + i) n → e ≡ slice_index_or names n e
    → IsPlace v (record { entity = e; shard = s; at = n; inner = i }) × (e ≡ name_at (names_of (setting v) s) i)
nth_of {c} {v} {names} {spots} {starts} {order} s i n start {e} k seen lt below begins read named =
    subst (λ (v : Script). s < v.config.shards → i < length (names_of (setting v) s) → start ≡ start_of (setting v) s → IsPlace v (record { entity = e; shard = s; at = n; inner = i }) × (e ≡ name_at (names_of (setting v) s) i)) seen
    (λ lt below begins. at_script lt below (nth_in s i n start k lt below begins read)) lt below begins
  where
    at_script : s < c.config.shards → i < length (names_of (setting c) s) → (n < length (setting c).names) × (name_at (setting c).names n ≡ name_at (names_of (setting c) s) i) → IsPlace c (record { entity = e; shard = s; at = n; inner = i }) × (e ≡ name_at (names_of (setting c) s) i)
    at_script lt below it =
        let its : e ≡ name_at (setting c).names n = named ∙ (get_or_default names n e [] (subst (λ l. n < length l) (sym k.names_are) it.0) ∙ ap (λ l. name_at l n) k.names_are) in
        let name_is : e ≡ name_at (names_of (setting c) s) i = its ∙ it.1 in (
          record {
            here = record { within = it.0; it = sym its };
            there = record { within = below; it = sym name_is };
            shard_is = sym (ap (shard_of (setting c)) name_is ∙ same_number (shard_of (setting c) (name_at (names_of (setting c) s) i)) s (picked_passes (λ e. shard_of (setting c) e == s) (setting c).names i below));
            at_is = placed (setting c).names e n (subst (IsStrictlySortedBy (slice_cmp nat_cmp)) k.names_are k.sorted) it.0 (sym its);
            brought = subst (λ l. list_any (is_name l) (setting c).names ≡ true) (sym its) (list_any_at (setting c).names n it.0);
            shard_in = lt;
          },
          name_is,
        )

-- how many names a shard has
pub count_of : {c v : Script} {names : List (List ℕ)} {spots : List Spot} {starts order : List ℕ} (s : ℕ) {a b : ℕ} → ArePlaces c names spots starts order → c ≡ v → s < v.config.shards → a ≡ slice_index_or starts s 0 → b ≡ slice_index_or starts (s + 1) 0 → b ≡ a + length (names_of (setting v) s)
count_of {c} {v} {names} {spots} {starts} {order} s {a} {b} k seen lt from to =
    let first : a ≡ start_of (setting v) s = start_read s k seen (omega (arith, lt)) from in
    let last : b ≡ start_of (setting v) (s + 1) = start_read (s + 1) k seen (omega (arith, lt)) to in
    let one : start_of (setting v) (s + 1) ≡ start_of (setting v) s + length (names_of (setting v) s) = start_next (setting v) s (s + 1) refl in
    omega (arith, first, last, one)

pub count_few : {c v : Script} {names : List (List ℕ)} {spots : List Spot} {starts order : List ℕ} (s : ℕ) → ArePlaces c names spots starts order → c ≡ v → length (names_of (setting v) s) ≤ 1000
count_few {c} {v} {names} {spots} {starts} {order} s k seen = subst (λ (v : Script). length (names_of (setting v) s) ≤ 1000) seen (shard_few c s k.script_is)

-- there is one for each shard, and one more
pub starts_there : {c v : Script} {names : List (List ℕ)} {spots : List Spot} {starts order : List ℕ} (j : ℕ) → ArePlaces c names spots starts order → c ≡ v → j ≤ v.config.shards → j < length starts
starts_there {c} {v} {names} {spots} {starts} {order} j k seen most =
    let long : length starts ≡ c.config.shards + 1 = k.begin.there in
    let last : j ≤ c.config.shards = subst (λ (v : Script). j ≤ v.config.shards) (sym seen) most in
    omega (arith, long, last)
