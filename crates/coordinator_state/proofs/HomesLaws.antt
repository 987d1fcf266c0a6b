-- Homes and loads after a change.
use Rattle.std.proofs.Common.{◌≡◌, ◌≢◌, ◌<◌, ℕ, suc, ◌+◌, sym, subst, ap, ◌∙◌, refl, arith, length, length-append}
use Rattle.std.specs.Prelude.{Bool, true, false, ◌==◌, ◌||◌, not, List, [], ◌∷◌, ◌++◌, map, filter, take, drop, replicate, Option, Some, None, slice_index_or, slice_set, if◌then◌else◌, cond}
use Rattle.std.specs.List.{All, AllPairs}
use Rattle.std.specs.Option.{ForSome}
use Rattle.std.proofs.Math.ListN.{get_or-map}
use Rattle.std.proofs.lemmas.List.{length-map, length-set, length-drop, drop-drop, take_more, take_more_set, drop-set-lt, get_or-set_same, get_or-set_other, map-append}
use Rattle.std.proofs.lemmas.List.Elements.{All-append, All-filter, filter_passes}
use Rattle.std.proofs.lemmas.List.Kept.{AllPairs-filter}
use Rattle.std.proofs.lemmas.List.Sums.{length-filter, count_by-le-length}
use Rattle.std.proofs.lemmas.List.Quantifiers.{all_pairs_push}
use Rattle.std.proofs.lemmas.Bool.Decides.{Decides-eqb}
use Rattle.yard_model.specs.declared.incarnation.Incarnation.{Incarnation}
use Rattle.yard_model.specs.declared.load.Load.{Load}
use Rattle.yard_model.specs.ShardSet.{has}
use Rattle.yard_model.specs.Words.{is_same, is_at, is_among, without, at}
use Rattle.coordinator_state.specs.Coord.{AreApart}
use Rattle.coordinator_state.specs.Homes.{regions_of, home_without, is_of_other, HasHomes, HasNone, AreDifferent, AreRegistered, AreHomes}
use Rattle.plain_laws.proofs.Booleans.{get_replicate}
use Rattle.coordinator_state.proofs.Same.{true_is_not_false, not_so, same_is, same_turned, some_is, at_none, among_more, among_without}

-- One load.

pub All-one : {X : Type 0} (P : X → Type 0) (x : X) → P x → All P (x ∷ [])
All-one P x p ℕ.zero d h = p
All-one P x p (suc k) d h = absurd (omega arith)

-- A new region.

homeless : (homes : List (Option Incarnation)) (regions : List Incarnation) (r : Incarnation) (s : ℕ) → AreRegistered homes regions → is_among r regions ≡ false → is_at r (at homes s) ≡ false
homeless homes regions r s k fresh = not_so (is_at r (at homes s)) (λ e. true_is_not_false (sym (k s r (at_none r (at homes s) e)) ∙ fresh))

-- it is none of those before
not_among : (r : Incarnation) (xs : List Incarnation) → is_among r xs ≡ false → (k : ℕ) (d : Incarnation) → k < length xs → is_same (slice_index_or xs k d) r ≡ false
not_among r [] fresh k d h = absurd (omega arith)
not_among r (x ∷ xs) fresh ℕ.zero d h = same_turned x r ∙ first (is_same r x) (is_among r xs) fresh
  where
    first : (a b : Bool) → (a || b) ≡ false → a ≡ false
    first true b e = e
    first false b e = refl
not_among r (x ∷ xs) fresh (suc k) d h = not_among r xs (rest (is_same r x) (is_among r xs) fresh) k d (omega arith)
  where
    rest : (a b : Bool) → (a || b) ≡ false → b ≡ false
    rest true b e = absurd (true_is_not_false e)
    rest false b e = e

pub registered_homes : (homes : List (Option Incarnation)) (loads : List Load) (l : Load) → AreHomes homes loads → ((t : ℕ) → has l.shards t ≡ false) → is_among l.region (regions_of loads) ≡ false → length (regions_of loads) < 16
    → AreHomes homes (loads ++ l ∷ [])
registered_homes homes loads l k empty fresh room =
    let regions : regions_of (loads ++ l ∷ []) ≡ regions_of loads ++ l.region ∷ [] = map-append (λ (x : Load). x.region) loads (l ∷ []) in
    record {
      size = k.size;
      each = All-append (HasHomes homes) loads (l ∷ []) k.each (All-one (HasHomes homes) l (λ s h. empty s ∙ sym (homeless homes (regions_of loads) l.region s k.registered fresh)));
      registered = λ s r e. ap (is_among r) regions ∙ among_more r l.region (regions_of loads) (k.registered s r e);
      different = subst AreDifferent (sym regions) (all_pairs_push (λ x y. is_same x y ≡ false) (regions_of loads) l.region k.different (not_among l.region (regions_of loads) fresh));
      few = omega (arith, length-append loads (l ∷ []), length-map loads (λ (x : Load). x.region));
    }

-- A region is lost.

pub regions_without : (r : Incarnation) (loads : List Load) → regions_of (filter (is_of_other r) loads) ≡ without r (regions_of loads)
regions_without r [] = refl
regions_without r (l ∷ loads) = step (not (is_same r l.region)) (regions_without r loads)
  where
    step : (b : Bool) → regions_of (filter (is_of_other r) loads) ≡ without r (regions_of loads)
        → regions_of (cond b (l ∷ filter (is_of_other r) loads) (filter (is_of_other r) loads)) ≡ cond b (l.region ∷ without r (regions_of loads)) (without r (regions_of loads))
    step true e = ap (λ xs. l.region ∷ xs) e
    step false e = e

pub home_at : (r : Incarnation) (homes : List (Option Incarnation)) (s : ℕ) → at (map (home_without r) homes) s ≡ home_without r (at homes s)
home_at r homes s = get_or-map (home_without r) homes s None

-- what another region has stays
other_home : (r x : Incarnation) (o : Option Incarnation) → is_same r x ≡ false → is_at x o ≡ is_at x (home_without r o)
other_home r x None other = refl
other_home r x (Some y) other = step (is_same r y) refl
  where
    step : (b : Bool) → is_same r y ≡ b → is_same x y ≡ is_at x (if b then None else Some y)
    step true e = same_turned x y ∙ (ap (λ z. is_same z x) (sym (same_is r y e)) ∙ other)
    step false e = refl

stays : (r x : Incarnation) (o : Option Incarnation) → home_without r o ≡ Some x → (o ≡ Some x) × (is_same r x ≡ false)
stays r x None e = absurd (cc)
stays r x (Some y) e = step (is_same r y) refl e
  where
    step : (b : Bool) → is_same r y ≡ b → (if b then None else Some y) ≡ Some x → (Some y ≡ Some x) × (is_same r x ≡ false)
    step true t f = absurd (cc)
    step false t f = (f, ap (is_same r) (sym (some_is y x f)) ∙ t)

other_load : (r : Incarnation) (homes : List (Option Incarnation)) (l : Load) → HasHomes homes l → is_of_other r l ≡ true → HasHomes (map (home_without r) homes) l
other_load r homes l k other s h =
    let apart : is_same r l.region ≡ false = not_so (is_same r l.region) (λ e. true_is_not_false (sym other ∙ ap not e)) in
    k s h ∙ (other_home r l.region (at homes s) apart ∙ ap (is_at l.region) (sym (home_at r homes s)))

pub terminated_homes : (homes : List (Option Incarnation)) (loads : List Load) (r : Incarnation) → AreHomes homes loads → AreHomes (map (home_without r) homes) (filter (is_of_other r) loads)
terminated_homes homes loads r k = record {
  size = length-map homes (home_without r) ∙ k.size;
  each = λ i d h. other_load r homes (slice_index_or (filter (is_of_other r) loads) i d) (All-filter (is_of_other r) (HasHomes homes) loads k.each i d h) (filter_passes (is_of_other r) loads i d h);
  registered = λ s x e.
      let p : (at homes s ≡ Some x) × (is_same r x ≡ false) = stays r x (at homes s) (sym (home_at r homes s) ∙ e) in
      ap (is_among x) (regions_without r loads) ∙ among_without x r (regions_of loads) p.1 (k.registered s x p.0);
  different = subst AreDifferent (sym (regions_without r loads)) (AllPairs-filter (λ x y. is_same x y ≡ false) (λ y. not (is_same r y)) (regions_of loads) k.different);
  few = omega (arith, k.few, length-filter (is_of_other r) loads, count_by-le-length (is_of_other r) loads);
}

-- Another home.

pub moved_load : (homes : List (Option Incarnation)) (s : ℕ) (home : Option Incarnation) (l m : Load) → s < length homes → HasHomes homes l → m.region ≡ l.region → has m.shards s ≡ is_at l.region home
    → ((t : ℕ) → t < 128 → t ≢ s → has m.shards t ≡ has l.shards t) → HasHomes (slice_set homes s home) m
moved_load homes s home l m within k region it others t h = step (t == s) refl
  where
    old : is_at l.region (at (slice_set homes s home) t) ≡ is_at m.region (at (slice_set homes s home) t)
    old = ap (λ r. is_at r (at (slice_set homes s home) t)) (sym region)

    step : (b : Bool) → (t == s) ≡ b → has m.shards t ≡ is_at m.region (at (slice_set homes s home) t)
    step true e =
        let same : t ≡ s = (Decides-eqb t s).0 e in
        ap (has m.shards) same ∙ (it ∙ (ap (is_at l.region) (sym (ap (at (slice_set homes s home)) same ∙ get_or-set_same homes s home None within)) ∙ old))
    step false e =
        let other : t ≢ s = λ same. true_is_not_false (sym ((Decides-eqb t s).1 same) ∙ e) in
        others t h other ∙ (k t h ∙ (ap (is_at l.region) (sym (get_or-set_other homes s t home None other)) ∙ old))

placed_registered : (homes : List (Option Incarnation)) (regions : List Incarnation) (s : ℕ) (home : Option Incarnation) → s < length homes → AreRegistered homes regions → ForSome home (λ r. is_among r regions ≡ true)
    → AreRegistered (slice_set homes s home) regions
placed_registered homes regions s home within k new t r e = step (t == s) refl
  where
    step : (b : Bool) → (t == s) ≡ b → is_among r regions ≡ true
    step true u =
        let same : t ≡ s = (Decides-eqb t s).0 u in
        new r (sym (ap (at (slice_set homes s home)) same ∙ get_or-set_same homes s home None within) ∙ e)
    step false u =
        let other : t ≢ s = λ same. true_is_not_false (sym ((Decides-eqb t s).1 same) ∙ u) in
        k t r (sym (get_or-set_other homes s t home None other) ∙ e)

pub placed_homes : (homes : List (Option Incarnation)) (loads after : List Load) (s : ℕ) (home : Option Incarnation) → s < 128 → AreHomes homes loads → ForSome home (λ r. is_among r (regions_of loads) ≡ true)
    → regions_of after ≡ regions_of loads → All (HasHomes (slice_set homes s home)) after → AreHomes (slice_set homes s home) after
placed_homes homes loads after s home within k new regions each = record {
  size = length-set homes s home ∙ k.size;
  each = each;
  registered = λ t r e. ap (is_among r) regions ∙ placed_registered homes (regions_of loads) s home (subst (λ n. s < n) (sym k.size) within) k.registered new t r e;
  different = subst AreDifferent (sym regions) k.different;
  few = omega (arith, k.few, length-map loads (λ (x : Load). x.region), length-map after (λ (x : Load). x.region), ap length regions);
}

-- No homes.

pub cleared_homes : (homes old : List (Option Incarnation)) (loads after : List Load) → AreHomes old loads → homes ≡ replicate 128 None → regions_of after ≡ regions_of loads → All HasNone after → AreHomes homes after
cleared_homes homes old loads after k none regions each = record {
  size = ap length none;
  each = λ i d h s below. each i d h s ∙ ap (is_at (slice_index_or after i d).region) (sym (nobody s));
  registered = λ s r e. absurd (none_is_not_some r (sym (nobody s) ∙ e));
  different = subst AreDifferent (sym regions) k.different;
  few = omega (arith, k.few, length-map loads (λ (x : Load). x.region), length-map after (λ (x : Load). x.region), ap length regions);
}
  where
    nobody : (s : ℕ) → at homes s ≡ None
    nobody s = ap (λ hs. at hs s) none ∙ get_replicate 128 s None

    none_is_not_some : (r : Incarnation) → None ≡ Some r → ⊥
    none_is_not_some r e = cc

-- Loads apart.

apart : (x y : Load) (o : Option Incarnation) (a b : Bool) → is_same x.region y.region ≡ false → a ≡ is_at x.region o → b ≡ is_at y.region o → a ≡ true → b ≡ false
apart x y None a b other p q e = q
apart x y (Some h) a b other p q e =
    let here : x.region ≡ h = same_is x.region h (sym p ∙ e) in
    q ∙ (ap (is_same y.region) (sym here) ∙ (same_turned y.region x.region ∙ other))

pub loads_apart : (homes : List (Option Incarnation)) (loads : List Load) → AreHomes homes loads → AllPairs AreApart loads
loads_apart homes loads k i j d p q s h =
    let x : Load = slice_index_or loads i d in
    let y : Load = slice_index_or loads j d in
    let region : Load → Incarnation = λ l. l.region in
    let long : length (regions_of loads) ≡ length loads = length-map loads region in
    let other : is_same x.region y.region ≡ false =
    ap (λ r. is_same r y.region) (sym (get_or-map region loads i d)) ∙ (ap (is_same (slice_index_or (regions_of loads) i d.region)) (sym (get_or-map region loads j d)) ∙ k.different i j d.region p (omega arith)) in
    apart x y (at homes s) (has x.shards s) (has y.shards s) other (k.each i d (omega arith) s h) (k.each j d q s h)

-- Homes, cleared one after the other.

get_or_rest : {A : Type 0} (xs : List A) (i : ℕ) (d : A) → slice_index_or (drop i xs) 0 d ≡ slice_index_or xs i d
get_or_rest [] ℕ.zero d = refl
get_or_rest [] (suc i) d = refl
get_or_rest (x ∷ xs) ℕ.zero d = refl
get_or_rest (x ∷ xs) (suc i) d = get_or_rest xs i d

pub one_cleared : {A : Type 0} (f : A → A) (old now : List A) (i : ℕ) (x y : A) → i < length now → x ≡ slice_index_or now i x → y ≡ f x → take i now ≡ map f (take i old) → drop i now ≡ drop i old
    → (take (i + 1) (slice_set now i y) ≡ map f (take (i + 1) old)) × (drop (i + 1) (slice_set now i y) ≡ drop (i + 1) old)
one_cleared f old now i x y within is step front back =
    let inside : i < length old = omega (arith, length-drop i now, length-drop i old, ap length back) in
    let here : slice_index_or old i x ≡ x = sym (get_or_rest old i x) ∙ (sym (ap (λ l. slice_index_or l 0 x) back) ∙ (get_or_rest now i x ∙ sym is)) in (
      take_more_set now i y within
          ∙ (ap (λ l. l ++ y ∷ []) front
          ∙ (ap (λ z. map f (take i old) ++ z ∷ []) (step ∙ ap f (sym here))
          ∙ (sym (map-append f (take i old) (slice_index_or old i x ∷ []))
          ∙ sym (ap (map f) (take_more old i x inside))))),
      drop-set-lt (i + 1) now i y (omega arith) ∙ (sym (drop-drop 1 i now) ∙ (ap (drop 1) back ∙ drop-drop 1 i old)),
    )

pub taken : (r : Incarnation) (o : Option Incarnation) → is_at r o ≡ true → None ≡ home_without r o
taken r o e = sym (ap (λ b. if b then None else o) e)

pub left : (r : Incarnation) (o : Option Incarnation) → is_at r o ≡ false → o ≡ home_without r o
left r o e = sym (ap (λ b. if b then None else o) e)

-- The loads, moved one after the other.

pub one_moved : (loads after : List Load) (i s : ℕ) (home : Option Incarnation) (x m : Load) → i < length loads → x ≡ slice_index_or loads i x → m.region ≡ x.region → has m.shards s ≡ is_at x.region home
    → ((t : ℕ) → t < 128 → t ≢ s → has m.shards t ≡ has x.shards t) → (homes : List (Option Incarnation)) → s < length homes → All (HasHomes homes) loads → All (HasHomes (slice_set homes s home)) after
    → All (HasHomes (slice_set homes s home)) (after ++ m ∷ [])
one_moved loads after i s home x m within is region it others homes inside each done =
    All-append (HasHomes (slice_set homes s home)) after (m ∷ []) done
    (All-one (HasHomes (slice_set homes s home)) m (moved_load homes s home x m inside (subst (HasHomes homes) (sym is) (each i x within)) region it others))

pub regions_more : (items after : List Load) (i : ℕ) (x m : Load) → i < length items → x ≡ slice_index_or items i x → m.region ≡ x.region → regions_of after ≡ regions_of (take i items) → regions_of (after ++ m ∷ []) ≡ regions_of (take (i + 1) items)
regions_more items after i x m within is same front =
    let region : Load → Incarnation = λ l. l.region in
    map-append region after (m ∷ [])
    ∙ (ap (λ rs. rs ++ m.region ∷ []) front
    ∙ (ap (λ r. regions_of (take i items) ++ r ∷ []) (same ∙ ap region is)
    ∙ (sym (map-append region (take i items) (slice_index_or items i x ∷ []))
    ∙ sym (ap regions_of (take_more items i x within)))))
