-- The places of a round, and the shards that move.
use Rattle.std.proofs.Common.{◌≡◌, ◌≢◌, ℕ, zero, suc, ◌+◌, ◌<◌, ◌≤◌, Bool, true, false, not, ◌&&◌, ◌||◌, List, [], ◌∷◌, ◌++◌, length, length-append, map, drop, get_or, append-nil, ap, sym, subst, ◌∙◌, refl, arith, if◌then◌else◌, Option, Some, None}
use Rattle.std.specs.Prelude.{◌==◌, filter, find, slice_set, option_map, IsSome, replicate, nat_lt}
use Rattle.std.specs.List.{list_any, list_all, flat_map}
use Rattle.std.proofs.lemmas.Grind.{flat_map-append}
use Rattle.std.proofs.lemmas.Bool.{eqb-true, eqb-false, false≢true}
use Rattle.std.proofs.lemmas.Bool.Decides.{nat_tests}
use Rattle.std.proofs.lemmas.List.{length-map, map-set, map-append, get_or-map, drop_more}
use Rattle.std.proofs.lemmas.List.Elements.{filter-append}
use Rattle.yard_model.specs.declared.incarnation.Incarnation.{Incarnation}
use Rattle.yard_model.specs.declared.incarnation.Stamp.{Stamp}
use Rattle.yard_model.specs.Words.{numbers, is_same, is_empty, is_among}
use Rattle.yard_model.specs.declared.load.Load.{Load}
use Rattle.yard_model.specs.ShardSet.{has}
use Rattle.yard_model.specs.Coordinator.{Moving, not_awaited}
use Rattle.handoff_steps.specs.Places.{Handoff, Handoffs, place_at, with_place, one_of, moving_from, moving, is_open, is_awaiting, acknowledged_by, ended, place_without, left_of, lost_at, first_place, home_in, regions_of, all_shards, shards_in, begins}

pub length-numbers : (a n : ℕ) → length (numbers a n) ≡ n
length-numbers a zero = refl
length-numbers a (suc n) = ap suc (length-numbers (a + 1) n)

pub get_or-numbers : (a n i d : ℕ) → i < n → get_or (numbers a n) i d ≡ a + i
get_or-numbers a zero i d h = absurd (omega arith)
get_or-numbers a (suc n) zero d h = omega arith
get_or-numbers a (suc n) (suc i) d h = get_or-numbers (a + 1) n i d (omega arith) ∙ omega arith

abbrev with_places : Stamp → List (Option Handoff) → Handoffs
with_places stamp ps = record { stamp = stamp; places = ps }

-- a cell written over
pub placed : {C : Type 0} (f : C → Option Handoff) (v : Handoffs) (stamp : Stamp) (cells : List C) (k s : ℕ) (x new : C) (change : Option Handoff → Option Handoff)
    → with_places stamp (map f cells) ≡ v → k ≡ s → k < length cells → f new ≡ change (f (get_or cells k x))
    → with_places stamp (map f (slice_set cells k new)) ≡ with_place v s (change (place_at v s))
placed f v stamp cells k s x new change seen here low same =
    ap (with_places stamp) (map-set f cells k new ∙ ap (slice_set (map f cells) k) (same ∙ ap change (sym (get_or-map f cells k x None low))))
    ∙ (ap (λ (w : Handoffs). with_place w k (change (place_at w k))) seen ∙ ap (λ n. with_place v n (change (place_at v n))) here)

same_self : (a : ℕ) → (a == a) ≡ true
same_self a = by_test (a == a) refl
  where
    by_test : (c : Bool) → (a == a) ≡ c → c ≡ true
    by_test true e = refl
    by_test false e = absurd (eqb-false a a e refl)

not_same : (a b : ℕ) → a ≢ b → (a == b) ≡ false
not_same a b h = by_test (a == b) refl
  where
    by_test : (c : Bool) → (a == b) ≡ c → c ≡ false
    by_test true e = absurd (h (eqb-true a b e))
    by_test false e = refl

-- What changes the shard s alone.
pub record Acts (s : ℕ) (F : List Moving → List Moving) : Type 0 where
  pub none : F [] ≡ []
  pub along : (xs ys : List Moving) → F (xs ++ ys) ≡ F xs ++ F ys
  pub others : (t : ℕ) (p : Option Handoff) → t ≢ s → F (one_of t p) ≡ one_of t p

past : (s : ℕ) (F : List Moving → List Moving) → Acts s F → (ps : List (Option Handoff)) (a : ℕ) → s < a → F (moving_from a ps) ≡ moving_from a ps
past s F acts [] a h = acts.none
past s F acts (p ∷ ps) a h =
    acts.along (one_of a p) (moving_from (a + 1) ps)
    ∙ (ap (λ l. l ++ F (moving_from (a + 1) ps)) (acts.others a p (omega arith)) ∙ ap (λ l. one_of a p ++ l) (past s F acts ps (a + 1) (omega arith)))

-- a change at the place of s
pub changed : (s : ℕ) (F : List Moving → List Moving) → Acts s F → (ps : List (Option Handoff)) (a i : ℕ) (new : Option Handoff) → a + i ≡ s → i < length ps
    → one_of s new ≡ F (one_of s (get_or ps i None)) → moving_from a (slice_set ps i new) ≡ F (moving_from a ps)
changed s F acts [] a i new at low h = absurd (omega arith)
changed s F acts (p ∷ ps) a zero new at low h =
    let here : a ≡ s = omega arith in
    ap (λ n. one_of n new ++ moving_from (a + 1) ps) here
    ∙ (ap (λ l. l ++ moving_from (a + 1) ps) h
    ∙ (ap (λ n. F (one_of n p) ++ moving_from (a + 1) ps) (sym here)
    ∙ (ap (λ l. F (one_of a p) ++ l) (sym (past s F acts ps (a + 1) (omega arith)))
    ∙ sym (acts.along (one_of a p) (moving_from (a + 1) ps)))))
changed s F acts (p ∷ ps) a (suc i) new at low h =
    ap (λ l. one_of a p ++ l) (changed s F acts ps (a + 1) i new (omega arith) (omega arith) h)
    ∙ (ap (λ l. l ++ F (moving_from (a + 1) ps)) (sym (acts.others a p (omega arith)))
    ∙ sym (acts.along (one_of a p) (moving_from (a + 1) ps)))

abbrev pub ack : ℕ → Incarnation → List Moving → List Moving
ack s r xs = map (λ x. if x.shard == s then not_awaited r x else x) xs

abbrev pub stop : ℕ → List Moving → List Moving
stop s xs = filter (λ x. not (x.shard == s)) xs

ack_others : (s : ℕ) (r : Incarnation) (t : ℕ) (p : Option Handoff) → t ≢ s → ack s r (one_of t p) ≡ one_of t p
ack_others s r t None h = refl
ack_others s r t (Some g) h = by_done g.done
  where
    by_done : (d : Bool) → ack s r (one_of t (Some (record { owner = g.owner; awaited = g.awaited; done = d }))) ≡ one_of t (Some (record { owner = g.owner; awaited = g.awaited; done = d }))
    by_done true = refl
    by_done false = let x : Moving = record { shard = t; owner = Some g.owner; awaited = g.awaited } in
        ap (λ b. (if b then not_awaited r x else x) ∷ []) (not_same t s h)

pub ack_acts : (s : ℕ) (r : Incarnation) → Acts s (ack s r)
ack_acts s r = record { none = refl; along = λ xs ys. map-append _ xs ys; others = ack_others s r }

stop_others : (s t : ℕ) (p : Option Handoff) → t ≢ s → stop s (one_of t p) ≡ one_of t p
stop_others s t None h = refl
stop_others s t (Some g) h = by_done g.done
  where
    by_done : (d : Bool) → stop s (one_of t (Some (record { owner = g.owner; awaited = g.awaited; done = d }))) ≡ one_of t (Some (record { owner = g.owner; awaited = g.awaited; done = d }))
    by_done true = refl
    by_done false = let x : Moving = record { shard = t; owner = Some g.owner; awaited = g.awaited } in
        ap (λ b. if not b then x ∷ [] else []) (not_same t s h)

pub stop_acts : (s : ℕ) → Acts s (stop s)
stop_acts s = record { none = refl; along = λ xs ys. filter-append _ xs ys; others = stop_others s }

pub ack_here : (s : ℕ) (r : Incarnation) (p : Option Handoff) → one_of s (acknowledged_by r p) ≡ ack s r (one_of s p)
ack_here s r None = refl
ack_here s r (Some g) = by_done g.done
  where
    by_done : (d : Bool) → one_of s (acknowledged_by r (Some (record { owner = g.owner; awaited = g.awaited; done = d }))) ≡ ack s r (one_of s (Some (record { owner = g.owner; awaited = g.awaited; done = d })))
    by_done true = refl
    by_done false = let x : Moving = record { shard = s; owner = Some g.owner; awaited = g.awaited } in
        sym (ap (λ b. (if b then not_awaited r x else x) ∷ []) (same_self s))

pub stop_here : (s : ℕ) (p : Option Handoff) → one_of s (ended p) ≡ stop s (one_of s p)
stop_here s None = refl
stop_here s (Some g) = by_done g.done
  where
    by_done : (d : Bool) → [] ≡ stop s (one_of s (Some (record { owner = g.owner; awaited = g.awaited; done = d })))
    by_done true = refl
    by_done false = let x : Moving = record { shard = s; owner = Some g.owner; awaited = g.awaited } in
        sym (ap (λ b. if not b then x ∷ [] else []) (same_self s))

lost_others : (s : ℕ) (r : Incarnation) (t : ℕ) (p : Option Handoff) → t ≢ s → lost_at s r (one_of t p) ≡ one_of t p
lost_others s r t None h = refl
lost_others s r t (Some g) h = by_done g.done
  where
    by_done : (d : Bool) → lost_at s r (one_of t (Some (record { owner = g.owner; awaited = g.awaited; done = d }))) ≡ one_of t (Some (record { owner = g.owner; awaited = g.awaited; done = d }))
    by_done true = refl
    by_done false = let x : Moving = record { shard = t; owner = Some g.owner; awaited = g.awaited } in
        ap (λ b. (if b then left_of r x else x ∷ []) ++ []) (not_same t s h)

pub lost_acts : (s : ℕ) (r : Incarnation) → Acts s (lost_at s r)
lost_acts s r = record { none = refl; along = λ xs ys. flat_map-append _ xs ys; others = lost_others s r }

pub lost_here : (s : ℕ) (r : Incarnation) (p : Option Handoff) → one_of s (place_without r p) ≡ lost_at s r (one_of s p)
lost_here s r None = refl
lost_here s r (Some g) = by_done g.done (is_same r g.owner) refl
  where
    with_done : Bool → Handoff
    with_done d = record { owner = g.owner; awaited = g.awaited; done = d }

    by_done : (d b : Bool) → is_same r g.owner ≡ b → one_of s (place_without r (Some (with_done d))) ≡ lost_at s r (one_of s (Some (with_done d)))
    by_done true true e = ap (λ b. one_of s (if b then ended (Some (with_done true)) else acknowledged_by r (Some (with_done true)))) e
    by_done true false e = ap (λ b. one_of s (if b then ended (Some (with_done true)) else acknowledged_by r (Some (with_done true)))) e
    by_done false b e = let x : Moving = record { shard = s; owner = Some g.owner; awaited = g.awaited } in
        ap (λ b. one_of s (if b then ended (Some (with_done false)) else acknowledged_by r (Some (with_done false)))) e
        ∙ (by_owner x b
        ∙ (ap (λ b. (if b then [] else not_awaited r x ∷ []) ++ []) (sym e)
        ∙ sym (ap (λ b. (if b then left_of r x else x ∷ []) ++ []) (same_self s))))
      where
        by_owner : (x : Moving) (b : Bool) → one_of s (if b then ended (Some (with_done false)) else acknowledged_by r (Some (with_done false))) ≡ (if b then [] else not_awaited r (record { shard = s; owner = Some g.owner; awaited = g.awaited }) ∷ []) ++ []
        by_owner x true = refl
        by_owner x false = refl

abbrev pub only : ℕ → List Moving → List Moving
only s xs = filter (λ x. x.shard == s) xs

only_others : (s t : ℕ) (p : Option Handoff) → t ≢ s → only s (one_of t p) ≡ []
only_others s t None h = refl
only_others s t (Some g) h = by_done g.done
  where
    by_done : (d : Bool) → only s (one_of t (Some (record { owner = g.owner; awaited = g.awaited; done = d }))) ≡ []
    by_done true = refl
    by_done false = let x : Moving = record { shard = t; owner = Some g.owner; awaited = g.awaited } in
        ap (λ b. if b then x ∷ [] else []) (not_same t s h)

only_here : (s : ℕ) (p : Option Handoff) → only s (one_of s p) ≡ one_of s p
only_here s None = refl
only_here s (Some g) = by_done g.done
  where
    by_done : (d : Bool) → only s (one_of s (Some (record { owner = g.owner; awaited = g.awaited; done = d }))) ≡ one_of s (Some (record { owner = g.owner; awaited = g.awaited; done = d }))
    by_done true = refl
    by_done false = let x : Moving = record { shard = s; owner = Some g.owner; awaited = g.awaited } in
        ap (λ b. if b then x ∷ [] else []) (same_self s)

only_past : (s : ℕ) (ps : List (Option Handoff)) (a : ℕ) → s < a → only s (moving_from a ps) ≡ []
only_past s [] a h = refl
only_past s (p ∷ ps) a h =
    filter-append (λ x. x.shard == s) (one_of a p) (moving_from (a + 1) ps)
    ∙ (ap (λ l. l ++ only s (moving_from (a + 1) ps)) (only_others s a p (omega arith)) ∙ only_past s ps (a + 1) (omega arith))

-- the shard s among those that move is what its place says
pub found : (s : ℕ) (ps : List (Option Handoff)) (a i : ℕ) → a + i ≡ s → only s (moving_from a ps) ≡ one_of s (get_or ps i None)
found s [] a i at = refl
found s (p ∷ ps) a zero at =
    let here : a ≡ s = omega arith in
    filter-append (λ x. x.shard == s) (one_of a p) (moving_from (a + 1) ps)
    ∙ (ap (λ l. only s (one_of a p) ++ l) (only_past s ps (a + 1) (omega arith))
    ∙ (append-nil (only s (one_of a p)) ∙ (ap (λ n. only s (one_of n p)) here ∙ only_here s p)))
found s (p ∷ ps) a (suc i) at =
    filter-append (λ x. x.shard == s) (one_of a p) (moving_from (a + 1) ps)
    ∙ (ap (λ l. l ++ only s (moving_from (a + 1) ps)) (only_others s a p (omega arith)) ∙ found s ps (a + 1) i (omega arith))

-- the shards that move, with a change at the place of s
pub moving_with : (v : Handoffs) (s : ℕ) (F : List Moving → List Moving) → Acts s F → (p : Option Handoff) → s < length v.places → one_of s p ≡ F (one_of s (place_at v s))
    → moving (with_place v s p) ≡ F (moving v)
moving_with v s F acts p low h = changed s F acts v.places 0 s p (omega arith) low h

pub all_there : {C : Type 0} (f : C → Option Handoff) (v : Handoffs) (stamp : Stamp) (cells : List C) → with_places stamp (map f cells) ≡ v → length cells ≡ 128 → length v.places ≡ 128
all_there f v stamp cells seen size = sym (ap (λ (w : Handoffs). length w.places) seen) ∙ (length-map cells f ∙ size)

-- Whether any shard moves.

empty_by : (s : ℕ) (p : Option Handoff) (l : List Moving) → is_empty (one_of s p ++ l) ≡ (not (is_open p) && is_empty l)
empty_by s None l = refl
empty_by s (Some g) l = by_done g.done
  where
    by_done : (d : Bool) → is_empty (one_of s (Some (record { owner = g.owner; awaited = g.awaited; done = d })) ++ l) ≡ (not (not d) && is_empty l)
    by_done true = refl
    by_done false = refl

pub empty_more : {C : Type 0} (f : C → Option Handoff) (cells : List C) (i : ℕ) (d : C) → i < length cells
    → is_empty (moving_from i (map f (drop i cells))) ≡ (not (is_open (f (get_or cells i d))) && is_empty (moving_from (i + 1) (map f (drop (i + 1) cells))))
empty_more f cells i d h = ap (λ l. is_empty (moving_from i (map f l))) (drop_more cells i d h) ∙ empty_by i (f (get_or cells i d)) _

-- Whether a region is awaited.

awaited_test : (r : Incarnation) (x : Moving) (any : Bool) (l : List Moving) → any ≡ list_any (λ y. is_among r y.awaited) l → (b : Bool)
    → ((b && is_among r x.awaited) || any) ≡ list_any (λ y. is_among r y.awaited) (if b then x ∷ l else l)
awaited_test r x any l h true = ap (λ b. is_among r x.awaited || b) h
awaited_test r x any l h false = h

awaited_by : (s : ℕ) (r : Incarnation) (xs : List Moving) → list_any (λ x. x.shard == s && is_among r x.awaited) xs ≡ list_any (λ x. is_among r x.awaited) (only s xs)
awaited_by s r [] = refl
awaited_by s r (x ∷ xs) = awaited_test r x _ (only s xs) (awaited_by s r xs) (x.shard == s)

or_none : (b : Bool) → b ≡ (b || false)
or_none true = refl
or_none false = refl

awaiting_one : (s : ℕ) (r : Incarnation) (p : Option Handoff) → is_awaiting r p ≡ list_any (λ x. is_among r x.awaited) (one_of s p)
awaiting_one s r None = refl
awaiting_one s r (Some g) = by_done g.done
  where
    by_done : (d : Bool) → (not d && is_among r g.awaited) ≡ list_any (λ x. is_among r x.awaited) (one_of s (Some (record { owner = g.owner; awaited = g.awaited; done = d })))
    by_done true = refl
    by_done false = or_none (is_among r g.awaited)

pub awaiting : (s : ℕ) (r : Incarnation) (v : Handoffs) → is_awaiting r (place_at v s) ≡ list_any (λ x. x.shard == s && is_among r x.awaited) (moving v)
awaiting s r v = awaiting_one s r (place_at v s) ∙ (ap (list_any (λ x. is_among r x.awaited)) (sym (found s v.places 0 s (omega arith))) ∙ sym (awaited_by s r (moving v)))

-- How a round begins.

pub length-shards : length all_shards ≡ 128
unfolding all_shards
length-shards = length-numbers 0 128

pub shard_at : (s : ℕ) → s < 128 → get_or all_shards s 0 ≡ s
unfolding all_shards
shard_at s h = get_or-numbers 0 128 s 0 h ∙ omega arith

first_by : (s : ℕ) (regions : List Incarnation) (o : Option Incarnation) → IsSome o → one_of s (option_map (λ r. record { owner = r; awaited = regions; done = false }) o) ≡ record { shard = s; owner = o; awaited = regions } ∷ []
first_by s regions None h = absurd (false≢true h)
first_by s regions (Some r) h = refl

first_one : (s : ℕ) (loads : List Load) (b : Bool) → (b ≡ true → IsSome (home_in loads s))
    → one_of s (if b then option_map (λ r. record { owner = r; awaited = regions_of loads; done = false }) (home_in loads s) else None) ≡ (if b then begins loads s ∷ [] else [])
first_one s loads true h = first_by s (regions_of loads) (home_in loads s) (h refl)
first_one s loads false h = refl

begun_by : (b : Bool) (s : ℕ) (loads : List Load) (l : List ℕ) → (if b then begins loads s ∷ [] else []) ++ map (begins loads) l ≡ map (begins loads) (if b then s ∷ l else l)
begun_by true s loads l = refl
begun_by false s loads l = refl

begun_from : (picks m : ℕ) (loads : List Load) → ((s : ℕ) → s < m → has picks s ≡ true → IsSome (home_in loads s)) → (a n : ℕ) → a + n ≤ m
    → moving_from a (map (first_place picks loads) (numbers a n)) ≡ map (begins loads) (filter (has picks) (numbers a n))
begun_from picks m loads h a zero le = refl
begun_from picks m loads h a (suc n) le =
    ap (λ l. l ++ moving_from (a + 1) (map (first_place picks loads) (numbers (a + 1) n))) (first_one a loads (has picks a) (h a (omega (arith, le))))
    ∙ (ap (λ l. (if has picks a then begins loads a ∷ [] else []) ++ l) (begun_from picks m loads h (a + 1) n (omega (arith, le)))
    ∙ begun_by (has picks a) a loads (filter (has picks) (numbers (a + 1) n)))

home_by : (l : Load) (b any : Bool) (o : Option Incarnation) → (any ≡ true → IsSome o) → (b || any) ≡ true → IsSome (if b then Some l.region else o)
home_by l true any o next h = refl
home_by l false any o next h = next h

home_more : (l : Load) (b : Bool) (o : Option Load) → (if b then Some l.region else option_map (λ l. l.region) o) ≡ option_map (λ l. l.region) (if b then Some l else o)
home_more l true o = refl
home_more l false o = refl

-- a shard of some load has a home
pub home_some : (s : ℕ) (loads : List Load) → list_any (λ l. has l.shards s) loads ≡ true → IsSome (home_in loads s)
home_some s [] h = h
home_some s (l ∷ loads) h = subst (λ (o : Option Incarnation). IsSome o) (home_more l (has l.shards s) (find (λ l. has l.shards s) loads)) (home_by l (has l.shards s) _ (home_in loads s) (home_some s loads) h)

pub begun : (picks : ℕ) (loads : List Load) → ((s : ℕ) → s < 128 → has picks s ≡ true → IsSome (home_in loads s)) → moving_from 0 (map (first_place picks loads) all_shards) ≡ map (begins loads) (shards_in picks)
unfolding all_shards
begun picks loads h = begun_from picks 128 loads h 0 128 (omega arith)

-- a cell is what its place says
pub place_seen : {C : Type 0} (f : C → Option Handoff) (v : Handoffs) (stamp : Stamp) (cells : List C) (k s : ℕ) (x : C) → with_places stamp (map f cells) ≡ v → k ≡ s → k < length cells
    → f (get_or cells k x) ≡ place_at v s
place_seen f v stamp cells k s x seen here low = sym (get_or-map f cells k x None low) ∙ (ap (λ (w : Handoffs). place_at w k) seen ∙ ap (place_at v) here)

any_test : (x : Moving) (any : Bool) (l : List Moving) → any ≡ not (is_empty l) → (b : Bool) → (b || any) ≡ not (is_empty (if b then x ∷ l else l))
any_test x any l h true = refl
any_test x any l h false = h

any_only : (s : ℕ) (xs : List Moving) → list_any (λ x. x.shard == s) xs ≡ not (is_empty (only s xs))
any_only s [] = refl
any_only s (x ∷ xs) = any_test x _ (only s xs) (any_only s xs) (x.shard == s)

open_one : (s : ℕ) (p : Option Handoff) → is_open p ≡ not (is_empty (one_of s p))
open_one s None = refl
open_one s (Some g) = by_done g.done
  where
    by_done : (d : Bool) → not d ≡ not (is_empty (one_of s (Some (record { owner = g.owner; awaited = g.awaited; done = d }))))
    by_done true = refl
    by_done false = refl

pub opened : (s : ℕ) (v : Handoffs) → is_open (place_at v s) ≡ list_any (λ x. x.shard == s) (moving v)
opened s v = open_one s (place_at v s) ∙ (ap (λ l. not (is_empty l)) (sym (found s v.places 0 s (omega arith))) ∙ sym (any_only s (moving v)))

-- The shards that move, rising.

each_same : {X A : Type 0} (f g : X → List A) → ((x : X) → f x ≡ g x) → (xs : List X) → flat_map f xs ≡ flat_map g xs
each_same f g h [] = refl
each_same f g h (x ∷ xs) = ap (λ l. l ++ flat_map f xs) (h x) ∙ ap (λ l. g x ++ l) (each_same f g h xs)

rising_from : (ps : List (Option Handoff)) (a : ℕ) (g : ℕ → Option Handoff) → ((i : ℕ) → i < length ps → g (a + i) ≡ get_or ps i None) → moving_from a ps ≡ flat_map (λ s. one_of s (g s)) (numbers a (length ps))
rising_from [] a g h = refl
rising_from (p ∷ ps) a g h =
    let zeroth : a + 0 ≡ a = omega arith in
    let here : p ≡ g a = sym (sym (ap g zeroth) ∙ h 0 (omega arith)) in
    ap (λ q. one_of a q ++ moving_from (a + 1) ps) here
    ∙ ap (λ l. one_of a (g a) ++ l) (rising_from ps (a + 1) g (λ i low. let next : (a + 1) + i ≡ a + suc i = omega arith in ap g next ∙ h (suc i) (omega (arith, low))))

pub rising : (v : Handoffs) → length v.places ≡ 128 → moving v ≡ flat_map (λ s. only s (moving v)) all_shards
unfolding all_shards
rising v size =
    rising_from v.places 0 (place_at v) (λ i low. let same : 0 + i ≡ i = omega arith in ap (place_at v) same)
    ∙ (ap (λ n. flat_map (λ s. one_of s (place_at v s)) (numbers 0 n)) size
    ∙ each_same (λ s. one_of s (place_at v s)) (λ s. only s (moving v)) (λ s. sym (found s v.places 0 s (omega arith))) (numbers 0 128))

few_of : (s : ℕ) (p : Option Handoff) → length (one_of s p) ≤ 1
few_of s None = omega arith
few_of s (Some g) = by_done g.done
  where
    by_done : (d : Bool) → length (one_of s (Some (record { owner = g.owner; awaited = g.awaited; done = d }))) ≤ 1
    by_done true = omega arith
    by_done false = omega arith

few_from : (ps : List (Option Handoff)) (a : ℕ) → length (moving_from a ps) ≤ length ps
few_from [] a = omega arith
few_from (p ∷ ps) a = omega (arith, length-append (one_of a p) (moving_from (a + 1) ps), few_of a p, few_from ps (a + 1))

pub few_move : (v : Handoffs) → length v.places ≡ 128 → length (moving v) ≤ 128
few_move v size = subst (λ n. length (moving v) ≤ n) size (few_from v.places 0)

none_from : (n a : ℕ) → moving_from a (replicate n None) ≡ []
none_from zero a = refl
none_from (suc n) a = none_from n (a + 1)

pub none_move : (n : ℕ) → moving_from 0 (replicate n None) ≡ []
none_move n = none_from n 0

both : (a b : Bool) → a ≡ true → b ≡ true → (a && b) ≡ true
both a b e f = ap (λ x. x && b) e ∙ f

all_along : (n : ℕ) (xs ys : List Moving) → list_all (λ x. nat_lt x.shard n) xs ≡ true → list_all (λ x. nat_lt x.shard n) ys ≡ true → list_all (λ x. nat_lt x.shard n) (xs ++ ys) ≡ true
all_along n [] ys e f = f
all_along n (x ∷ xs) ys e f = by_first (nat_lt x.shard n) e (λ h. all_along n xs ys h f)
  where
    by_first : (b : Bool) → (b && list_all (λ x. nat_lt x.shard n) xs) ≡ true → (list_all (λ x. nat_lt x.shard n) xs ≡ true → list_all (λ x. nat_lt x.shard n) (xs ++ ys) ≡ true)
        → (b && list_all (λ x. nat_lt x.shard n) (xs ++ ys)) ≡ true
    by_first true h next = next h
    by_first false h next = h

below_of : (s n : ℕ) (p : Option Handoff) → s < n → list_all (λ x. nat_lt x.shard n) (one_of s p) ≡ true
below_of s n None h = refl
below_of s n (Some g) h = by_done g.done
  where
    less : nat_lt s n ≡ true
    less = grind (arith, nat_tests)

    by_done : (d : Bool) → list_all (λ x. nat_lt x.shard n) (one_of s (Some (record { owner = g.owner; awaited = g.awaited; done = d }))) ≡ true
    by_done true = refl
    by_done false = both (nat_lt s n) true less refl

below_from : (ps : List (Option Handoff)) (a n : ℕ) → a + length ps ≤ n → list_all (λ x. nat_lt x.shard n) (moving_from a ps) ≡ true
below_from [] a n h = refl
below_from (p ∷ ps) a n h = all_along n (one_of a p) (moving_from (a + 1) ps) (below_of a n p (omega (arith, h))) (below_from ps (a + 1) n (omega (arith, h)))

pub below_all : (v : Handoffs) → length v.places ≡ 128 → list_all (λ x. nat_lt x.shard 128) (moving v) ≡ true
below_all v size = below_from v.places 0 128 (omega (arith, size))
