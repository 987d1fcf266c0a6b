-- What is kept of each name, at its place.
use Rattle.std.proofs.Common.{◌≡◌, ◌≢◌, ◌<◌, ℕ, zero, suc, ◌+◌, sym, ap, ◌∙◌, refl, arith, List, [], ◌∷◌, length, true≢false, map, Vec, Global, MatchOption}
use Rattle.std.specs.Prelude.{Bool, true, false, not, cond, ◌||◌, Option, Some, None, IfSome, IfNone, slice_set, slice_index_or, if◌then◌else◌}
use Rattle.std.specs.List.{list_any}
use Rattle.std.specs.List.Sorted.{IsStrictlySortedBy}
use Rattle.std.specs.Ordering.{nat_cmp}
use Rattle.std.specs.Cmp.Lexicographic.{slice_cmp}
use Rattle.std.proofs.lemmas.List.{get_or-set_same, get_or-set_other, get_or_past, get_or-map}
use Rattle.yard_model.specs.declared.event.Command.{Command}
use Rattle.yard_model.specs.Script.{Script, is_name, names_in}
use Rattle.plain_laws.proofs.Booleans.{same_name}
use Rattle.plain_laws.proofs.Names.{name_itself}
use Rattle.name_index.proofs.NameLaws.{placed}
use Rattle.durable_queue.specs.Kept.{place_of, kept_of, AreOrdered}
use Rattle.durable_queue.specs.Queue.{name_at}

-- a name that is among them has a place
pub place_within : (names : List (List ℕ)) (e : List ℕ) → list_any (is_name e) names ≡ true → place_of names e < length names
place_within [] e h = absurd (true≢false (sym h))
place_within (n ∷ ns) e h = by (is_name e n) h (place_within ns e)
  where
    by : (b : Bool) → (b || list_any (is_name e) ns) ≡ true → (list_any (is_name e) ns ≡ true → place_of ns e < length ns) → cond (not b) (1 + place_of ns e) 0 < length (n ∷ ns)
    by true t rest = omega arith
    by false t rest = let less : place_of ns e < length ns = rest t in omega (arith, less)

-- one that isn't has none
pub place_past : (names : List (List ℕ)) (e : List ℕ) → list_any (is_name e) names ≡ false → place_of names e ≡ length names
place_past [] e h = refl
place_past (n ∷ ns) e h = by (is_name e n) h (place_past ns e)
  where
    by : (b : Bool) → (b || list_any (is_name e) ns) ≡ false → (list_any (is_name e) ns ≡ false → place_of ns e ≡ length ns) → cond (not b) (1 + place_of ns e) 0 ≡ length (n ∷ ns)
    by true t rest = absurd (true≢false t)
    by false t rest = let same : place_of ns e ≡ length ns = rest t in omega (arith, same)

-- another name has another place
pub place_apart : (names : List (List ℕ)) (e q : List ℕ) → list_any (is_name e) names ≡ true → is_name e q ≡ false → place_of names q ≢ place_of names e
place_apart [] e q h other same = absurd (true≢false (sym h))
place_apart (n ∷ ns) e q h other same = by (is_name e n) (is_name q n) refl refl h same (λ t. place_apart ns e q t other)
  where
    by : (a b : Bool) → is_name e n ≡ a → is_name q n ≡ b → (a || list_any (is_name e) ns) ≡ true → cond (not b) (1 + place_of ns q) 0 ≡ cond (not a) (1 + place_of ns e) 0 → (list_any (is_name e) ns ≡ true → place_of ns q ≢ place_of ns e) → ⊥
    by true true f g t k rest = true≢false (sym (ap (is_name e) (same_name q n g ∙ sym (same_name e n f)) ∙ name_itself e) ∙ other)
    by true false f g t k rest = omega (arith, k)
    by false true f g t k rest = omega (arith, k)
    by false false f g t k rest = rest t (omega (arith, k))

-- after a write at a name's place
pub kept_put : {X : Type 0} (names : List (List ℕ)) (xs : List X) (d v : X) (e q : List ℕ) → length xs ≡ length names → list_any (is_name e) names ≡ true →
    kept_of names (slice_set xs (place_of names e) v) d q ≡ (if is_name e q then v else kept_of names xs d q)
kept_put names xs d v e q sized named = by (is_name e q) refl
  where
    by : (b : Bool) → is_name e q ≡ b → kept_of names (slice_set xs (place_of names e) v) d q ≡ (if b then v else kept_of names xs d q)
    by true t =
        let within : place_of names e < length names = place_within names e named in
        ap (λ x. kept_of names (slice_set xs (place_of names e) v) d x) (sym (same_name e q t)) ∙ get_or-set_same xs (place_of names e) v d (omega (arith, within, sized))
    by false t = get_or-set_other xs (place_of names e) (place_of names q) v d (place_apart names e q named t)

-- nothing is kept of a name that has no place
pub kept_past : {X : Type 0} (names : List (List ℕ)) (xs : List X) (d : X) (e : List ℕ) → length xs ≡ length names → place_of names e ≡ length names → kept_of names xs d e ≡ d
kept_past names xs d e sized past = get_or_past xs (place_of names e) d (omega (arith, sized, past))

-- the place at which a name in order is found
pub some_place : (names : List (List ℕ)) (e : List ℕ) (o : Option ℕ) → IsStrictlySortedBy (slice_cmp nat_cmp) names → MatchOption o (list_any (is_name e) names ≡ false) (λ k. (k < length names) × (slice_index_or names k [] ≡ e)) → IfSome o (λ k. (k < length names) × (k ≡ place_of names e))
some_place names e None sorted h = tt
some_place names e (Some k) sorted h = (h.0, placed names e k sorted h.0 h.1)

-- a name that isn't found has none
pub none_place : (names : List (List ℕ)) (e : List ℕ) (o : Option ℕ) → MatchOption o (list_any (is_name e) names ≡ false) (λ k. (k < length names) × (slice_index_or names k [] ≡ e)) → IfNone o (place_of names e ≡ length names)
none_place names e None h = place_past names e h
none_place names e (Some k) h = tt

-- what a list of lists is seen as, at a place
pub list_read : (all : List (Vec Command Global)) (x : Vec Command Global) (i : ℕ) → i < length all → x ≡ slice_index_or all i x → slice_index_or (map (λ (v : Vec Command Global). v.items) all) i [] ≡ x.items
list_read all x i inside read = get_or-map (λ (v : Vec Command Global). v.items) all i x [] inside ∙ ap (λ (v : Vec Command Global). v.items) (sym read)

-- a place among the script's names is one of each list that is kept
pub within_at : {X : Type 0} (c : Script) (names : List (List ℕ)) (xs : List X) (i : ℕ) → AreOrdered c names → length xs ≡ length names → i < length (names_in c.orders) → i < length xs
within_at c names xs i o sized within =
    let same : length names ≡ length (names_in c.orders) = ap length o.are in
    omega (arith, same, sized, within)

-- the place at which a name stands is its own
pub place_at : (c : Script) (names : List (List ℕ)) (i : ℕ) (e : List ℕ) → AreOrdered c names → i < length (names_in c.orders) → name_at c i ≡ e → i ≡ place_of names e
place_at c names i e o within it = placed names e i o.sorted (within_at c names names i o refl within) (ap (λ (l : List (List ℕ)). slice_index_or l i []) o.are ∙ it)

-- what is kept at a place is kept of the name that stands there
pub kept_at : {X : Type 0} (c : Script) (names : List (List ℕ)) (xs : List X) (d : X) (i : ℕ) → AreOrdered c names → i < length (names_in c.orders) → slice_index_or xs i d ≡ kept_of names xs d (name_at c i)
kept_at c names xs d i o within = ap (λ k. slice_index_or xs k d) (place_at c names i (name_at c i) o within refl)

-- a name that stands at a place is among them
pub any_here : (names : List (List ℕ)) (i : ℕ) → i < length names → list_any (is_name (slice_index_or names i [])) names ≡ true
any_here [] i h = absurd (omega (arith, h))
any_here (n ∷ ns) zero h = ap (λ b. b || list_any (is_name n) ns) (name_itself n)
any_here (n ∷ ns) (suc i) h = by (is_name (slice_index_or ns i []) n) (any_here ns i (omega (arith, h)))
  where
    by : (b : Bool) → list_any (is_name (slice_index_or ns i [])) ns ≡ true → (b || list_any (is_name (slice_index_or ns i [])) ns) ≡ true
    by true t = refl
    by false t = t
