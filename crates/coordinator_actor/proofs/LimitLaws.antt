-- What never changes, and how many items a rule gives at most.
use Rattle.std.proofs.Common.{◌≡◌, ℕ, ◌+◌, ◌*◌, ◌≤◌, List, [], ◌∷◌, ◌++◌, length, ap, ◌∙◌, refl, arith, length-append}
use Rattle.std.specs.Prelude.{Bool, true, false, ◌&&◌, not, suc, map, filter, fold, Option, Some, None, if◌then◌else◌}
use Rattle.std.specs.List.{flat_map}
use Rattle.std.proofs.lemmas.Grind.{flat_map-append}
use Rattle.std.proofs.lemmas.List.Sums.{fold-append}
use Rattle.yard_model.specs.declared.fact.Fact.TheVariants as fact
use Rattle.yard_model.specs.declared.incarnation.Incarnation.{Incarnation}
use Rattle.yard_model.specs.declared.packet.Body.TheVariants as body
use Rattle.yard_model.specs.Coordinator.{Coordinator, Moving, coordinator_after, not_awaited, registered, hand_off, hand_off_if_last, terminate, terminate_lost, register_from, stamp}
use Rattle.yard_model.specs.Move.{Move, told, post, item_of}
use Rattle.yard_model.specs.Turns.{where_some, for_each}
use Rattle.yard_model.specs.Words.{is_at, is_among, is_empty, without}

pub same_who : (st : Coordinator) (moves : List Move) → (fold coordinator_after st moves).who ≡ st.who
same_who st [] = refl
same_who st (m ∷ ms) = same_who (coordinator_after st m) ms

pub same_set : (st : Coordinator) (moves : List Move) → (fold coordinator_after st moves).set ≡ st.set
same_set st [] = refl
same_set st (m ∷ ms) = same_set (coordinator_after st m) ms

-- these moves give at most n items
abbrev Gives : ℕ → List Move → Type 0
Gives n ms = length (flat_map item_of ms) ≤ n

both_give : (m n : ℕ) (xs ys : List Move) → Gives m xs → Gives n ys → Gives (m + n) (xs ++ ys)
both_give m n xs ys h k =
    let e : length (flat_map item_of (xs ++ ys)) ≡ length (flat_map item_of xs) + length (flat_map item_of ys) = ap length (flat_map-append item_of xs ys) ∙ length-append (flat_map item_of xs) (flat_map item_of ys) in
    omega (arith, e, h, k)

if_gives : (n : ℕ) (xs ys : List Move) → Gives n xs → Gives n ys → (b : Bool) → Gives n (if b then xs else ys)
if_gives n xs ys h k true = h
if_gives n xs ys h k false = k

some_gives : {X : Type 0} (n : ℕ) (f : X → List Move) → ((x : X) → Gives n (f x)) → (o : Option X) → Gives n (where_some f o)
some_gives n f h None = omega arith
some_gives n f h (Some x) = h x

each_gives : {X : Type 0} (p : X → List Move) → ((x : X) → Gives 1 (p x)) → (xs : List X) → Gives (length xs) (flat_map p xs)
each_gives p h [] = omega arith
each_gives p h (x ∷ xs) = let k : Gives (1 + length xs) (p x ++ flat_map p xs) = both_give 1 (length xs) (p x) (flat_map p xs) (h x) (each_gives p h xs) in omega (arith, k)

hand_off_gives : (st : Coordinator) (x : Moving) → Gives 1 (hand_off st x)
hand_off_gives st x = some_gives 1 (λ o. post st.who o (body.HandOff x.shard (stamp st)) ∷ []) (λ o. omega arith) x.owner

last_gives : (r : Incarnation) (st : Coordinator) (x : Moving) → Gives 1 (hand_off_if_last r st x)
last_gives r st x = if_gives 1 (hand_off st x) [] (hand_off_gives st x) (omega arith) (is_among r x.awaited && is_empty (without r x.awaited))

terminate_gives : (r : Incarnation) (st : Coordinator) → Gives (1 + length st.moving) (terminate r st)
terminate_gives r st =
    let p : Moving → List Move = λ x. if is_at r x.owner then [] else hand_off_if_last r st x in
    both_give 1 (length st.moving) (told (fact.Terminated r) ∷ []) (flat_map p st.moving) (omega arith)
    (each_gives p (λ x. if_gives 1 [] (hand_off_if_last r st x) (omega arith) (last_gives r st x) (is_at r x.owner)) st.moving)

filter_few : {A : Type 0} (p : A → Bool) (xs : List A) → length (filter p xs) ≤ length xs
filter_few p [] = omega arith
filter_few p (x ∷ xs) = elim (p x) as (λ b. length (if b then x ∷ filter p xs else filter p xs) ≤ suc (length xs)) [
  | true ↦ let h : length (filter p xs) ≤ length xs = filter_few p xs in omega (arith, h)
  | false ↦ let h : length (filter p xs) ≤ length xs = filter_few p xs in omega (arith, h)
]

map_many : {A C : Type 0} (f : A → C) (xs : List A) → length (map f xs) ≡ length xs
map_many f [] = refl
map_many f (x ∷ xs) = ap suc (map_many f xs)

-- handing off changes no moving shard
handing : (r : Incarnation) (st : Coordinator) (xs : List Moving) (now : Coordinator) → (fold coordinator_after now (flat_map (λ x. if is_at r x.owner then [] else hand_off_if_last r st x) xs)).moving ≡ now.moving
handing r st [] now = refl
handing r st (x ∷ xs) now =
    let p : Moving → List Move = λ x. if is_at r x.owner then [] else hand_off_if_last r st x in
    ap (λ k. k.moving) (fold-append coordinator_after now (p x) (flat_map p xs)) ∙ (handing r st xs (fold coordinator_after now (p x)) ∙ one (is_at r x.owner) (is_among r x.awaited && is_empty (without r x.awaited)) x.owner)
  where
    one : (b c : Bool) (o : Option Incarnation) → (fold coordinator_after now (if b then [] else (if c then where_some (λ o. post st.who o (body.HandOff x.shard (stamp st)) ∷ []) o else []))).moving ≡ now.moving
    one true c o = refl
    one false false o = refl
    one false true None = refl
    one false true (Some a) = refl

-- no shard more moves once a region is terminated
fewer_move : (r : Incarnation) (st : Coordinator) → length (fold coordinator_after st (terminate r st)).moving ≤ length st.moving
fewer_move r st =
    let same : (fold coordinator_after st (terminate r st)).moving ≡ map (not_awaited r) (filter (λ x. not (is_at r x.owner)) st.moving) = handing r st st.moving (coordinator_after st (told (fact.Terminated r))) in
    let all : length (fold coordinator_after st (terminate r st)).moving ≡ length (filter (λ x. not (is_at r x.owner)) st.moving) = ap length same ∙ map_many (not_awaited r) (filter (λ x. not (is_at r x.owner)) st.moving) in
    let few : length (filter (λ x. not (is_at r x.owner)) st.moving) ≤ length st.moving = filter_few (λ x. not (is_at r x.owner)) st.moving in
    omega (arith, all, few)

each_lost : (rs : List Incarnation) (st : Coordinator) → length st.moving ≤ 128 → Gives (length rs * 129) (for_each coordinator_after terminate rs st)
each_lost [] st few = omega arith
each_lost (r ∷ rs) st few =
    let now : Coordinator = fold coordinator_after st (terminate r st) in
    let less : length now.moving ≤ length st.moving = fewer_move r st in
    let one : Gives (1 + length st.moving) (terminate r st) = terminate_gives r st in
    let rest : Gives (length rs * 129) (for_each coordinator_after terminate rs now) = each_lost rs now (omega (arith, less, few)) in
    let k : Gives ((1 + length st.moving) + length rs * 129) (terminate r st ++ for_each coordinator_after terminate rs now) = both_give (1 + length st.moving) (length rs * 129) (terminate r st) (for_each coordinator_after terminate rs now) one rest in
    let whole : suc (length rs) * 129 ≡ 129 + length rs * 129 = omega arith in
    omega (arith, k, few, whole)

pub lost_room : (view : List Incarnation) (st : Coordinator) → length (registered st) ≤ 16 → length st.moving ≤ 128 → Gives (16 * (1 + 128)) (terminate_lost view st)
lost_room view st regions few =
    let lost : List Incarnation = filter (λ r. not (is_among r view)) (registered st) in
    let least : length lost ≤ length (registered st) = filter_few (λ r. not (is_among r view)) (registered st) in
    let all : Gives (length lost * 129) (terminate_lost view st) = each_lost lost st few in
    omega (arith, all, least, regions)

pub register_room : (from : Incarnation) (view : List Incarnation) (st : Coordinator) → Gives 2 (register_from from view st)
register_room from view st = by_cases (is_among from view) (is_among from (registered st))
  where
    by_cases : (a b : Bool) → Gives 2 (if a then (if b then [] else told (fact.Registered from) ∷ []) ++ post st.who from body.RegisterAck ∷ [] else [])
    by_cases true true = omega arith
    by_cases true false = omega arith
    by_cases false b = omega arith
