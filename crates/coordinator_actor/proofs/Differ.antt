-- Regions are registered once, so that those of a view and no others are at most as many as the view has members.
use Rattle.std.proofs.Common.{◌≡◌, ℕ, ◌<◌, ◌≤◌, suc, sym, ap, ◌∙◌, refl, arith, length}
use Rattle.std.specs.Prelude.{Bool, true, false, ◌&&◌, ◌||◌, not, cond, List, [], ◌∷◌, ◌++◌, filter}
use Rattle.std.specs.List.{list_all}
use Rattle.std.proofs.lemmas.List.Sums.{fold-append, length-filter, count_by-le-length}
use Rattle.yard_model.specs.declared.fact.Fact.{Fact}
use Rattle.yard_model.specs.declared.fact.Fact.TheVariants as fact
use Rattle.yard_model.specs.declared.incarnation.Incarnation.{Incarnation}
use Rattle.yard_model.specs.declared.incarnation.Slot.TheVariants as slot
use Rattle.yard_model.specs.Genuine.{is_node}
use Rattle.yard_model.specs.Lawful.{own, is_leased, is_entry, may_open, may_follow}
use Rattle.yard_model.specs.Script.{Script, with_shards}
use Rattle.yard_model.specs.SlotReads.{regions, regions_step}
use Rattle.yard_model.specs.Words.{is_same, is_among, without}
use Rattle.coordinator_actor.proofs.OwnLaws.{own_steps}
use Rattle.coordinator_actor.proofs.Same.{true_is_not_false, and_both, both, same_turned, among_without}
use Rattle.coordinator_actor.specs.Held.{are_viewed}

-- no region stands twice
abbrev pub differ : List Incarnation → Bool
differ [] = true
differ (x ∷ xs) = not (is_among x xs) && differ xs

pub of_not : (b : Bool) → not b ≡ true → b ≡ false
of_not true e = sym e
of_not false e = refl

pub or_both : (a b : Bool) → (a || b) ≡ false → (a ≡ false) × (b ≡ false)
or_both true b e = absurd (true_is_not_false e)
or_both false b e = (refl, e)

not_among_push : (x r : Incarnation) (xs : List Incarnation) → is_among x xs ≡ false → is_same x r ≡ false → is_among x (xs ++ r ∷ []) ≡ false
not_among_push x r [] e f = ap (λ b. b || false) f
not_among_push x r (y ∷ ys) e f =
    let m : (is_same x y ≡ false) × (is_among x ys ≡ false) = or_both (is_same x y) (is_among x ys) e in
    ap (λ b. b || is_among x (ys ++ r ∷ [])) m.0 ∙ not_among_push x r ys m.1 f

differ_push : (xs : List Incarnation) (r : Incarnation) → differ xs ≡ true → is_among r xs ≡ false → differ (xs ++ r ∷ []) ≡ true
differ_push [] r e new = refl
differ_push (x ∷ xs) r e new =
    let m : (not (is_among x xs) ≡ true) × (differ xs ≡ true) = and_both (not (is_among x xs)) (differ xs) e in
    let n : (is_same r x ≡ false) × (is_among r xs ≡ false) = or_both (is_same r x) (is_among r xs) new in
    both (not (is_among x (xs ++ r ∷ []))) (differ (xs ++ r ∷ [])) (ap not (not_among_push x r xs (of_not (is_among x xs) m.0) (same_turned x r ∙ n.0))) (differ_push xs r m.1 n.1)

not_among_filter : (p : Incarnation → Bool) (x : Incarnation) (xs : List Incarnation) → is_among x xs ≡ false → is_among x (filter p xs) ≡ false
not_among_filter p x [] e = refl
not_among_filter p x (y ∷ ys) e = step (p y) (not_among_filter p x ys (or_both (is_same x y) (is_among x ys) e).1)
  where
    step : (b : Bool) → is_among x (filter p ys) ≡ false → is_among x (cond b (y ∷ filter p ys) (filter p ys)) ≡ false
    step true h = ap (λ b. b || is_among x (filter p ys)) (or_both (is_same x y) (is_among x ys) e).0 ∙ h
    step false h = h

pub differ_filter : (p : Incarnation → Bool) (xs : List Incarnation) → differ xs ≡ true → differ (filter p xs) ≡ true
differ_filter p [] e = refl
differ_filter p (x ∷ xs) e = step (p x) (differ_filter p xs (and_both (not (is_among x xs)) (differ xs) e).1)
  where
    step : (b : Bool) → differ (filter p xs) ≡ true → differ (cond b (x ∷ filter p xs) (filter p xs)) ≡ true
    step true h = both (not (is_among x (filter p xs))) (differ (filter p xs)) (ap not (not_among_filter p x xs (of_not (is_among x xs) (and_both (not (is_among x xs)) (differ xs) e).0))) h
    step false h = h

pub regions_more : (list : List Fact) (f : Fact) → regions (list ++ f ∷ []) ≡ regions_step (regions list) f
regions_more list f = fold-append regions_step [] list (f ∷ [])

differ_step : (c : Script) (list : List Fact) (f : Fact) → differ (regions list) ≡ true → may_follow c slot.Coordinator list f ≡ true → differ (regions_step (regions list) f) ≡ true
differ_step c list (fact.Registered r) e may =
    let entry : (is_node c r && not (is_among r (regions list)) && _) ≡ true = (and_both (is_leased list (fact.Registered r)) (is_entry c slot.Coordinator list (fact.Registered r)) may).1 in
    let new : not (is_among r (regions list)) ≡ true = (and_both (is_node c r) (not (is_among r (regions list))) (and_both (is_node c r && not (is_among r (regions list))) _ entry).0).1 in
    differ_push (regions list) r e (of_not (is_among r (regions list)) new)
differ_step c list (fact.Terminated r) e may = differ_filter (λ y. not (is_same r y)) (regions list) e
differ_step c list f e may = e

differ_open : (c : Script) (k : ℕ) (list : List Fact) (f : Fact) → differ (regions list) ≡ true → may_open c slot.Coordinator k list f ≡ true → differ (regions_step (regions list) f) ≡ true
differ_open c k list (fact.Registered r) e may = differ_step (with_shards 128 c) list (fact.Registered r) e may
differ_open c k list (fact.Terminated r) e may = differ_filter (λ y. not (is_same r y)) (regions list) e
differ_open c k list f e may = e

pub regions_differ : (c : Script) (list : List Fact) → own c slot.Coordinator list ≡ true → differ (regions list) ≡ true
regions_differ c list o = own_steps c slot.Coordinator (λ l. differ (regions l) ≡ true) refl (λ k l f e may. ap differ (regions_more l f) ∙ differ_open c k l f e may) (λ l f e may. ap differ (regions_more l f) ∙ differ_step c l f e may) list o

-- others stay where one is taken out
pub left_among : (r : Incarnation) (regs rs : List Incarnation) → list_all (λ x. is_among x regs) rs ≡ true → is_among r rs ≡ false → list_all (λ x. is_among x (without r regs)) rs ≡ true
left_among r regs [] e new = refl
left_among r regs (x ∷ xs) e new =
    let m : (is_among x regs ≡ true) × (list_all (λ x. is_among x regs) xs ≡ true) = and_both (is_among x regs) (list_all (λ x. is_among x regs) xs) e in
    let n : (is_same r x ≡ false) × (is_among r xs ≡ false) = or_both (is_same r x) (is_among r xs) new in
    both (is_among x (without r regs)) (list_all (λ x. is_among x (without r regs)) xs) (among_without x r regs n.0 m.0) (left_among r regs xs m.1 n.1)

-- one that is there takes a place
shorter : (x : Incarnation) (ys : List Incarnation) → is_among x ys ≡ true → length (without x ys) < length ys
shorter x [] e = absurd (true_is_not_false (sym e))
shorter x (y ∷ ys) e = step (is_same x y) e (λ f. shorter x ys f)
  where
    step : (b : Bool) → (b || is_among x ys) ≡ true → (is_among x ys ≡ true → length (without x ys) < length ys) → length (cond (not b) (y ∷ without x ys) (without x ys)) < suc (length ys)
    step true f less = omega (arith, length-filter (λ z. not (is_same x z)) ys, count_by-le-length (λ z. not (is_same x z)) ys)
    step false f less = omega (arith, less f)

-- different ones that all stand in a list are at most as many
fewer : (xs ys : List Incarnation) → differ xs ≡ true → list_all (λ x. is_among x ys) xs ≡ true → length xs ≤ length ys
fewer [] ys d e = omega arith
fewer (x ∷ xs) ys d e =
    let m : (is_among x ys ≡ true) × (list_all (λ x. is_among x ys) xs ≡ true) = and_both (is_among x ys) (list_all (λ x. is_among x ys) xs) e in
    let n : (not (is_among x xs) ≡ true) × (differ xs ≡ true) = and_both (not (is_among x xs)) (differ xs) d in
    let rest : length xs ≤ length (without x ys) = fewer xs (without x ys) n.1 (left_among x ys xs m.1 (of_not (is_among x xs) n.0)) in
    let less : length (without x ys) < length ys = shorter x ys m.0 in
    omega (arith, rest, less)

pub room_for : (c : Script) (list : List Fact) (view : List Incarnation) (r : Incarnation) → own c slot.Coordinator list ≡ true → are_viewed view list ≡ true → is_among r view ≡ true → is_among r (regions list) ≡ false → length view < 17
    → length (regions list) < 16
room_for c list view r o viewed seen fresh few =
    let all : length (r ∷ regions list) ≤ length view = fewer (r ∷ regions list) view
    (both (not (is_among r (regions list))) (differ (regions list)) (ap not fresh) (regions_differ c list o))
    (both (is_among r view) (list_all (λ x. is_among x view) (regions list)) seen viewed) in
    omega (arith, all, few)
