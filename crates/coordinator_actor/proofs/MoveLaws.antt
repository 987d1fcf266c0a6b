-- Moves of the coordinator, one after the other.
use Rattle.std.proofs.Common.{◌≡◌, ℕ, ◌+◌, sym, ap, ◌∙◌, refl, length, length-append}
use Rattle.std.specs.Prelude.{Bool, true, false, ◌&&◌, not, cond, map, List, [], ◌∷◌, ◌++◌, filter, fold, Option, Some, None, if◌then◌else◌}
use Rattle.std.specs.List.{flat_map}
use Rattle.std.proofs.lemmas.List.{append_assoc}
use Rattle.std.proofs.lemmas.List.Sums.{fold-append}
use Rattle.std.proofs.lemmas.Grind.{flat_map-append}
use Rattle.yard_model.specs.declared.out.Item.{Item}
use Rattle.yard_model.specs.declared.fact.Fact.TheVariants as fact
use Rattle.yard_model.specs.declared.packet.Body.{Body}
use Rattle.yard_model.specs.declared.packet.Body.TheVariants as body
use Rattle.yard_model.specs.declared.incarnation.Incarnation.{Incarnation}
use Rattle.yard_model.specs.declared.incarnation.Stamp.{Stamp}
use Rattle.yard_model.specs.Coordinator.{Coordinator, Moving, coordinator_after, hand_off, hand_off_if_last, stamp, terminate, home_of, tell_home}
use Rattle.yard_model.specs.Move.{Move, told, post, item_of}
use Rattle.yard_model.specs.Turns.{for_each, in_turn, where_some}
use Rattle.yard_model.specs.Words.{is_at, is_among, is_empty, without}
use Rattle.handoff_steps.specs.declared.step.Step.{Step}
use Rattle.handoff_steps.specs.declared.step.Step.TheVariants as step
use Rattle.coordinator_actor.specs.Parts.{hand_off_without, step_posts, terminate_if_lost}

-- packets alone change nothing, wherever they stand
abbrev pub Changes : List Move → Type 0
Changes ms = (st : Coordinator) → fold coordinator_after st ms ≡ st

pub of_if : (b : Bool) (xs ys : List Move) → Changes xs → Changes ys → Changes (if b then xs else ys)
of_if true xs ys h k = h
of_if false xs ys h k = k

pub hand_off_changes : (st : Coordinator) (x : Moving) (o : Option Incarnation) → Changes (where_some (λ o. post st.who o (body.HandOff x.shard (stamp st)) ∷ []) o)
hand_off_changes st x None now = refl
hand_off_changes st x (Some o) now = refl

without_changes : (r : Incarnation) (st : Coordinator) (x : Moving) → Changes (hand_off_without r st x)
without_changes r st x =
    of_if (is_at r x.owner) [] (hand_off_if_last r st x) (λ now. refl)
    (of_if (is_among r x.awaited && is_empty (without r x.awaited)) (hand_off st x) [] (hand_off_changes st x x.owner) (λ now. refl))

pub all_change : {X : Type 0} (f : X → List Move) → ((x : X) → Changes (f x)) → (xs : List X) → Changes (flat_map f xs)
all_change f h [] now = refl
all_change f h (x ∷ xs) now = fold-append coordinator_after now (f x) (flat_map f xs) ∙ (ap (λ st. fold coordinator_after st (flat_map f xs)) (h x now) ∙ all_change f h xs now)

-- of the moves as a region is terminated the first alone changes the state
pub terminated_state : (r : Incarnation) (st : Coordinator) → fold coordinator_after st (terminate r st) ≡ coordinator_after st (told (fact.Terminated r))
terminated_state r st = all_change (hand_off_without r st) (without_changes r st) st.moving (coordinator_after st (told (fact.Terminated r)))

-- what is left to do, with these regions still to be looked at
abbrev pub rest_of : List Incarnation → List Incarnation → Coordinator → List Move
rest_of view rs st = for_each coordinator_after terminate (filter (λ r. not (is_among r view)) rs) st

pub rest_more : (view rs : List Incarnation) (r : Incarnation) (st : Coordinator)
    → rest_of view (r ∷ rs) st ≡ terminate_if_lost view r st ++ rest_of view rs (fold coordinator_after st (terminate_if_lost view r st))
rest_more view rs r st = step (is_among r view)
  where
    step : (b : Bool) → for_each coordinator_after terminate (cond (not b) (r ∷ filter (λ r. not (is_among r view)) rs) (filter (λ r. not (is_among r view)) rs)) st
        ≡ (if b then [] else terminate r st) ++ rest_of view rs (fold coordinator_after st (if b then [] else terminate r st))
    step true = refl
    step false = refl

-- the next of them
pub rest_items : (view rs : List Incarnation) (r : Incarnation) (st next : Coordinator) (old new all : List Item) → next ≡ fold coordinator_after st (terminate_if_lost view r st) → new ≡ old ++ flat_map item_of (terminate_if_lost view r st)
    → old ++ flat_map item_of (rest_of view (r ∷ rs) st) ≡ all → new ++ flat_map item_of (rest_of view rs next) ≡ all
rest_items view rs r st next old new all is made inv =
    let one : List Move = terminate_if_lost view r st in
    let later : Coordinator = fold coordinator_after st one in
    ap (λ s. new ++ flat_map item_of (rest_of view rs s)) is
    ∙ (ap (λ (l : List Item). l ++ flat_map item_of (rest_of view rs later)) made
    ∙ (append_assoc old (flat_map item_of one) (flat_map item_of (rest_of view rs later))
    ∙ (ap (λ (l : List Item). old ++ l) (sym (flat_map-append item_of one (rest_of view rs later)))
    ∙ (ap (λ (ms : List Move). old ++ flat_map item_of ms) (sym (rest_more view rs r st)) ∙ inv))))

pub rest_state : (view rs : List Incarnation) (r : Incarnation) (st next all : Coordinator) → next ≡ fold coordinator_after st (terminate_if_lost view r st)
    → fold coordinator_after st (rest_of view (r ∷ rs) st) ≡ all → fold coordinator_after next (rest_of view rs next) ≡ all
rest_state view rs r st next all is inv =
    let one : List Move = terminate_if_lost view r st in
    let later : Coordinator = fold coordinator_after st one in
    ap (λ s. fold coordinator_after s (rest_of view rs s)) is
    ∙ (sym (fold-append coordinator_after st one (rest_of view rs later))
    ∙ (ap (λ (ms : List Move). fold coordinator_after st ms) (sym (rest_more view rs r st)) ∙ inv))

pub rest_length : (view rs : List Incarnation) (r : Incarnation) (st next : Coordinator) → next ≡ fold coordinator_after st (terminate_if_lost view r st)
    → length (flat_map item_of (rest_of view (r ∷ rs) st)) ≡ length (flat_map item_of (terminate_if_lost view r st)) + length (flat_map item_of (rest_of view rs next))
rest_length view rs r st next is =
    let one : List Move = terminate_if_lost view r st in
    let later : Coordinator = fold coordinator_after st one in
    ap (λ (ms : List Move). length (flat_map item_of ms)) (rest_more view rs r st)
    ∙ (ap (λ (l : List Item). length l) (flat_map-append item_of one (rest_of view rs later))
    ∙ (length-append (flat_map item_of one) (flat_map item_of (rest_of view rs later))
    ∙ ap (λ s. length (flat_map item_of one) + length (flat_map item_of (rest_of view rs s))) (sym is)))

-- What is told of a home, and posted after a step.

tell_changes : (from : Incarnation) (s : ℕ) (st : Coordinator) (o : Option Incarnation) → Changes (where_some (λ h. post st.who from (body.ShardHome s h (stamp st)) ∷ []) o)
tell_changes from s st None now = refl
tell_changes from s st (Some h) now = refl

pub told_state : (from : Incarnation) (s : ℕ) (st : Coordinator) → fold coordinator_after st (tell_home from s st) ≡ st
told_state from s st = tell_changes from s st (home_of st s) st

pub step_changes : (who : Incarnation) (given : Stamp) (s : ℕ) (x : Step) → Changes (step_posts who given s x)
step_changes who given s (step.HandOff o) st = refl
step_changes who given s x st = refl

-- one rule after another
pub turn_length : (p q : Coordinator → List Move) (st next : Coordinator) → next ≡ fold coordinator_after st (p st)
    → length (flat_map item_of (in_turn coordinator_after p q st)) ≡ length (flat_map item_of (p st)) + length (flat_map item_of (q next))
turn_length p q st next is =
    ap (λ (l : List Item). length l) (flat_map-append item_of (p st) (q (fold coordinator_after st (p st))))
    ∙ (length-append (flat_map item_of (p st)) (flat_map item_of (q (fold coordinator_after st (p st))))
    ∙ ap (λ k. length (flat_map item_of (p st)) + length (flat_map item_of (q k))) (sym is))

pub turn_items : (p q : Coordinator → List Move) (st next : Coordinator) (old mid new : List Item) → next ≡ fold coordinator_after st (p st) → mid ≡ old ++ flat_map item_of (p st) → new ≡ mid ++ flat_map item_of (q next)
    → new ≡ old ++ flat_map item_of (in_turn coordinator_after p q st)
turn_items p q st next old mid new is first last =
    last
    ∙ (ap (λ (l : List Item). l ++ flat_map item_of (q next)) first
    ∙ (append_assoc old (flat_map item_of (p st)) (flat_map item_of (q next))
    ∙ (ap (λ k. old ++ (flat_map item_of (p st) ++ flat_map item_of (q k))) is
    ∙ ap (λ (l : List Item). old ++ l) (sym (flat_map-append item_of (p st) (q (fold coordinator_after st (p st))))))))

pub turn_state : (p q : Coordinator → List Move) (st next last : Coordinator) → next ≡ fold coordinator_after st (p st) → last ≡ fold coordinator_after next (q next) → last ≡ fold coordinator_after st (in_turn coordinator_after p q st)
turn_state p q st next last is ends = ends ∙ (ap (λ k. fold coordinator_after k (q k)) is ∙ sym (fold-append coordinator_after st (p st) (q (fold coordinator_after st (p st)))))

-- the same packet to each of these
pub asked_state : (who : Incarnation) (b : Body) (rs : List Incarnation) (now : Coordinator) → fold coordinator_after now (map (λ r. post who r b) rs) ≡ now
asked_state who b [] now = refl
asked_state who b (r ∷ rs) now = asked_state who b rs now
