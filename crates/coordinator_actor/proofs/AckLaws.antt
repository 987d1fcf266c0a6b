-- Words of regions on a shard of the round: what the round answers, and the rules.
use Rattle.std.proofs.Common.{◌≡◌, ℕ, sym, subst, ap, ◌∙◌, refl, append-nil}
use Rattle.std.specs.Prelude.{Bool, true, false, ◌==◌, ◌&&◌, ◌||◌, not, fold, List, [], ◌∷◌, ◌++◌, map, is_some, Option, Some, None, option_map, if◌then◌else◌}
use Rattle.std.specs.List.{All, flat_map, list_any}
use Rattle.yard_model.specs.declared.fact.Fact.{Fact}
use Rattle.yard_model.specs.declared.incarnation.Incarnation.{Incarnation}
use Rattle.yard_model.specs.declared.incarnation.Stamp.{Stamp}
use Rattle.yard_model.specs.declared.packet.Body.TheVariants as body
use Rattle.yard_model.specs.Coordinator.{Coordinator, Moving, coordinator_after, not_awaited, acknowledge, hand_off_again, hand_off_if_last, stamp}
use Rattle.yard_model.specs.Move.{Move, acknowledged, post, item_of}
use Rattle.yard_model.specs.Script.{Script}
use Rattle.yard_model.specs.SlotReads.{allocation}
use Rattle.yard_model.specs.Words.{is_at, is_among, is_same, is_empty, is_stamp, without}
use Rattle.handoff_steps.specs.Places.{Handoff, Handoffs, one_of, place_at, is_open, is_awaiting, is_stopping, awaited_in, acknowledged_by, next_step, takes_ack, takes_stop, with_place, moving}
use Rattle.handoff_steps.specs.declared.step.Step.{Step}
use Rattle.handoff_steps.specs.declared.step.Step.TheVariants as step
use Rattle.coordinator_actor.specs.Parts.{at_shard, go_on_at, is_stopped_by, step_posts}
use Rattle.coordinator_actor.proofs.HeldLaws.{acknowledged_held, any_of, stopping_home}
use Rattle.coordinator_actor.proofs.MoveLaws.{step_changes}
use Rattle.coordinator_actor.proofs.RoundLaws.{with_moving}
use Rattle.coordinator_actor.proofs.Same.{and_both, true_is_not_false}
use Rattle.coordinator_actor.specs.Held.{IsAtHome, IsHeld}

-- of one place of the round
ack_one : (from : Incarnation) (s : ℕ) (st : Coordinator) (a : Bool) (p : Option Handoff)
    → flat_map (λ (x : Moving). if is_among from x.awaited then acknowledged s from ∷ hand_off_if_last from st x else []) (if a then one_of s p else [])
    ≡ (if a && is_awaiting from p then acknowledged s from ∷ step_posts st.who (stamp st) s (next_step (acknowledged_by from p)) else [])
ack_one from s st false p = refl
ack_one from s st true None = refl
ack_one from s st true (Some h) = by_done h.done
  where
    by_two : (b e : Bool) → (if b then acknowledged s from ∷ (if b && e then post st.who h.owner (body.HandOff s (stamp st)) ∷ [] else []) else []) ++ []
        ≡ (if b then acknowledged s from ∷ step_posts st.who (stamp st) s (if e then step.HandOff h.owner else step.Wait) else [])
    by_two true true = refl
    by_two true false = refl
    by_two false e = refl

    by_done : (d : Bool)
        → flat_map (λ (x : Moving). if is_among from x.awaited then acknowledged s from ∷ hand_off_if_last from st x else []) (one_of s (Some (record { owner = h.owner; awaited = h.awaited; done = d })))
        ≡ (if is_awaiting from (Some (record { owner = h.owner; awaited = h.awaited; done = d })) then acknowledged s from ∷ step_posts st.who (stamp st) s (next_step (acknowledged_by from (Some (record { owner = h.owner; awaited = h.awaited; done = d })))) else [])
    by_done true = refl
    by_done false = by_two (is_among from h.awaited) (is_empty (without from h.awaited))

-- the rule, by what the round takes
pub ack_is : (from : Incarnation) (s : ℕ) (given : Stamp) (st : Coordinator) (v : Handoffs) → v.stamp ≡ stamp st → st.moving ≡ moving v → at_shard s (moving v) ≡ one_of s (place_at v s)
    → acknowledge from s given st ≡ (if takes_ack v s given from then acknowledged s from ∷ step_posts st.who (stamp st) s (next_step (acknowledged_by from (place_at v s))) else [])
ack_is from s given st v same are found =
    let f : Moving → List Move = λ (x : Moving). if is_among from x.awaited then acknowledged s from ∷ hand_off_if_last from st x else [] in
    ap (λ t. flat_map f (if is_stamp given t then at_shard s st.moving else [])) (sym same)
    ∙ (ap (λ (l : List Moving). flat_map f (if is_stamp given v.stamp then l else [])) (ap (at_shard s) are ∙ found)
    ∙ ack_one from s st (is_stamp given v.stamp) (place_at v s))

stop_one : (from : Incarnation) (s : ℕ) (a : Bool) (p : Option Handoff) → list_any (λ (x : Moving). is_empty x.awaited && is_at from x.owner) (if a then one_of s p else []) ≡ (a && is_stopping from p)
stop_one from s false p = refl
stop_one from s true None = refl
stop_one from s true (Some h) = by_done h.done
  where
    or_none : (b : Bool) → (b || false) ≡ b
    or_none true = refl
    or_none false = refl

    by_done : (d : Bool) → list_any (λ (x : Moving). is_empty x.awaited && is_at from x.owner) (if d then [] else record { shard = s; owner = Some h.owner; awaited = h.awaited } ∷ []) ≡ (not d && (is_empty h.awaited && is_same from h.owner))
    by_done true = refl
    by_done false = or_none (is_empty h.awaited && is_same from h.owner)

pub stop_is : (from : Incarnation) (s : ℕ) (given : Stamp) (st : Coordinator) (v : Handoffs) → v.stamp ≡ stamp st → st.moving ≡ moving v → at_shard s (moving v) ≡ one_of s (place_at v s)
    → is_stopped_by from s given st ≡ takes_stop v s given from
stop_is from s given st v same are found =
    let f : Moving → Bool = λ (x : Moving). is_empty x.awaited && is_at from x.owner in
    ap (λ t. list_any f (if is_stamp given t then at_shard s st.moving else [])) (sym same)
    ∙ (ap (λ (l : List Moving). list_any f (if is_stamp given v.stamp then l else [])) (ap (at_shard s) are ∙ found)
    ∙ stop_one from s (is_stamp given v.stamp) (place_at v s))

-- what is sent again of a place that is open
pub again_one : (s : ℕ) (st : Coordinator) (p : Option Handoff) → is_open p ≡ true → flat_map (hand_off_again st) (one_of s p) ≡ go_on_at s (awaited_in p) (option_map (λ h. h.owner) p) st
again_one s st None e = absurd (true_is_not_false (sym e))
again_one s st (Some h) e = by_done h.done e
  where
    by_done : (d : Bool) → not d ≡ true → flat_map (hand_off_again st) (if d then [] else record { shard = s; owner = Some h.owner; awaited = h.awaited } ∷ []) ≡ go_on_at s h.awaited (Some h.owner) st
    by_done true f = absurd (true_is_not_false (sym f))
    by_done false f = append-nil (go_on_at s h.awaited (Some h.owner) st)

pub again_none : (s : ℕ) (st : Coordinator) (p : Option Handoff) → is_open p ≡ false → flat_map (hand_off_again st) (one_of s p) ≡ []
again_none s st None e = refl
again_none s st (Some h) e = by_done h.done e
  where
    by_done : (d : Bool) → not d ≡ false → flat_map (hand_off_again st) (if d then [] else record { shard = s; owner = Some h.owner; awaited = h.awaited } ∷ []) ≡ []
    by_done true f = refl
    by_done false f = absurd (true_is_not_false f)

-- What becomes of the round and of the state.

pub ack_stamp : (v new : Handoffs) (s : ℕ) (given : Stamp) (from : Incarnation) → (takes_ack v s given from ≡ false → new ≡ v) → (takes_ack v s given from ≡ true → new ≡ with_place v s (acknowledged_by from (place_at v s))) → new.stamp ≡ v.stamp
ack_stamp v new s given from stays goes = by_taken (takes_ack v s given from) refl
  where
    by_taken : (b : Bool) → takes_ack v s given from ≡ b → new.stamp ≡ v.stamp
    by_taken true e = ap (λ w. w.stamp) (goes e)
    by_taken false e = ap (λ w. w.stamp) (stays e)

pub ack_moving : (v new : Handoffs) (s : ℕ) (given : Stamp) (from : Incarnation) → (takes_ack v s given from ≡ false → new ≡ v) → (takes_ack v s given from ≡ true → moving new ≡ map (λ x. if x.shard == s then not_awaited from x else x) (moving v))
    → moving new ≡ (if takes_ack v s given from then map (λ x. if x.shard == s then not_awaited from x else x) (moving v) else moving v)
ack_moving v new s given from stays goes = by_taken (takes_ack v s given from) refl
  where
    by_taken : (b : Bool) → takes_ack v s given from ≡ b → moving new ≡ (if b then map (λ x. if x.shard == s then not_awaited from x else x) (moving v) else moving v)
    by_taken true e = goes e
    by_taken false e = ap moving (stays e)

pub ack_held : (c : Script) (who : Incarnation) (list : List Fact) (started : List Bool) (v new : Handoffs) (s : ℕ) (r : Incarnation) (b : Bool) → new.stamp ≡ v.stamp → moving new ≡ (if b then map (λ x. if x.shard == s then not_awaited r x else x) (moving v) else moving v)
    → IsHeld c who list started (moving v) v.stamp → IsHeld c who list started (moving new) new.stamp
ack_held c who list started v new s r b same are k =
    subst (λ (t : Stamp). IsHeld c who list started (moving new) t) (sym same) (subst (λ (l : List Moving). IsHeld c who list started l v.stamp) (sym are) (by_taken b))
  where
    by_taken : (b : Bool) → IsHeld c who list started (if b then map (λ x. if x.shard == s then not_awaited r x else x) (moving v) else moving v) v.stamp
    by_taken true = acknowledged_held c who list started (moving v) v.stamp s r k
    by_taken false = k

pub ack_state : (from : Incarnation) (s : ℕ) (given : Stamp) (st : Coordinator) (v new : Handoffs) → v.stamp ≡ stamp st → st.moving ≡ moving v → at_shard s (moving v) ≡ one_of s (place_at v s)
    → new.stamp ≡ v.stamp → moving new ≡ (if takes_ack v s given from then map (λ x. if x.shard == s then not_awaited from x else x) (moving v) else moving v)
    → with_moving st (moving new) new.stamp.round ≡ fold coordinator_after st (acknowledge from s given st)
ack_state from s given st v new same are found still becomes =
    ap (λ n. with_moving st (moving new) n) (ap (λ (t : Stamp). t.round) (still ∙ same))
    ∙ (by_taken (takes_ack v s given from) becomes
    ∙ ap (λ (ms : List Move). fold coordinator_after st ms) (sym (ack_is from s given st v same are found)))
  where
    by_taken : (b : Bool) → moving new ≡ (if b then map (λ x. if x.shard == s then not_awaited from x else x) (moving v) else moving v)
        → with_moving st (moving new) st.begun ≡ fold coordinator_after st (if b then acknowledged s from ∷ step_posts st.who (stamp st) s (next_step (acknowledged_by from (place_at v s))) else [])
    by_taken true e = ap (λ (l : List Moving). with_moving st l st.begun) (e ∙ ap (λ (l : List Moving). map (λ x. if x.shard == s then not_awaited from x else x) l) (sym are))
        ∙ sym (step_changes st.who (stamp st) s (next_step (acknowledged_by from (place_at v s))) (coordinator_after st (acknowledged s from)))
    by_taken false e = ap (λ (l : List Moving). with_moving st l st.begun) (e ∙ sym are)

pub ack_posts : (from : Incarnation) (s : ℕ) (given : Stamp) (st : Coordinator) (v : Handoffs) (x : Step) → v.stamp ≡ stamp st → st.moving ≡ moving v → at_shard s (moving v) ≡ one_of s (place_at v s)
    → (takes_ack v s given from ≡ false → x ≡ step.Ignored given from) → (takes_ack v s given from ≡ true → x ≡ next_step (acknowledged_by from (place_at v s)))
    → flat_map item_of (acknowledge from s given st) ≡ flat_map item_of (step_posts st.who (stamp st) s x)
ack_posts from s given st v x same are found ignored answer =
    ap (λ (ms : List Move). flat_map item_of ms) (ack_is from s given st v same are found) ∙ by_taken (takes_ack v s given from) refl
  where
    by_taken : (b : Bool) → takes_ack v s given from ≡ b
        → flat_map item_of (if b then acknowledged s from ∷ step_posts st.who (stamp st) s (next_step (acknowledged_by from (place_at v s))) else []) ≡ flat_map item_of (step_posts st.who (stamp st) s x)
    by_taken true e = ap (λ (y : Step). flat_map item_of (step_posts st.who (stamp st) s y)) (sym (answer e))
    by_taken false e = ap (λ (y : Step). flat_map item_of (step_posts st.who (stamp st) s y)) (sym (ignored e))

abbrev is_done : Step → Bool
is_done step.Done = true
is_done x = false

pub done_taken : (b : Bool) (given : Stamp) (from : Incarnation) (x : Step) → (b ≡ false → x ≡ step.Ignored given from) → step.Done ≡ x → b ≡ true
done_taken true given from x ignored e = refl
done_taken false given from x ignored e = absurd (true_is_not_false (ap is_done (e ∙ ignored refl)))

pub not_done : (b : Bool) (x : Step) → (b ≡ true → x ≡ step.Done) → (x ≡ step.Done → ⊥) → b ≡ false
not_done true x answer no_done = absurd (no_done (answer refl))
not_done false x answer no_done = refl

-- a shard that its owner has stopped has a home
pub stopped_home : (list : List Fact) (s : ℕ) (given : Stamp) (from : Incarnation) (v : Handoffs) → All (IsAtHome list) (moving v) → at_shard s (moving v) ≡ one_of s (place_at v s) → takes_stop v s given from ≡ true → is_some (allocation s list) ≡ true
stopped_home list s given from v k found e =
    stopping_home list s from (moving v) k (any_of (λ x. is_empty x.awaited && is_at from x.owner) (λ x. x.shard == s) (moving v)
    ∙ (ap (λ (l : List Moving). list_any (λ (x : Moving). is_empty x.awaited && is_at from x.owner) l) found
    ∙ (stop_one from s true (place_at v s) ∙ (and_both (is_stamp given v.stamp) (is_stopping from (place_at v s)) e).1)))
