-- What a tick sends again.
use Rattle.std.proofs.Common.{◌≡◌, ℕ, sym, ap, ◌∙◌, refl}
use Rattle.std.specs.Prelude.{Bool, true, false, ◌||◌, cond, fold, find, not, List, [], ◌∷◌, map, filter, Option, Some, None, unwrap_or, slice_index_or, if◌then◌else◌}
use Rattle.std.specs.List.{flat_map}
use Rattle.yard_model.specs.declared.packet.Body.TheVariants as body
use Rattle.yard_model.specs.declared.incarnation.Incarnation.{Incarnation}
use Rattle.yard_model.specs.Coordinator.{Coordinator, Moving, begin, begin_quitting, coordinator_after, hand_off, hand_off_again, host_again, homes_at, home_of, is_moving, registered, stamp, staying}
use Rattle.yard_model.specs.Move.{post}
use Rattle.yard_model.specs.Setting.{shards}
use Rattle.yard_model.specs.Turns.{where_some}
use Rattle.yard_model.specs.Words.{is_among, is_empty}
use Rattle.coordinator_actor.specs.Parts.{ask, first_homes, host_all, host_at, leaving_homes}
use Rattle.coordinator_actor.proofs.Same.{true_is_not_false}
use Rattle.coordinator_actor.proofs.MoveLaws.{Changes, of_if, hand_off_changes, all_change, asked_state}

again_changes : (st : Coordinator) (x : Moving) → Changes (hand_off_again st x)
again_changes st x =
    of_if (is_empty x.awaited) (hand_off st x) (ask x.shard (stamp st) x.awaited st) (hand_off_changes st x x.owner) (asked_state st.who (body.BeginHandOff x.shard (stamp st)) x.awaited)

pub again_state : (st now : Coordinator) → fold coordinator_after now (flat_map (hand_off_again st) st.moving) ≡ now
again_state st now = all_change (hand_off_again st) (again_changes st) st.moving now

host_changes : (st : Coordinator) (s : ℕ) (o : Option Incarnation) → Changes (where_some (host_at st s) o)
host_changes st s None now = refl
host_changes st s (Some h) now =
    of_if (is_moving st s || slice_index_or st.started s false) [] (post st.who h (body.HostShard s (stamp st)) ∷ []) (λ k. refl) (λ k. refl) now

pub hosted_state : (st now : Coordinator) → fold coordinator_after now (host_all st) ≡ now
hosted_state st now = all_change (host_again st) (λ s. host_changes st s (home_of st s)) (shards st.set) now

-- the next region that may leave
pub first_more : (st : Coordinator) (r : Incarnation) (rs : List Incarnation) (ss : List ℕ) → ss ≡ leaving_homes st r → first_homes st (r ∷ rs) ≡ (if is_empty ss then first_homes st rs else ss)
first_more st r rs ss e = step (is_among r st.quitting) ∙ ap (λ (l : List ℕ). if is_empty l then first_homes st rs else l) (sym e)
  where
    some : (hs : List ℕ) → unwrap_or (find (λ ss. not (is_empty ss)) (hs ∷ map (homes_at st) (filter (λ r. is_among r st.quitting) rs))) [] ≡ (if is_empty hs then first_homes st rs else hs)
    some [] = refl
    some (h ∷ hs) = refl

    step : (b : Bool) → unwrap_or (find (λ ss. not (is_empty ss)) (map (homes_at st) (cond b (r ∷ filter (λ r. is_among r st.quitting) rs) (filter (λ r. is_among r st.quitting) rs)))) []
        ≡ (if is_empty (if b then homes_at st r else []) then first_homes st rs else (if b then homes_at st r else []))
    step true = some (homes_at st r)
    step false = refl

-- nobody leaves
none_leaves : (qs rs : List Incarnation) → is_empty qs ≡ true → filter (λ r. is_among r qs) rs ≡ []
none_leaves [] [] e = refl
none_leaves [] (r ∷ rs) e = none_leaves [] rs e
none_leaves (q ∷ qs) rs e = absurd (true_is_not_false (sym e))

pub none_quits : (st : Coordinator) → is_empty st.quitting ≡ true → begin_quitting st ≡ []
none_quits st e = by (is_empty (staying st))
  where
    by : (b : Bool) → (if b then [] else begin (unwrap_or (find (λ ss. not (is_empty ss)) (map (homes_at st) (filter (λ r. is_among r st.quitting) (registered st)))) []) st) ≡ []
    by true = refl
    by false = ap (λ (rs : List Incarnation). begin (unwrap_or (find (λ ss. not (is_empty ss)) (map (homes_at st) rs)) []) st) (none_leaves st.quitting (registered st) e)
