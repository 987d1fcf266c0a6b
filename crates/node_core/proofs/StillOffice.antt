-- The moves of the coordinator are still: they write of its slot alone, and name regions that are registered.
use Rattle.std.proofs.Common.{◌≡◌, ℕ, List, [], ◌∷◌, ◌++◌, map, ap, sym, ◌∙◌, refl, true, false}
use Rattle.std.specs.Prelude.{Bool, ◌&&◌, ◌||◌, ◌+◌, not, fold, filter, length, find, unwrap_or, slice_index_or, nat_lt, Some, is_none, if◌then◌else◌}
use Rattle.std.specs.List.{list_all, list_any, flat_map}
use Rattle.std.proofs.lemmas.List.Sums.{fold-append}
use Rattle.yard_model.specs.declared.fact.Fact.{Fact}
use Rattle.yard_model.specs.declared.fact.Fact.TheVariants as fact
use Rattle.yard_model.specs.declared.incarnation.Incarnation.{Incarnation}
use Rattle.yard_model.specs.declared.incarnation.Slot.{Slot}
use Rattle.yard_model.specs.declared.incarnation.Slot.TheVariants as slot
use Rattle.yard_model.specs.declared.incarnation.Stamp.{Stamp}
use Rattle.yard_model.specs.declared.packet.Body.{Body}
use Rattle.yard_model.specs.declared.packet.Body.TheVariants as body
use Rattle.yard_model.specs.Coordinator.{Coordinator, Moving, Share, coordinator_after, stamp_of, stamp, registered, home_of, homes_at, staying, is_moving, shares, best, picked, allocate, begin, hand_off, hand_off_if_last, terminate, terminate_lost, rebalance, hand_off_again, begin_quitting, host_again, tick_coordinator, register_from, tell_home, get_home, shard_started, quit, moving_at, acknowledge, shard_stopped, coordinate}
use Rattle.yard_model.specs.Move.{Move, made, took, quits, started, acknowledged, told, post}
use Rattle.yard_model.specs.Node.{Node, after, by_coordinator}
use Rattle.yard_model.specs.Script.{Script}
use Rattle.yard_model.specs.Setting.{shards}
use Rattle.yard_model.specs.SlotReads.{regions, regions_step}
use Rattle.yard_model.specs.Turns.{where_some, for_each}
use Rattle.yard_model.specs.Words.{is_same, is_at, is_among, is_empty, without}
use Rattle.plain_laws.proofs.Booleans.{true_is_not_false, and_both, both, all_of, all_filter}
use Rattle.plain_laws.proofs.Lists.{all_join, all_if, all_some, all_each}
use Rattle.actor_laws.proofs.CoordinatorMoves.{all_of_map}
use Rattle.shard_lease.specs.Meaning.{Meaning, is_taken}
use Rattle.node_core.specs.Found.{asks}
use Rattle.node_core.specs.Still.{is_still_move}

abbrev pub is_within : Meaning → Incarnation → Bool
is_within m r = m.within r.number

abbrev is_office_move : Meaning → Script → Move → Bool
is_office_move m c = is_still_move m c (asks slot.Coordinator)

-- Which regions are registered.

grown_within : (m : Meaning) (old : List Incarnation) (list : List Fact) → list_all (is_within m) old ≡ true → list_all (is_taken m slot.Coordinator) list ≡ true → list_all (is_within m) (fold regions_step old list) ≡ true
grown_within m old [] h t = h
grown_within m old (fact.Registered r ∷ fs) h t =
    let parts : (m.within r.number ≡ true) × (list_all (is_taken m slot.Coordinator) fs ≡ true) = and_both (m.within r.number) (list_all (is_taken m slot.Coordinator) fs) t in
    grown_within m (old ++ r ∷ []) fs (all_join (is_within m) old (r ∷ []) h (both (m.within r.number) true parts.0 refl)) parts.1
grown_within m old (fact.Terminated r ∷ fs) h t = grown_within m (without r old) fs (all_filter (is_within m) (λ y. not (is_same r y)) old h) (and_both (m.within r.number) (list_all (is_taken m slot.Coordinator) fs) t).1
grown_within m old (f ∷ fs) h t = grown_within m old fs h (and_both (is_taken m slot.Coordinator f) (list_all (is_taken m slot.Coordinator) fs) t).1

-- the registered regions of a list that is in hand have numbers within the limit
pub regions_within : (m : Meaning) (list : List Fact) → list_all (is_taken m slot.Coordinator) list ≡ true → list_all (λ r. m.within r.number) (regions list) ≡ true
regions_within m list t = grown_within m [] list refl t

-- Allocation.

-- what is made of each of a list
pub all_posts : {X : Type 0} (p : Move → Bool) (f : X → Move) → ((x : X) → p (f x) ≡ true) → (xs : List X) → list_all p (map f xs) ≡ true
all_posts p f h xs = all_of_map p f xs (all_of (λ x. p (f x)) h xs)

better : (m : Meaning) (beats : Share → Share → Bool) (x : Share) (xs : List Share) → is_within m x.region ≡ true → list_all (λ y. is_within m y.region) xs ≡ true
    → is_within m (fold (λ best y. if beats y best then y else best) x xs).region ≡ true
better m beats x [] h all = h
better m beats x (y ∷ ys) h all =
    let parts : (is_within m y.region ≡ true) × (list_all (λ (z : Share). is_within m z.region) ys ≡ true) = and_both (is_within m y.region) (list_all (λ z. is_within m z.region) ys) all in
    better m beats (if beats y x then y else x) ys (by (beats y x) parts.0) parts.1
  where
    by : (b : Bool) → is_within m y.region ≡ true → is_within m (if b then y else x).region ≡ true
    by true k = k
    by false k = h

all_best : (m : Meaning) (p : Move → Bool) (f : Share → List Move) (beats : Share → Share → Bool) → ((x : Share) → is_within m x.region ≡ true → list_all p (f x) ≡ true)
    → (xs : List Share) → list_all (λ y. is_within m y.region) xs ≡ true → list_all p (where_some f (best beats xs)) ≡ true
all_best m p f beats h [] all = refl
all_best m p f beats h (x ∷ xs) all =
    let parts : (is_within m x.region ≡ true) × (list_all (λ (z : Share). is_within m z.region) xs ≡ true) = and_both (is_within m x.region) (list_all (λ z. is_within m z.region) xs) all in
    h (fold (λ best y. if beats y best then y else best) x xs) (better m beats x xs parts.0 parts.1)

allocate_still : (c : Script) (m : Meaning) (s : ℕ) (st : Coordinator) → list_all (is_within m) (registered st) ≡ true → list_all (is_office_move m c) (allocate s st) ≡ true
allocate_still c m s st h =
    all_best m (is_office_move m c) (λ x. told (fact.Allocated s x.region) ∷ post st.who x.region (body.HostShard s (stamp st)) ∷ []) (λ y x. nat_lt y.count x.count)
    (λ x k. both (m.within x.region.number && true) true (both (m.within x.region.number) true k refl) refl) (shares st)
    (all_of_map (λ y. is_within m y.region) (λ r. record { region = r; rest = homes_at st r; count = length (homes_at st r) }) (staying st)
    (all_filter (is_within m) (λ r. not (is_among r st.quitting)) (registered st) h))

-- Rounds.

begin_still : (c : Script) (m : Meaning) (ss : List ℕ) (st : Coordinator) → list_all (is_office_move m c) (begin ss st) ≡ true
begin_still c m ss st = all_each (is_office_move m c) (λ s. told (fact.Moving s (stamp_of st.entries (st.begun + 1))) ∷ map (λ r. post st.who r (body.BeginHandOff s (stamp_of st.entries (st.begun + 1)))) (registered st)) ss
    (λ s. all_posts (is_office_move m c) (λ r. post st.who r (body.BeginHandOff s (stamp_of st.entries (st.begun + 1)))) (λ r. refl) (registered st))

hand_off_still : (c : Script) (m : Meaning) (st : Coordinator) (x : Moving) → list_all (is_office_move m c) (hand_off st x) ≡ true
hand_off_still c m st x = all_some (is_office_move m c) (λ o. post st.who o (body.HandOff x.shard (stamp st)) ∷ []) x.owner (λ o. refl)

last_still : (c : Script) (m : Meaning) (r : Incarnation) (st : Coordinator) (x : Moving) → list_all (is_office_move m c) (hand_off_if_last r st x) ≡ true
last_still c m r st x = all_if (is_office_move m c) (is_among r x.awaited && is_empty (without r x.awaited)) (hand_off st x) [] (hand_off_still c m st x) refl

terminate_still : (c : Script) (m : Meaning) (r : Incarnation) (st : Coordinator) → m.within r.number ≡ true → list_all (is_office_move m c) (terminate r st) ≡ true
terminate_still c m r st h =
    both (m.within r.number && true) (list_all (is_office_move m c) (flat_map (λ x. if is_at r x.owner then [] else hand_off_if_last r st x) st.moving)) (both (m.within r.number) true h refl)
    (all_each (is_office_move m c) (λ x. if is_at r x.owner then [] else hand_off_if_last r st x) st.moving (λ x. all_if (is_office_move m c) (is_at r x.owner) [] (hand_off_if_last r st x) refl (last_still c m r st x)))

each_still : (c : Script) (m : Meaning) (rs : List Incarnation) (st : Coordinator) → list_all (is_within m) rs ≡ true → list_all (is_office_move m c) (for_each coordinator_after terminate rs st) ≡ true
each_still c m [] st h = refl
each_still c m (r ∷ rs) st h =
    let parts : (m.within r.number ≡ true) × (list_all (is_within m) rs ≡ true) = and_both (m.within r.number) (list_all (is_within m) rs) h in
    all_join (is_office_move m c) (terminate r st) (for_each coordinator_after terminate rs (fold coordinator_after st (terminate r st))) (terminate_still c m r st parts.0) (each_still c m rs (fold coordinator_after st (terminate r st)) parts.1)

-- regions that aren't in the view are terminated
pub lost_still : (c : Script) (m : Meaning) (view : List Incarnation) (st : Coordinator) → list_all (λ r. m.within r.number) (registered st) ≡ true → list_all (is_still_move m c (asks slot.Coordinator)) (terminate_lost view st) ≡ true
lost_still c m view st h = each_still c m (filter (λ r. not (is_among r view)) (registered st)) st (all_filter (is_within m) (λ r. not (is_among r view)) (registered st) h)

pub rebalance_still : (c : Script) (m : Meaning) (limit : ℕ) (st : Coordinator) → list_all (is_still_move m c (asks slot.Coordinator)) (rebalance limit st) ≡ true
rebalance_still c m limit st = all_if (is_office_move m c) (not (is_empty st.moving) || is_empty (picked limit st)) (told fact.Nothing ∷ []) (begin (picked limit st) st) refl (begin_still c m (picked limit st) st)

-- The tick.

again_still : (c : Script) (m : Meaning) (st : Coordinator) (x : Moving) → list_all (is_office_move m c) (hand_off_again st x) ≡ true
again_still c m st x = all_if (is_office_move m c) (is_empty x.awaited) (hand_off st x) (map (λ r. post st.who r (body.BeginHandOff x.shard (stamp st))) x.awaited)
    (hand_off_still c m st x) (all_posts (is_office_move m c) (λ r. post st.who r (body.BeginHandOff x.shard (stamp st))) (λ r. refl) x.awaited)

quitting_still : (c : Script) (m : Meaning) (st : Coordinator) → list_all (is_office_move m c) (begin_quitting st) ≡ true
quitting_still c m st =
    let ss : List ℕ = unwrap_or (find (λ ss. not (is_empty ss)) (map (homes_at st) (filter (λ r. is_among r st.quitting) (registered st)))) [] in
    all_if (is_office_move m c) (is_empty (staying st)) [] (begin ss st) refl (begin_still c m ss st)

host_still : (c : Script) (m : Meaning) (st : Coordinator) (s : ℕ) → list_all (is_office_move m c) (host_again st s) ≡ true
host_still c m st s = all_some (is_office_move m c) (λ h. if is_moving st s || slice_index_or st.started s false then [] else post st.who h (body.HostShard s (stamp st)) ∷ []) (home_of st s)
    (λ h. all_if (is_office_move m c) (is_moving st s || slice_index_or st.started s false) [] (post st.who h (body.HostShard s (stamp st)) ∷ []) refl refl)

pub office_tick_still : (c : Script) (m : Meaning) (st : Coordinator) → list_all (is_still_move m c (asks slot.Coordinator)) (tick_coordinator st) ≡ true
office_tick_still c m st =
    let first : List Move = if is_empty st.moving then begin_quitting st else flat_map (hand_off_again st) st.moving in
    let later : Coordinator = fold coordinator_after st first in
    all_join (is_office_move m c) first (flat_map (host_again later) (shards later.set))
    (all_if (is_office_move m c) (is_empty st.moving) (begin_quitting st) (flat_map (hand_off_again st) st.moving) (quitting_still c m st) (all_each (is_office_move m c) (hand_off_again st) st.moving (again_still c m st)))
    (all_each (is_office_move m c) (host_again later) (shards later.set) (host_still c m later))

-- Packets.

register_still : (c : Script) (m : Meaning) (from : Incarnation) (view : List Incarnation) (st : Coordinator) → m.within from.number ≡ true → list_all (is_office_move m c) (register_from from view st) ≡ true
register_still c m from view st h =
    let new : List Move = if is_among from (registered st) then [] else told (fact.Registered from) ∷ [] in
    all_if (is_office_move m c) (is_among from view) (new ++ post st.who from body.RegisterAck ∷ []) []
    (all_join (is_office_move m c) new (post st.who from body.RegisterAck ∷ [])
    (all_if (is_office_move m c) (is_among from (registered st)) [] (told (fact.Registered from) ∷ []) refl (both (m.within from.number && true) true (both (m.within from.number) true h refl) refl)) refl)
    refl

home_still : (c : Script) (m : Meaning) (from : Incarnation) (s : ℕ) (st : Coordinator) → list_all (is_office_move m c) (tell_home from s st) ≡ true
home_still c m from s st = all_some (is_office_move m c) (λ h. post st.who from (body.ShardHome s h (stamp st)) ∷ []) (home_of st s) (λ h. refl)

get_still : (c : Script) (m : Meaning) (from : Incarnation) (s : ℕ) (st : Coordinator) → list_all (is_within m) (registered st) ≡ true → list_all (is_office_move m c) (get_home from s st) ≡ true
get_still c m from s st h =
    let first : List Move = if is_none (home_of st s) then allocate s st else [] in
    all_if (is_office_move m c) (is_among from (registered st) && not (is_moving st s)) (first ++ tell_home from s (fold coordinator_after st first)) []
    (all_join (is_office_move m c) first (tell_home from s (fold coordinator_after st first))
    (all_if (is_office_move m c) (is_none (home_of st s)) (allocate s st) [] (allocate_still c m s st h) refl) (home_still c m from s (fold coordinator_after st first)))
    refl

started_still : (c : Script) (m : Meaning) (from : Incarnation) (s : ℕ) (st : Coordinator) → list_all (is_office_move m c) (shard_started from s st) ≡ true
started_still c m from s st = all_if (is_office_move m c) (is_at from (home_of st s)) (started s ∷ []) [] refl refl

quit_still : (c : Script) (m : Meaning) (from : Incarnation) (st : Coordinator) → list_all (is_office_move m c) (quit from st) ≡ true
quit_still c m from st =
    let later : Coordinator = coordinator_after st (quits from) in
    let rest : List Move = if is_empty later.moving && not (is_empty (staying later)) then begin (homes_at later from) later else [] in
    all_if (is_office_move m c) (is_among from (registered st)) (quits from ∷ rest) []
    (all_if (is_office_move m c) (is_empty later.moving && not (is_empty (staying later))) (begin (homes_at later from) later) [] (begin_still c m (homes_at later from) later) refl)
    refl

acknowledge_still : (c : Script) (m : Meaning) (from : Incarnation) (s : ℕ) (given : Stamp) (st : Coordinator) → list_all (is_office_move m c) (acknowledge from s given st) ≡ true
acknowledge_still c m from s given st = all_each (is_office_move m c) (λ x. if is_among from x.awaited then acknowledged s from ∷ hand_off_if_last from st x else []) (moving_at s given st)
    (λ x. all_if (is_office_move m c) (is_among from x.awaited) (acknowledged s from ∷ hand_off_if_last from st x) [] (last_still c m from st x) refl)

stopped_still : (c : Script) (m : Meaning) (from : Incarnation) (s : ℕ) (given : Stamp) (st : Coordinator) → list_all (is_within m) (registered st) ≡ true → list_all (is_office_move m c) (shard_stopped from s given st) ≡ true
stopped_still c m from s given st h =
    let later : Coordinator = coordinator_after st (told (fact.Deallocated s)) in
    all_if (is_office_move m c) (list_any (λ x. is_empty x.awaited && is_at from x.owner) (moving_at s given st)) (told (fact.Deallocated s) ∷ allocate s later) []
    (allocate_still c m s later (ap (list_all (is_within m)) (fold-append regions_step [] st.entries (fact.Deallocated s ∷ [])) ∙ h))
    refl

-- the packets for the coordinator, from one whose number is within the limit
pub coordinate_still : (c : Script) (m : Meaning) (from : Incarnation) (b : Body) (view : List Incarnation) (st : Coordinator) → m.within from.number ≡ true → list_all (λ r. m.within r.number) (registered st) ≡ true → list_all (is_still_move m c (asks slot.Coordinator)) (coordinate from b view st) ≡ true
coordinate_still c m from body.Register view st w h = register_still c m from view st w
coordinate_still c m from (body.GetShardHome s) view st w h = get_still c m from s st h
coordinate_still c m from (body.ShardStarted s) view st w h = started_still c m from s st
coordinate_still c m from body.GracefulShutdownReq view st w h = quit_still c m from st
coordinate_still c m from (body.BeginHandOffAck s given) view st w h = acknowledge_still c m from s given st
coordinate_still c m from (body.ShardStopped s given) view st w h = stopped_still c m from s given st h
coordinate_still c m from b view st w h = refl

-- The node after still moves of its coordinator.

pub office_moved : (c : Script) (m : Meaning) (may : Slot → Bool) (st : Node) (k : Coordinator) (ms : List Move) → list_all (is_still_move m c may) ms ≡ true
    → fold after (record st { coordinator = Some k }) (map by_coordinator ms) ≡ record st { coordinator = Some (fold coordinator_after k ms) }
office_moved c m may st k [] h = refl
office_moved c m may st k (took s list ∷ ms) h = absurd (true_is_not_false (sym h))
office_moved c m may st k (made i ∷ ms) h = office_moved c m may st (coordinator_after k (made i)) ms (and_both (is_still_move m c may (made i)) (list_all (is_still_move m c may) ms) h).1
office_moved c m may st k (x ∷ ms) h = office_moved c m may st (coordinator_after k x) ms h
