-- How many items a rule of the coordinator gives at most.
use Rattle.std.proofs.Common.{◌≡◌, ℕ, ◌+◌, ◌*◌, ◌-◌, ◌≤◌, List, [], ◌∷◌, ◌++◌, length, ap, refl, arith}
use Rattle.std.specs.Prelude.{Bool, true, false, ◌==◌, ◌&&◌, ◌||◌, not, nat_le, cond, map, filter, find, fold, Some, is_none, unwrap_or, slice_index_or, if◌then◌else◌}
use Rattle.std.specs.List.{flat_map, list_any, list_all}
use Rattle.yard_model.specs.declared.fact.Fact.TheVariants as fact
use Rattle.yard_model.specs.declared.incarnation.Incarnation.{Incarnation}
use Rattle.yard_model.specs.declared.incarnation.Stamp.{Stamp}
use Rattle.yard_model.specs.declared.packet.Body.{Body}
use Rattle.yard_model.specs.declared.packet.Body.TheVariants as body
use Rattle.yard_model.specs.Coordinator as coordinator
use Rattle.yard_model.specs.Coordinator.{Coordinator, Moving, Share, coordinator_after, registered, homes_at}
use Rattle.yard_model.specs.Entities.{entries}
use Rattle.yard_model.specs.Move.{Move, told, post, acknowledged, quits, started, item_of}
use Rattle.yard_model.specs.Script.{Setting, setting}
use Rattle.yard_model.specs.Setting.{shards}
use Rattle.yard_model.specs.Words.{is_at, is_among, is_empty, is_stamp, without}
use Rattle.plain_laws.proofs.Booleans.{and_both, at_most}
use Rattle.room_laws.proofs.Gives.{Gives, more, if_gives, some_gives, both_give, each_gives, map_gives, filter_few, length_numbers}

-- some of the shards
some_shards : (p : ℕ → Bool) (set : Setting) → set.config.shards ≤ 128 → length (filter p (shards set)) ≤ 128
some_shards p set few = omega (arith, filter_few p (shards set), length_numbers 0 set.config.shards, few)

-- no move changes the setting
same_set : (st : Coordinator) (moves : List Move) → (fold coordinator_after st moves).set ≡ st.set
same_set st [] = refl
same_set st (m ∷ ms) = same_set (coordinator_after st m) ms

-- for each shard a fact, and a packet to each region
begin_one : (next : Stamp) (st : Coordinator) → length (registered st) ≤ 16 → (s : ℕ) → Gives 17 (told (fact.Moving s next) ∷ map (λ r. post st.who r (body.BeginHandOff s next)) (registered st))
begin_one next st regions s =
    let posts : List Move = map (λ r. post st.who r (body.BeginHandOff s next)) (registered st) in
    let k : Gives (length (registered st)) posts = map_gives (λ r. post st.who r (body.BeginHandOff s next)) (registered st) in
    both_give 1 16 (told (fact.Moving s next) ∷ []) posts (omega arith) (more (length (registered st)) 16 posts regions k)

pub begin_room : (ss : List ℕ) (st : Coordinator) → length (registered st) ≤ 16 → length (flat_map item_of (coordinator.begin ss st)) ≤ length ss * 17
begin_room ss st regions =
    let next : Stamp = coordinator.stamp_of st.entries (st.begun + 1) in
    each_gives 17 (λ s. told (fact.Moving s next) ∷ map (λ r. post st.who r (body.BeginHandOff s next)) (registered st)) (begin_one next st regions) ss

begin_few : (ss : List ℕ) (st : Coordinator) → length (registered st) ≤ 16 → length ss ≤ 128 → Gives 2176 (coordinator.begin ss st)
begin_few ss st regions few = let k : Gives (length ss * 17) (coordinator.begin ss st) = begin_room ss st regions in omega (arith, k, few)

hand_off_gives : (st : Coordinator) (x : Moving) → Gives 1 (coordinator.hand_off st x)
hand_off_gives st x = some_gives 1 (λ o. post st.who o (body.HandOff x.shard (coordinator.stamp st)) ∷ []) (λ o. omega arith) x.owner

last_gives : (r : Incarnation) (st : Coordinator) (x : Moving) → Gives 1 (coordinator.hand_off_if_last r st x)
last_gives r st x = if_gives 1 (coordinator.hand_off st x) [] (hand_off_gives st x) (omega arith) (is_among r x.awaited && is_empty (without r x.awaited))

register_gives : (from : Incarnation) (view : List Incarnation) (st : Coordinator) → Gives 2 (coordinator.register_from from view st)
register_gives from view st = by_cases (is_among from view) (is_among from (registered st))
  where
    by_cases : (a b : Bool) → Gives 2 (if a then (if b then [] else told (fact.Registered from) ∷ []) ++ post st.who from body.RegisterAck ∷ [] else [])
    by_cases true true = omega arith
    by_cases true false = omega arith
    by_cases false b = omega arith

allocate_gives : (s : ℕ) (st : Coordinator) → Gives 2 (coordinator.allocate s st)
allocate_gives s st = some_gives 2 (λ (x : Share). told (fact.Allocated s x.region) ∷ post st.who x.region (body.HostShard s (coordinator.stamp st)) ∷ []) (λ x. omega arith) (coordinator.smallest (coordinator.shares st))

tell_gives : (from : Incarnation) (s : ℕ) (st : Coordinator) → Gives 1 (coordinator.tell_home from s st)
tell_gives from s st = some_gives 1 (λ h. post st.who from (body.ShardHome s h (coordinator.stamp st)) ∷ []) (λ h. omega arith) (coordinator.home_of st s)

pub get_room : (from : Incarnation) (s : ℕ) (st : Coordinator) → length (flat_map item_of (coordinator.get_home from s st)) ≤ 3
get_room from s st =
    let first : List Move = if is_none (coordinator.home_of st s) then coordinator.allocate s st else [] in
    let last : List Move = coordinator.tell_home from s (fold coordinator_after st first) in
    let one : Gives 2 first = if_gives 2 (coordinator.allocate s st) [] (allocate_gives s st) (omega arith) (is_none (coordinator.home_of st s)) in
    if_gives 3 (first ++ last) [] (both_give 2 1 first last one (tell_gives from s (fold coordinator_after st first))) (omega arith) (is_among from (registered st) && not (coordinator.is_moving st s))

pub quit_room : (from : Incarnation) (st : Coordinator) → length (registered st) ≤ 16 → st.set.config.shards ≤ 128 → length (flat_map item_of (coordinator.quit from st)) ≤ 2176
quit_room from st regions few =
    let now : Coordinator = coordinator_after st (quits from) in
    let last : List Move = if is_empty now.moving && not (is_empty (coordinator.staying now)) then coordinator.begin (homes_at now from) now else [] in
    let begins : Gives 2176 (coordinator.begin (homes_at now from) now) = begin_few (homes_at now from) now regions (some_shards (λ s. is_at from (coordinator.home_of now s)) st.set few) in
    let k : Gives 2176 last = if_gives 2176 (coordinator.begin (homes_at now from) now) [] begins (omega arith) (is_empty now.moving && not (is_empty (coordinator.staying now))) in
    if_gives 2176 (quits from ∷ last) [] k (omega arith) (is_among from (registered st))

moving_few : (s : ℕ) (given : Stamp) (st : Coordinator) → length (coordinator.moving_at s given st) ≤ length st.moving
moving_few s given st = by (is_stamp given (coordinator.stamp st))
  where
    by : (b : Bool) → length (if b then filter (λ x. x.shard == s) st.moving else []) ≤ length st.moving
    by true = filter_few (λ x. x.shard == s) st.moving
    by false = omega arith

pub acknowledge_room : (from : Incarnation) (s : ℕ) (given : Stamp) (st : Coordinator) → length (flat_map item_of (coordinator.acknowledge from s given st)) ≤ length st.moving
acknowledge_room from s given st =
    let p : Moving → List Move = λ x. if is_among from x.awaited then acknowledged s from ∷ coordinator.hand_off_if_last from st x else [] in
    let xs : List Moving = coordinator.moving_at s given st in
    let k : Gives (length xs * 1) (flat_map p xs) = each_gives 1 p (λ x. if_gives 1 (acknowledged s from ∷ coordinator.hand_off_if_last from st x) [] (last_gives from st x) (omega arith) (is_among from x.awaited)) xs in
    omega (arith, k, moving_few s given st)

pub stopped_room : (from : Incarnation) (s : ℕ) (given : Stamp) (st : Coordinator) → length (flat_map item_of (coordinator.shard_stopped from s given st)) ≤ 3
stopped_room from s given st =
    let now : Coordinator = coordinator_after st (told (fact.Deallocated s)) in
    if_gives 3 (told (fact.Deallocated s) ∷ coordinator.allocate s now) [] (both_give 1 2 (told (fact.Deallocated s) ∷ []) (coordinator.allocate s now) (omega arith) (allocate_gives s now)) (omega arith)
    (list_any (λ x. is_empty x.awaited && is_at from x.owner) (coordinator.moving_at s given st))

-- a packet
pub coordinate_room : (from : Incarnation) (b : Body) (view : List Incarnation) (st : Coordinator) → length (registered st) ≤ 16 → length st.moving ≤ 128 → st.set.config.shards ≤ 128
    → length (flat_map item_of (coordinator.coordinate from b view st)) ≤ 2176
coordinate_room from body.Register view st regions moving few = more 2 2176 (coordinator.register_from from view st) (omega arith) (register_gives from view st)
coordinate_room from (body.GetShardHome s) view st regions moving few = more 3 2176 (coordinator.get_home from s st) (omega arith) (get_room from s st)
coordinate_room from (body.ShardStarted s) view st regions moving few = if_gives 2176 (started s ∷ []) [] (omega arith) (omega arith) (is_at from (coordinator.home_of st s))
coordinate_room from body.GracefulShutdownReq view st regions moving few = quit_room from st regions few
coordinate_room from (body.BeginHandOffAck s given) view st regions moving few = let k : Gives (length st.moving) (coordinator.acknowledge from s given st) = acknowledge_room from s given st in omega (arith, k, moving)
coordinate_room from (body.ShardStopped s given) view st regions moving few = more 3 2176 (coordinator.shard_stopped from s given st) (omega arith) (stopped_room from s given st)
coordinate_room from b view st regions moving few = omega arith

pub rebalance_room : (limit : ℕ) (st : Coordinator) → length (registered st) ≤ 16 → st.set.config.shards ≤ 128 → length (flat_map item_of (coordinator.rebalance limit st)) ≤ 2176
rebalance_room limit st regions few =
    let ps : List ℕ = coordinator.picks limit (coordinator.shares st) in
    if_gives 2176 (told fact.Nothing ∷ []) (coordinator.begin (coordinator.picked limit st) st) (omega arith)
    (begin_few (coordinator.picked limit st) st regions (some_shards (λ s. list_any (λ p. p == s) ps) st.set few))
    (not (is_empty st.moving) || is_empty (coordinator.picked limit st))

found_few : (st : Coordinator) → st.set.config.shards ≤ 128 → (rs : List Incarnation) → length (unwrap_or (find (λ ss. not (is_empty ss)) (map (homes_at st) rs)) []) ≤ 128
found_few st few [] = omega arith
found_few st few (r ∷ rs) = by (not (is_empty (homes_at st r))) (found_few st few rs)
  where
    by : (b : Bool) → length (unwrap_or (find (λ ss. not (is_empty ss)) (map (homes_at st) rs)) []) ≤ 128 → length (unwrap_or (cond b (Some (homes_at st r)) (find (λ ss. not (is_empty ss)) (map (homes_at st) rs))) []) ≤ 128
    by true rest = some_shards (λ s. is_at r (coordinator.home_of st s)) st.set few
    by false rest = rest

again_gives : (st : Coordinator) (x : Moving) → length x.awaited ≤ 16 → Gives 16 (coordinator.hand_off_again st x)
again_gives st x few =
    let p : Incarnation → Move = λ r. post st.who r (body.BeginHandOff x.shard (coordinator.stamp st)) in
    if_gives 16 (coordinator.hand_off st x) (map p x.awaited) (more 1 16 (coordinator.hand_off st x) (omega arith) (hand_off_gives st x))
    (more (length x.awaited) 16 (map p x.awaited) few (map_gives p x.awaited)) (is_empty x.awaited)

-- no shard of the round awaits more than 16 regions
abbrev pub are_awaiting_few : List Moving → Bool
are_awaiting_few xs = list_all (λ (x : Moving). nat_le (length x.awaited) 16) xs

all_again : (st : Coordinator) (xs : List Moving) → are_awaiting_few xs ≡ true → Gives (length xs * 16) (flat_map (coordinator.hand_off_again st) xs)
all_again st [] e = omega arith
all_again st (x ∷ xs) e =
    let m : (nat_le (length x.awaited) 16 ≡ true) × (are_awaiting_few xs ≡ true) = and_both (nat_le (length x.awaited) 16) (are_awaiting_few xs) e in
    let k : Gives (16 + length xs * 16) (coordinator.hand_off_again st x ++ flat_map (coordinator.hand_off_again st) xs) =
    both_give 16 (length xs * 16) (coordinator.hand_off_again st x) (flat_map (coordinator.hand_off_again st) xs) (again_gives st x (at_most (length x.awaited) 16 m.0)) (all_again st xs m.1) in
    omega (arith, k)

pub begin_quitting_room : (st : Coordinator) → length (registered st) ≤ 16 → st.set.config.shards ≤ 128 → length (flat_map item_of (coordinator.begin_quitting st)) ≤ 2176
begin_quitting_room st regions few =
    let ss : List ℕ = unwrap_or (find (λ ss. not (is_empty ss)) (map (homes_at st) (filter (λ r. is_among r st.quitting) (registered st)))) [] in
    if_gives 2176 [] (coordinator.begin ss st) (omega arith) (begin_few ss st regions (found_few st few (filter (λ r. is_among r st.quitting) (registered st)))) (is_empty (coordinator.staying st))

host_gives : (st : Coordinator) (s : ℕ) → Gives 1 (coordinator.host_again st s)
host_gives st s =
    let p : Incarnation → List Move = λ h. if coordinator.is_moving st s || slice_index_or st.started s false then [] else post st.who h (body.HostShard s (coordinator.stamp st)) ∷ [] in
    some_gives 1 p (λ h. if_gives 1 [] (post st.who h (body.HostShard s (coordinator.stamp st)) ∷ []) (omega arith) (omega arith) (coordinator.is_moving st s || slice_index_or st.started s false)) (coordinator.home_of st s)

host_all_gives : (st : Coordinator) → Gives st.set.config.shards (flat_map (coordinator.host_again st) (shards st.set))
host_all_gives st =
    let k : Gives (length (shards st.set) * 1) (flat_map (coordinator.host_again st) (shards st.set)) = each_gives 1 (coordinator.host_again st) (host_gives st) (shards st.set) in
    let e : length (shards st.set) ≡ st.set.config.shards = length_numbers 0 st.set.config.shards in
    omega (arith, k, e)

pub tick_coordinator_room : (st : Coordinator) → length (registered st) ≤ 16 → length st.moving ≤ 128 → are_awaiting_few st.moving ≡ true → st.set.config.shards ≤ 128
    → length (flat_map item_of (coordinator.tick_coordinator st)) ≤ 2304
tick_coordinator_room st regions moving awaited few =
    let first : List Move = if is_empty st.moving then coordinator.begin_quitting st else flat_map (coordinator.hand_off_again st) st.moving in
    let now : Coordinator = fold coordinator_after st first in
    let last : List Move = flat_map (coordinator.host_again now) (shards now.set) in
    let again : Gives (length st.moving * 16) (flat_map (coordinator.hand_off_again st) st.moving) = all_again st st.moving awaited in
    let again_few : Gives 2176 (flat_map (coordinator.hand_off_again st) st.moving) = omega (arith, again, moving) in
    let one : Gives 2176 first = if_gives 2176 (coordinator.begin_quitting st) (flat_map (coordinator.hand_off_again st) st.moving) (begin_quitting_room st regions few) again_few (is_empty st.moving) in
    let set : now.set.config.shards ≡ st.set.config.shards = ap (λ (v : Setting). v.config.shards) (same_set st first) in
    let all : Gives now.set.config.shards last = host_all_gives now in
    let two : Gives 128 last = omega (arith, all, set, few) in
    both_give 2176 128 first last one two
