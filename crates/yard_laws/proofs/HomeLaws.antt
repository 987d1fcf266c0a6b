-- The coordinator's rules.
use Rattle.std.proofs.Common.{◌≡◌, ◌<◌, ℕ, ◌+◌, ap, refl}
use Rattle.std.specs.Prelude.{Bool, true, false, ◌&&◌, ◌||◌, not, nat_lt, List, [], ◌∷◌, ◌++◌, length, map, filter, find, fold, is_none, unwrap_or, if◌then◌else◌, slice_index_or}
use Rattle.std.specs.List.{list_all, flat_map}
use Rattle.yard_model.specs.declared.fact.Fact.TheVariants as fact
use Rattle.yard_model.specs.declared.packet.Body.TheVariants as body
use Rattle.yard_model.specs.declared.incarnation.Incarnation.{Incarnation}
use Rattle.yard_model.specs.declared.incarnation.Stamp.{Stamp}
use Rattle.yard_model.specs.declared.incarnation.Slot.TheVariants as slot
use Rattle.yard_model.specs.Script.{Script}
use Rattle.yard_model.specs.Setting.{shards}
use Rattle.yard_model.specs.Words.{is_at, is_among, is_empty, without}
use Rattle.yard_model.specs.Genuine.{is_node, is_shard}
use Rattle.yard_model.specs.Lawful.{own, is_held, may_follow}
use Rattle.yard_model.specs.SlotReads.{regions, allocation}
use Rattle.yard_model.specs.Turns.{where_some}
use Rattle.yard_model.specs.Move.{Move, quits, started, acknowledged, told, post}
use Rattle.yard_model.specs.Coordinator as coordinator
use Rattle.yard_model.specs.Coordinator.{Coordinator, Moving, Share, coordinator_after, coordinator_step}
use Rattle.yard_model.proofs.FollowLaws.{own_more}
use Rattle.plain_laws.proofs.Booleans.{and_both, both, all_filter, is_below}
use Rattle.plain_laws.proofs.Members.{each_among}
use Rattle.yard_laws.specs.Free.{is_free_move}
use Rattle.yard_laws.specs.Homes.{CoordinatorIsFree, IsCoordinatorHeld, CoordinatorKeepsHomes}
use Rattle.yard_laws.proofs.FreeLaws.{AreFree, join, either, of_some, of_each}

-- Rules that tell free facts alone.

posts_free : {X : Type 0} (f : X → Move) (xs : List X) → ((x : X) → is_free_move (f x) ≡ true) → AreFree (map f xs)
posts_free f [] h = refl
posts_free f (x ∷ xs) h = both (is_free_move (f x)) (list_all is_free_move (map f xs)) (h x) (posts_free f xs h)

begin_free : (ss : List ℕ) (st : Coordinator) → AreFree (coordinator.begin ss st)
begin_free ss st =
    let next : Stamp = coordinator.stamp_of st.entries (st.begun + 1) in
    of_each (λ s. told (fact.Moving s next) ∷ map (λ r. post st.who r (body.BeginHandOff s next)) (coordinator.registered st)) ss
    (λ s. posts_free (λ r. post st.who r (body.BeginHandOff s next)) (coordinator.registered st) (λ r. refl))

hand_off_free : (st : Coordinator) (x : Moving) → AreFree (coordinator.hand_off st x)
hand_off_free st x = of_some (λ o. post st.who o (body.HandOff x.shard (coordinator.stamp st)) ∷ []) x.owner (λ o. refl)

pub last_free : (r : Incarnation) (st : Coordinator) (x : Moving) → AreFree (coordinator.hand_off_if_last r st x)
last_free r st x = either (is_among r x.awaited && is_empty (without r x.awaited)) (coordinator.hand_off st x) [] (hand_off_free st x) refl

again_free : (st : Coordinator) (x : Moving) → AreFree (coordinator.hand_off_again st x)
again_free st x =
    let asks : List Move = map (λ r. post st.who r (body.BeginHandOff x.shard (coordinator.stamp st))) x.awaited in
    either (is_empty x.awaited) (coordinator.hand_off st x) asks (hand_off_free st x) (posts_free (λ r. post st.who r (body.BeginHandOff x.shard (coordinator.stamp st))) x.awaited (λ r. refl))

quitting_free : (st : Coordinator) → AreFree (coordinator.begin_quitting st)
quitting_free st =
    let ss : List ℕ = unwrap_or (find (λ ss. not (is_empty ss)) (map (coordinator.homes_at st) (filter (λ r. is_among r st.quitting) (coordinator.registered st)))) [] in
    either (is_empty (coordinator.staying st)) [] (coordinator.begin ss st) refl (begin_free ss st)

host_free : (st : Coordinator) (s : ℕ) → AreFree (coordinator.host_again st s)
host_free st s =
    let b : Bool = coordinator.is_moving st s || slice_index_or st.started s false in
    of_some (λ h. if b then [] else post st.who h (body.HostShard s (coordinator.stamp st)) ∷ []) (coordinator.home_of st s)
    (λ h. either b [] (post st.who h (body.HostShard s (coordinator.stamp st)) ∷ []) refl refl)

tick_free : (st : Coordinator) → AreFree (coordinator.tick_coordinator st)
tick_free st =
    let first : List Move = if is_empty st.moving then coordinator.begin_quitting st else flat_map (coordinator.hand_off_again st) st.moving in
    let later : Coordinator = fold coordinator_after st first in
    join first (flat_map (coordinator.host_again later) (shards later.set))
    (either (is_empty st.moving) (coordinator.begin_quitting st) (flat_map (coordinator.hand_off_again st) st.moving) (quitting_free st) (of_each (coordinator.hand_off_again st) st.moving (again_free st)))
    (of_each (coordinator.host_again later) (shards later.set) (host_free later))

rebalance_free : (limit : ℕ) (st : Coordinator) → AreFree (coordinator.rebalance limit st)
rebalance_free limit st =
    either (not (is_empty st.moving) || is_empty (coordinator.picked limit st)) (told fact.Nothing ∷ []) (coordinator.begin (coordinator.picked limit st) st) refl (begin_free (coordinator.picked limit st) st)

pub tell_free : (from : Incarnation) (s : ℕ) (st : Coordinator) → AreFree (coordinator.tell_home from s st)
tell_free from s st = of_some (λ h. post st.who from (body.ShardHome s h (coordinator.stamp st)) ∷ []) (coordinator.home_of st s) (λ h. refl)

quit_free : (from : Incarnation) (st : Coordinator) → AreFree (coordinator.quit from st)
quit_free from st =
    let later : Coordinator = coordinator_after st (quits from) in
    let b : Bool = is_empty later.moving && not (is_empty (coordinator.staying later)) in
    let then_begins : List Move = if b then coordinator.begin (coordinator.homes_at later from) later else [] in
    either (is_among from (coordinator.registered st)) (quits from ∷ then_begins) [] (either b (coordinator.begin (coordinator.homes_at later from) later) [] (begin_free (coordinator.homes_at later from) later) refl) refl

acknowledge_free : (from : Incarnation) (s : ℕ) (given : Stamp) (st : Coordinator) → AreFree (coordinator.acknowledge from s given st)
acknowledge_free from s given st =
    of_each (λ (x : Moving). if is_among from x.awaited then acknowledged s from ∷ coordinator.hand_off_if_last from st x else []) (coordinator.moving_at s given st)
    (λ x. either (is_among from x.awaited) (acknowledged s from ∷ coordinator.hand_off_if_last from st x) [] (last_free from st x) refl)

pub coordinator_is_free : CoordinatorIsFree
coordinator_is_free st = record {
  rebalances = λ limit. rebalance_free limit st;
  ticks = tick_free st;
  tells = λ from s. tell_free from s st;
  starts = λ from s. either (is_at from (coordinator.home_of st s)) (started s ∷ []) [] refl refl;
  quits = λ from. quit_free from st;
  acknowledges = λ from s stamp. acknowledge_free from s stamp st;
}

-- Registration.

register_follows : (c : Script) (st : Coordinator) (from : Incarnation) → is_held st.entries ≡ true → is_node c from ≡ true → is_among from (regions st.entries) ≡ false → length (regions st.entries) < 16
    → may_follow c slot.Coordinator st.entries (fact.Registered from) ≡ true
register_follows c st from held node new room =
    both (is_held st.entries) (is_node c from && not (is_among from (regions st.entries)) && nat_lt (length (regions st.entries)) 16) held
    (both (is_node c from && not (is_among from (regions st.entries))) (nat_lt (length (regions st.entries)) 16)
    (both (is_node c from) (not (is_among from (regions st.entries))) node (ap not new)) (is_below (length (regions st.entries)) 16 room))

registers : (c : Script) (st : Coordinator) (from : Incarnation) → IsCoordinatorHeld c st → is_node c from ≡ true → length (regions st.entries) < 16 → (viewed there : Bool) → is_among from (regions st.entries) ≡ there
    → own c slot.Coordinator (fold coordinator_step st.entries (if viewed then (if there then [] else told (fact.Registered from) ∷ []) ++ post st.who from body.RegisterAck ∷ [] else [])) ≡ true
registers c st from k node room false there e = k.own_is
registers c st from k node room true true e = k.own_is
registers c st from k node room true false e = own_more c slot.Coordinator st.entries (fact.Registered from) k.own_is (register_follows c st from k.held_is node e room)

-- Allocation.

-- what holds of all shares holds of the best
best_fold : (p : Share → Bool) (beats : Share → Share → Bool) (x : Share) (xs : List Share) → p x ≡ true → list_all p xs ≡ true → p (fold (λ best y. if beats y best then y else best) x xs) ≡ true
best_fold p beats x [] e f = e
best_fold p beats x (y ∷ ys) e f = best_fold p beats (if beats y x then y else x) ys (one (beats y x)) (and_both (p y) (list_all p ys) f).1
  where
    one : (b : Bool) → p (if b then y else x) ≡ true
    one true = (and_both (p y) (list_all p ys) f).0
    one false = e

shares_among : (st : Coordinator) (rs : List Incarnation) → list_all (λ r. is_among r (regions st.entries)) rs ≡ true
    → list_all (λ (x : Share). is_among x.region (regions st.entries)) (map (λ r. record { region = r; rest = coordinator.homes_at st r; count = length (coordinator.homes_at st r) }) rs) ≡ true
shares_among st [] e = refl
shares_among st (r ∷ rs) e =
    let m : (is_among r (regions st.entries) ≡ true) × (list_all (λ r. is_among r (regions st.entries)) rs ≡ true) = and_both (is_among r (regions st.entries)) (list_all (λ r. is_among r (regions st.entries)) rs) e in
    both (is_among r (regions st.entries)) (list_all (λ (x : Share). is_among x.region (regions st.entries)) (map (λ r. record { region = r; rest = coordinator.homes_at st r; count = length (coordinator.homes_at st r) }) rs)) m.0 (shares_among st rs m.1)

allocate_follows : (c : Script) (st : Coordinator) (s : ℕ) (r : Incarnation) → is_held st.entries ≡ true → is_shard c s ≡ true → is_among r (regions st.entries) ≡ true → is_none (allocation s st.entries) ≡ true
    → may_follow c slot.Coordinator st.entries (fact.Allocated s r) ≡ true
allocate_follows c st s r held shard there none =
    both (is_held st.entries) (is_shard c s && is_among r (regions st.entries) && is_none (allocation s st.entries)) held
    (both (is_shard c s && is_among r (regions st.entries)) (is_none (allocation s st.entries)) (both (is_shard c s) (is_among r (regions st.entries)) shard there) none)

allocates : (c : Script) (st : Coordinator) (s : ℕ) → IsCoordinatorHeld c st → is_shard c s ≡ true → is_none (allocation s st.entries) ≡ true
    → (xs : List Share) → list_all (λ (x : Share). is_among x.region (regions st.entries)) xs ≡ true
    → own c slot.Coordinator (fold coordinator_step st.entries (where_some (λ (x : Share). told (fact.Allocated s x.region) ∷ post st.who x.region (body.HostShard s (coordinator.stamp st)) ∷ []) (coordinator.smallest xs))) ≡ true
allocates c st s k shard none [] e = k.own_is
allocates c st s k shard none (x ∷ xs) e =
    let beats : Share → Share → Bool = λ y x. nat_lt y.count x.count in
    let best : Share = fold (λ best y. if beats y best then y else best) x xs in
    let m : (is_among x.region (regions st.entries) ≡ true) × (list_all (λ (x : Share). is_among x.region (regions st.entries)) xs ≡ true) = and_both (is_among x.region (regions st.entries)) (list_all (λ (x : Share). is_among x.region (regions st.entries)) xs) e in
    own_more c slot.Coordinator st.entries (fact.Allocated s best.region) k.own_is
    (allocate_follows c st s best.region k.held_is shard (best_fold (λ x. is_among x.region (regions st.entries)) beats x xs m.0 m.1) none)

pub coordinator_keeps_homes : CoordinatorKeepsHomes
coordinator_keeps_homes c st k = record {
  registers = λ from view node room. registers c st from k node room (is_among from view) (is_among from (regions st.entries)) refl;
  allocates = λ s shard none. allocates c st s k shard none (coordinator.shares st)
      (shares_among st (coordinator.staying st) (all_filter (λ r. is_among r (regions st.entries)) (λ r. not (is_among r st.quitting)) (coordinator.registered st) (each_among (regions st.entries))));
}
