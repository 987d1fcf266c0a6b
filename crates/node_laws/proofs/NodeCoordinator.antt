-- A node whose coordinator moves: the node stands, and what it tells is guarded by what it has in hand.
use Rattle.std.proofs.Common.{◌≡◌, ◌<◌, ℕ, sym, ap, ◌∙◌, refl, subst}
use Rattle.std.specs.Prelude.{◌+◌, Bool, true, false, ◌&&◌, ◌||◌, not, List, [], ◌∷◌, ◌++◌, length, map, filter, find, fold, Option, Some, None, is_none, IfSome, unwrap_or, if◌then◌else◌, slice_index_or}
use Rattle.std.specs.List.{list_all, list_any, flat_map}
use Rattle.std.proofs.lemmas.List.Sums.{fold-append}
use Rattle.yard_model.specs.declared.fact.Fact.{Fact}
use Rattle.yard_model.specs.declared.fact.Fact.TheVariants as fact
use Rattle.yard_model.specs.declared.out.Item.TheVariants as item
use Rattle.yard_model.specs.declared.packet.Body.{Body}
use Rattle.yard_model.specs.declared.packet.Body.TheVariants as body
use Rattle.yard_model.specs.declared.incarnation.Incarnation.{Incarnation}
use Rattle.yard_model.specs.declared.incarnation.Stamp.{Stamp}
use Rattle.yard_model.specs.declared.incarnation.Slot.TheVariants as slot
use Rattle.yard_model.specs.Script.{setting, Script, Setting}
use Rattle.yard_model.specs.Setting.{shards}
use Rattle.yard_model.specs.Genuine.{is_node, is_genuine_body}
use Rattle.yard_model.specs.Lawful.{own, may_follow}
use Rattle.yard_model.specs.SlotReads.{holder, holder_step, regions}
use Rattle.yard_model.specs.Words.{is_same, is_at, is_among, is_empty, without}
use Rattle.yard_model.specs.Turns.{for_each, where_some}
use Rattle.yard_model.specs.Move.{Move, made, took, quits, started, acknowledged, told, post, item_of}
use Rattle.yard_model.specs.Coordinator as coordinator
use Rattle.yard_model.specs.Coordinator.{Coordinator, Moving, coordinator_after, coordinator_step}
use Rattle.yard_model.specs.Node.{Node, by_coordinator, after, items_of, of_coordinator, coordinator_by, coordinator_part}
use Rattle.plain_laws.proofs.Booleans.{true_is_not_false, and_both, both, of_not, all_of, all_map, all_where}
use Rattle.plain_laws.proofs.Members.{same_is, itself_is, each_among}
use Rattle.plain_laws.proofs.Lists.{all_join, all_if, all_some, all_each, all_each_of}
use Rattle.plain_laws.proofs.Read.{regions_more}
use Rattle.yard_laws.proofs.PartsLaws.{coordinator_alone, coordinator_items}
use Rattle.yard_laws.proofs.LostLaws.{entries_after}
use Rattle.actor_laws.specs.Owes.{Hand, facts_in, hand_after, guard_in_hand, guarded_in_hand, is_own_post}
use Rattle.actor_laws.proofs.Rules.{who_fold, may_of}
use Rattle.node_laws.proofs.NodeParts.{node_none}
use Rattle.actor_laws.specs.Held.{slot_told, is_grant, is_slot_held, held_in_hand}
use Rattle.actor_laws.specs.Moves.{is_own_move, facts_of}
use Rattle.actor_laws.specs.CoordinatorStands.{IsGoodCoordinator, is_coordinator_fact, entered, KeepsCoordinator, KeepsRules}
use Rattle.node_laws.specs.NodeStands.{is_own_fact, IsCoordinatorAt, IsSoundNode, NodeInHand}
use Rattle.node_laws.proofs.NodeKeeps.{NodeKeeps}
use Rattle.node_laws.proofs.Quiet.{is_quiet_body, is_quiet}
use Rattle.actor_laws.proofs.CoordinatorMoves.{all_of_map, all_picked}
use Rattle.actor_laws.proofs.CoordinatorLaws.{coordinator_keeps, coordinator_takes}
use Rattle.actor_laws.proofs.CoordinatorGuards.{all_entered_was}

-- A coordinator takes no slot.

abbrev pub is_no_took : Move → Bool
is_no_took (took s list) = false
is_no_took m = true

abbrev pub NoTook : List Move → Type 0
NoTook ms = list_all is_no_took ms ≡ true

-- and registers only regions of this view, brings no message on, and grants no slot
abbrev pub is_calm : List Incarnation → Move → Bool
is_calm v (took s list) = false
is_calm v (made (item.Fact (fact.Registered r))) = is_among r v
is_calm v (made (item.Fact (fact.Kept x m))) = false
is_calm v (made (item.Fact (fact.Stashed x m))) = false
is_calm v (made (item.Fact (fact.Wrote e r))) = false
is_calm v (made (item.Fact (fact.Granted s n x))) = false
is_calm v (made (item.Post p)) = is_quiet_body p.body
is_calm v m = true

abbrev pub Calm : List Incarnation → List Move → Type 0
Calm v ms = list_all (is_calm v) ms ≡ true

all_turns : {X : Type 0} (v : List Incarnation) (p : X → Coordinator → List Move) → ((x : X) (k : Coordinator) → Calm v (p x k)) → (xs : List X) (k : Coordinator) → Calm v (for_each coordinator_after p xs k)
all_turns v p h [] k = refl
all_turns v p h (x ∷ xs) k = all_join (is_calm v) (p x k) (for_each coordinator_after p xs (fold coordinator_after k (p x k))) (h x k) (all_turns v p h xs (fold coordinator_after k (p x k)))

posts_calm : (v : List Incarnation) (who : Incarnation) (b : Body) (rs : List Incarnation) → is_quiet_body b ≡ true → Calm v (map (λ r. post who r b) rs)
posts_calm v who b rs quiet = all_of_map (is_calm v) (λ r. post who r b) rs (all_of (λ r. (is_calm v) (post who r b)) (λ r. quiet) rs)

hand_off_calm : (v : List Incarnation) (k : Coordinator) (x : Moving) → Calm v (coordinator.hand_off k x)
hand_off_calm v k x = all_some (is_calm v) (λ o. post k.who o (body.HandOff x.shard (coordinator.stamp k)) ∷ []) x.owner (λ o. refl)

last_calm : (v : List Incarnation) (r : Incarnation) (k : Coordinator) (x : Moving) → Calm v (coordinator.hand_off_if_last r k x)
last_calm v r k x = all_if (is_calm v) (is_among r x.awaited && is_empty (without r x.awaited)) (coordinator.hand_off k x) [] (hand_off_calm v k x) refl

terminate_calm : (v : List Incarnation) (r : Incarnation) (k : Coordinator) → Calm v (coordinator.terminate r k)
terminate_calm v r k = all_each (is_calm v) (λ (x : Moving). if is_at r x.owner then [] else coordinator.hand_off_if_last r k x) k.moving (λ x. all_if (is_calm v) (is_at r x.owner) [] (coordinator.hand_off_if_last r k x) refl (last_calm v r k x))

pub terminate_lost_calm : (v : List Incarnation) (view : List Incarnation) (k : Coordinator) → Calm v (coordinator.terminate_lost view k)
terminate_lost_calm v view k = all_turns v coordinator.terminate (terminate_calm v) (filter (λ r. not (is_among r view)) (regions k.entries)) k

pub register_calm : (v : List Incarnation) (from : Incarnation) (k : Coordinator) → Calm v (coordinator.register_from from v k)
register_calm v from k = by (is_among from v) refl
  where
    answer : List Move
    answer = post k.who from body.RegisterAck ∷ []

    by : (b : Bool) → is_among from v ≡ b → Calm v (if b then (if is_among from (coordinator.registered k) then [] else told (fact.Registered from) ∷ []) ++ answer else [])
    by true seen = all_join (is_calm v) (if is_among from (coordinator.registered k) then [] else told (fact.Registered from) ∷ []) answer
        (all_if (is_calm v) (is_among from (coordinator.registered k)) [] (told (fact.Registered from) ∷ []) refl (both (is_among from v) true seen refl)) refl
    by false seen = refl

allocate_calm : (v : List Incarnation) (s : ℕ) (k : Coordinator) → Calm v (coordinator.allocate s k)
allocate_calm v s k = all_some (is_calm v) (λ (x : coordinator.Share). told (fact.Allocated s x.region) ∷ post k.who x.region (body.HostShard s (coordinator.stamp k)) ∷ []) (coordinator.smallest (coordinator.shares k)) (λ x. refl)

begin_calm : (v : List Incarnation) (ss : List ℕ) (k : Coordinator) → Calm v (coordinator.begin ss k)
begin_calm v ss k =
    let next : Stamp = coordinator.stamp_of k.entries (k.begun + 1) in
    all_each (is_calm v) (λ s. told (fact.Moving s next) ∷ map (λ r. post k.who r (body.BeginHandOff s next)) (coordinator.registered k)) ss (λ s. posts_calm v k.who (body.BeginHandOff s next) (coordinator.registered k) refl)

get_home_calm : (v : List Incarnation) (from : Incarnation) (s : ℕ) (k : Coordinator) → Calm v (coordinator.get_home from s k)
get_home_calm v from s k =
    let first : List Move = if is_none (coordinator.home_of k s) then coordinator.allocate s k else [] in
    let later : Coordinator = fold coordinator_after k first in
    let tells : List Move = coordinator.tell_home from s later in
    all_if (is_calm v) (is_among from (coordinator.registered k) && not (coordinator.is_moving k s)) (first ++ tells) []
    (all_join (is_calm v) first tells (all_if (is_calm v) (is_none (coordinator.home_of k s)) (coordinator.allocate s k) [] (allocate_calm v s k) refl)
    (all_some (is_calm v) (λ h. post later.who from (body.ShardHome s h (coordinator.stamp later)) ∷ []) (coordinator.home_of later s) (λ h. refl))) refl

started_calm : (v : List Incarnation) (from : Incarnation) (s : ℕ) (k : Coordinator) → Calm v (coordinator.shard_started from s k)
started_calm v from s k = all_if (is_calm v) (is_at from (coordinator.home_of k s)) (started s ∷ []) [] refl refl

quit_calm : (v : List Incarnation) (from : Incarnation) (k : Coordinator) → Calm v (coordinator.quit from k)
quit_calm v from k =
    let later : Coordinator = coordinator_after k (quits from) in
    let begins : List Move = coordinator.begin (coordinator.homes_at later from) later in
    let b : Bool = is_empty later.moving && not (is_empty (coordinator.staying later)) in
    all_if (is_calm v) (is_among from (coordinator.registered k)) (quits from ∷ (if b then begins else [])) [] (all_if (is_calm v) b begins [] (begin_calm v (coordinator.homes_at later from) later) refl) refl

acknowledge_calm : (v : List Incarnation) (from : Incarnation) (s : ℕ) (given : Stamp) (k : Coordinator) → Calm v (coordinator.acknowledge from s given k)
acknowledge_calm v from s given k =
    all_each (is_calm v) (λ (x : Moving). if is_among from x.awaited then acknowledged s from ∷ coordinator.hand_off_if_last from k x else []) (coordinator.moving_at s given k)
    (λ x. all_if (is_calm v) (is_among from x.awaited) (acknowledged s from ∷ coordinator.hand_off_if_last from k x) [] (last_calm v from k x) refl)

stopped_calm : (v : List Incarnation) (from : Incarnation) (s : ℕ) (given : Stamp) (k : Coordinator) → Calm v (coordinator.shard_stopped from s given k)
stopped_calm v from s given k =
    let later : Coordinator = coordinator_after k (told (fact.Deallocated s)) in
    all_if (is_calm v) (list_any (λ (x : Moving). is_empty x.awaited && is_at from x.owner) (coordinator.moving_at s given k)) (told (fact.Deallocated s) ∷ coordinator.allocate s later) [] (allocate_calm v s later) refl

pub coordinate_calm : (v : List Incarnation) (from : Incarnation) (b : Body) (k : Coordinator) → Calm v (coordinator.coordinate from b v k)
coordinate_calm v from body.Register k = register_calm v from k
coordinate_calm v from (body.GetShardHome s) k = get_home_calm v from s k
coordinate_calm v from (body.ShardStarted s) k = started_calm v from s k
coordinate_calm v from body.GracefulShutdownReq k = quit_calm v from k
coordinate_calm v from (body.BeginHandOffAck s given) k = acknowledge_calm v from s given k
coordinate_calm v from (body.ShardStopped s given) k = stopped_calm v from s given k
coordinate_calm v from b k = refl

again_calm : (v : List Incarnation) (k : Coordinator) (x : Moving) → Calm v (coordinator.hand_off_again k x)
again_calm v k x =
    let b : Body = body.BeginHandOff x.shard (coordinator.stamp k) in
    all_if (is_calm v) (is_empty x.awaited) (coordinator.hand_off k x) (map (λ r. post k.who r b) x.awaited) (hand_off_calm v k x) (posts_calm v k.who b x.awaited refl)

begin_quitting_calm : (v : List Incarnation) (k : Coordinator) → Calm v (coordinator.begin_quitting k)
begin_quitting_calm v k =
    let ss : List ℕ = unwrap_or (find (λ ss. not (is_empty ss)) (map (coordinator.homes_at k) (filter (λ r. is_among r k.quitting) (coordinator.registered k)))) [] in
    all_if (is_calm v) (is_empty (coordinator.staying k)) [] (coordinator.begin ss k) refl (begin_calm v ss k)

host_calm : (v : List Incarnation) (k : Coordinator) (s : ℕ) → Calm v (coordinator.host_again k s)
host_calm v k s =
    let b : Bool = coordinator.is_moving k s || slice_index_or k.started s false in
    all_some (is_calm v) (λ h. if b then [] else post k.who h (body.HostShard s (coordinator.stamp k)) ∷ []) (coordinator.home_of k s) (λ h. all_if (is_calm v) b [] (post k.who h (body.HostShard s (coordinator.stamp k)) ∷ []) refl refl)

pub tick_calm : (v : List Incarnation) (k : Coordinator) → Calm v (coordinator.tick_coordinator k)
tick_calm v k =
    let first : List Move = if is_empty k.moving then coordinator.begin_quitting k else flat_map (coordinator.hand_off_again k) k.moving in
    let later : Coordinator = fold coordinator_after k first in
    all_join (is_calm v) first (flat_map (coordinator.host_again later) (shards later.set))
    (all_if (is_calm v) (is_empty k.moving) (coordinator.begin_quitting k) (flat_map (coordinator.hand_off_again k) k.moving) (begin_quitting_calm v k) (all_each (is_calm v) (coordinator.hand_off_again k) k.moving (again_calm v k)))
    (all_each (is_calm v) (coordinator.host_again later) (shards later.set) (host_calm v later))

pub rebalance_calm : (v : List Incarnation) (limit : ℕ) (k : Coordinator) → Calm v (coordinator.rebalance limit k)
rebalance_calm v limit k =
    all_if (is_calm v) (not (is_empty k.moving) || is_empty (coordinator.picked limit k)) (told fact.Nothing ∷ []) (coordinator.begin (coordinator.picked limit k) k) refl (begin_calm v (coordinator.picked limit k) k)

-- so it takes none
pub calm_takes_none : (v : List Incarnation) (ms : List Move) → Calm v ms → NoTook ms
calm_takes_none v ms h = all_map (is_calm v) is_no_took (one v) ms h
  where
    one : (v : List Incarnation) (m : Move) → is_calm v m ≡ true → is_no_took m ≡ true
    one v (took s list) h = h
    one v m h = refl

-- and it is quiet
pub calm_quiet : (v : List Incarnation) (ms : List Move) → Calm v ms → list_all is_quiet ms ≡ true
calm_quiet v ms h = all_map (is_calm v) is_quiet (one v) ms h
  where
    one : (v : List Incarnation) (m : Move) → is_calm v m ≡ true → is_quiet m ≡ true
    one v (made (item.Fact (fact.Kept x m))) h = absurd (true_is_not_false (sym h))
    one v (made (item.Fact (fact.Stashed x m))) h = absurd (true_is_not_false (sym h))
    one v (made (item.Fact (fact.Wrote e r))) h = absurd (true_is_not_false (sym h))
    one v (made (item.Fact f)) h = refl
    one v (made (item.Post p)) h = h
    one v m h = refl

-- So it stays the same coordinator.

one_stays : (set : Setting) (who : Incarnation) (k : Coordinator) (m : Move) → is_no_took m ≡ true → coordinator_by set who (Some k) m ≡ Some (coordinator_after k m)
one_stays set who k (took s list) h = absurd (true_is_not_false (sym h))
one_stays set who k m h = refl

pub coordinator_stays : (set : Setting) (who : Incarnation) (k : Coordinator) (ms : List Move) → NoTook ms → fold (coordinator_part set who) (Some k) (map by_coordinator ms) ≡ Some (fold coordinator_after k ms)
coordinator_stays set who k [] h = refl
coordinator_stays set who k (m ∷ ms) h =
    let n : (is_no_took m ≡ true) × (NoTook ms) = and_both (is_no_took m) (list_all is_no_took ms) h in
    ap (λ o. fold (coordinator_part set who) o (map by_coordinator ms)) (one_stays set who k m n.0) ∙ coordinator_stays set who (coordinator_after k m) ms n.1

-- What it tells is guarded, and changes its own list alone.

one_guarded : (c : Script) (v : List ℕ → ℕ → ℕ → Bool) (who : Incarnation) (h : Hand) (f : Fact) → is_coordinator_fact f ≡ true → own c slot.Coordinator (entered h.lists.coordinator f) ≡ true → guard_in_hand c v who h f ≡ true
one_guarded c v who h (fact.Registered r) e o = let f : Fact = fact.Registered r in both (may_follow c slot.Coordinator h.lists.coordinator f) true (may_of c h.lists.coordinator f refl o) refl
one_guarded c v who h (fact.Terminated r) e o = let f : Fact = fact.Terminated r in both (may_follow c slot.Coordinator h.lists.coordinator f) true (may_of c h.lists.coordinator f refl o) refl
one_guarded c v who h (fact.Allocated s r) e o = let f : Fact = fact.Allocated s r in both (may_follow c slot.Coordinator h.lists.coordinator f) true (may_of c h.lists.coordinator f refl o) refl
one_guarded c v who h (fact.Deallocated s) e o = let f : Fact = fact.Deallocated s in both (may_follow c slot.Coordinator h.lists.coordinator f) true (may_of c h.lists.coordinator f refl o) refl
one_guarded c v who h (fact.Moving s stamp) e o = refl
one_guarded c v who h fact.Nothing e o = refl
one_guarded c v who h f e o = absurd (true_is_not_false (sym e))

-- what is in hand with this list of the coordinator
abbrev pub with_coordinator : Hand → List Fact → Hand
with_coordinator h list = record { lists = record h.lists { coordinator = list }; live = h.live; version = h.version }

one_in_hand : (c : Script) (h : Hand) (f : Fact) → is_coordinator_fact f ≡ true → hand_after c h f ≡ with_coordinator h (entered h.lists.coordinator f)
one_in_hand c h (fact.Registered r) e = refl
one_in_hand c h (fact.Terminated r) e = refl
one_in_hand c h (fact.Allocated s r) e = refl
one_in_hand c h (fact.Deallocated s) e = refl
one_in_hand c h (fact.Moving s stamp) e = refl
one_in_hand c h fact.Nothing e = refl
one_in_hand c h f e = absurd (true_is_not_false (sym e))

pub coordinator_in_hand : (c : Script) (h : Hand) (fs : List Fact) → list_all is_coordinator_fact fs ≡ true → fold (hand_after c) h fs ≡ with_coordinator h (fold entered h.lists.coordinator fs)
coordinator_in_hand c h [] e = refl
coordinator_in_hand c h (f ∷ fs) e =
    let m : (is_coordinator_fact f ≡ true) × (list_all is_coordinator_fact fs ≡ true) = and_both (is_coordinator_fact f) (list_all is_coordinator_fact fs) e in
    ap (λ x. fold (hand_after c) x fs) (one_in_hand c h f m.0) ∙ coordinator_in_hand c (with_coordinator h (entered h.lists.coordinator f)) fs m.1

pub coordinator_guarded : (c : Script) (v : List ℕ → ℕ → ℕ → Bool) (who : Incarnation) (h : Hand) (fs : List Fact) → list_all is_coordinator_fact fs ≡ true → own c slot.Coordinator (fold entered h.lists.coordinator fs) ≡ true → guarded_in_hand c v who h fs ≡ true
coordinator_guarded c v who h [] e o = refl
coordinator_guarded c v who h (f ∷ fs) e o =
    let m : (is_coordinator_fact f ≡ true) × (list_all is_coordinator_fact fs ≡ true) = and_both (is_coordinator_fact f) (list_all is_coordinator_fact fs) e in
    both (guard_in_hand c v who h f) (guarded_in_hand c v who (hand_after c h f) fs)
    (one_guarded c v who h f m.0 (all_entered_was c (entered h.lists.coordinator f) fs o))
    (ap (λ x. guarded_in_hand c v who x fs) (one_in_hand c h f m.0) ∙ coordinator_guarded c v who (with_coordinator h (entered h.lists.coordinator f)) fs m.1 o)

-- The node.

coordinator_at : (c : Script) (st : Node) (k : Coordinator) → IsSoundNode c st → st.coordinator ≡ Some k → IsCoordinatorAt c st.who k
coordinator_at c st k s e = subst (λ (o : Option Coordinator). IfSome o (IsCoordinatorAt c st.who)) e s.coordinator

-- with another coordinator at its place
with_sound : (c : Script) (st : Node) (k : Coordinator) → IsSoundNode c st → IsCoordinatorAt c st.who k → IsSoundNode c (record st { coordinator = Some k })
with_sound c st k s at = record {
  who_is = s.who_is;
  set_is = s.set_is;
  region = s.region;
  region_who = s.region_who;
  different = s.different;
  entities = s.entities;
  entities_who = s.entities_who;
  producers_full = s.producers_full;
  producers = s.producers;
  coordinator = at;
}

with_in_hand : (c : Script) (h : Hand) (st : Node) (k : Coordinator) (list : List Fact) → NodeInHand c h st → list ≡ k.entries → NodeInHand c (with_coordinator h list) (record st { coordinator = Some k })
with_in_hand c h st k list i e = record {
  entities = record { there = i.entities.there; lists_are = i.entities.lists_are; version_is = i.entities.version_is; live_are = i.entities.live_are };
  queues_there = i.queues_there;
  producers = i.producers;
  coordinator = e;
}

-- moves that a coordinator keeps, a node keeps
-- its entries are of its slot, which stays held
held_on : (c : Script) (who : Incarnation) (h : Hand) (f : Fact) → is_coordinator_fact f ≡ true → holder h.lists.coordinator ≡ Some who → ((is_grant f || is_slot_held who h (slot_told (setting c) f)) ≡ true) × (holder (hand_after c h f).lists.coordinator ≡ Some who)
held_on c who h (fact.Registered r) e k = (ap (is_at who) k ∙ itself_is who who refl, fold-append holder_step None h.lists.coordinator (fact.Registered r ∷ []) ∙ k)
held_on c who h (fact.Terminated r) e k = (ap (is_at who) k ∙ itself_is who who refl, fold-append holder_step None h.lists.coordinator (fact.Terminated r ∷ []) ∙ k)
held_on c who h (fact.Allocated s r) e k = (ap (is_at who) k ∙ itself_is who who refl, fold-append holder_step None h.lists.coordinator (fact.Allocated s r ∷ []) ∙ k)
held_on c who h (fact.Deallocated s) e k = (ap (is_at who) k ∙ itself_is who who refl, fold-append holder_step None h.lists.coordinator (fact.Deallocated s ∷ []) ∙ k)
held_on c who h (fact.Moving s stamp) e k = (ap (is_at who) k ∙ itself_is who who refl, k)
held_on c who h fact.Nothing e k = (refl, k)
held_on c who h f e k = absurd (true_is_not_false (sym e))

coordinator_held : (c : Script) (who : Incarnation) (h : Hand) (fs : List Fact) → list_all is_coordinator_fact fs ≡ true → holder h.lists.coordinator ≡ Some who → held_in_hand c who h fs ≡ true
coordinator_held c who h [] e k = refl
coordinator_held c who h (f ∷ fs) e k =
    let m : (is_coordinator_fact f ≡ true) × (list_all is_coordinator_fact fs ≡ true) = and_both (is_coordinator_fact f) (list_all is_coordinator_fact fs) e in
    let one : ((is_grant f || is_slot_held who h (slot_told (setting c) f)) ≡ true) × (holder (hand_after c h f).lists.coordinator ≡ Some who) = held_on c who h f m.0 k in
    both (is_grant f || is_slot_held who h (slot_told (setting c) f)) (held_in_hand c who (hand_after c h f) fs) one.0 (coordinator_held c who (hand_after c h f) fs m.1 one.1)

-- what a coordinator tells is of no incarnation that does something
coordinator_own : (who : Incarnation) (f : Fact) → is_coordinator_fact f ≡ true → is_own_fact who f ≡ true
coordinator_own who (fact.Start x e) h = absurd (true_is_not_false (sym h))
coordinator_own who (fact.Active x e n s) h = absurd (true_is_not_false (sym h))
coordinator_own who (fact.Stop x e) h = absurd (true_is_not_false (sym h))
coordinator_own who (fact.WriteFailed x e) h = absurd (true_is_not_false (sym h))
coordinator_own who (fact.Granted s n x) h = absurd (true_is_not_false (sym h))
coordinator_own who (fact.Up x) h = absurd (true_is_not_false (sym h))
coordinator_own who (fact.Gone x) h = absurd (true_is_not_false (sym h))
coordinator_own who (fact.View x v) h = absurd (true_is_not_false (sym h))
coordinator_own who (fact.Home x s k) h = absurd (true_is_not_false (sym h))
coordinator_own who (fact.Forget x s) h = absurd (true_is_not_false (sym h))
coordinator_own who (fact.Kept x m) h = absurd (true_is_not_false (sym h))
coordinator_own who (fact.Dropped x m) h = absurd (true_is_not_false (sym h))
coordinator_own who (fact.Stashed x m) h = absurd (true_is_not_false (sym h))
coordinator_own who (fact.Held s x n) h = absurd (true_is_not_false (sym h))
coordinator_own who (fact.Reshard n k) h = absurd (true_is_not_false (sym h))
coordinator_own who (fact.Resharded s n k) h = absurd (true_is_not_false (sym h))
coordinator_own who (fact.Upgrade v) h = absurd (true_is_not_false (sym h))
coordinator_own who f h = refl

pub coordinator_node : (c : Script) (v : List ℕ → ℕ → ℕ → Bool) (st : Node) (k : Coordinator) (ms : List Move) → IsSoundNode c st → st.coordinator ≡ Some k → KeepsCoordinator c k ms → NoTook ms → NodeKeeps c v st (map by_coordinator ms)
coordinator_node c v st k ms s e keeps h = record {
  stands = subst (IsSoundNode c) (sym node_is) (with_sound c st later s (record { sound = keeps.sound; who_is = who_fold k ms ∙ at.who_is }));
  posts_are = ap (list_all (is_own_post c st.who)) (coordinator_items ms) ∙ all_each_of (is_own_post c st.who) (is_own_move c st.who) item_of ms (subst (λ who. list_all (is_own_move c who) ms ≡ true) at.who_is keeps.posts_are) (λ m f. f);
  own_are = ap (λ is. list_all (is_own_fact st.who) (facts_in is)) (coordinator_items ms) ∙ all_map is_coordinator_fact (is_own_fact st.who) (coordinator_own st.who) (facts_of ms) keeps.facts_are;
  held_are = λ x i. ap (λ is. held_in_hand c st.who x (facts_in is)) (coordinator_items ms) ∙ coordinator_held c st.who x (facts_of ms) keeps.facts_are (office_held x i);
  guarded_are = λ x i. ap (λ is. guarded_in_hand c v st.who x (facts_in is)) (coordinator_items ms) ∙ coordinator_guarded c v st.who x (facts_of ms) keeps.facts_are (ap (own c slot.Coordinator) (list_is x i) ∙ keeps.sound.own_is);
  goes_along = λ x i. subst (λ y. NodeInHand c y (fold after st (map by_coordinator ms))) (sym (hand_is x)) (subst (NodeInHand c (with_coordinator x (fold entered x.lists.coordinator (facts_of ms)))) (sym node_is) (with_in_hand c x st later (fold entered x.lists.coordinator (facts_of ms)) i (list_is x i)));
}
  where
    later : Coordinator
    later = fold coordinator_after k ms

    at : IsCoordinatorAt c st.who k
    at = coordinator_at c st k s e

    office_held : (x : Hand) → NodeInHand c x st → holder x.lists.coordinator ≡ Some st.who
    office_held x i = ap holder (subst (λ (o : Option Coordinator). IfSome o (λ y. x.lists.coordinator ≡ y.entries)) e i.coordinator) ∙ (at.sound.held_is ∙ ap Some at.who_is)

    node_is : fold after st (map by_coordinator ms) ≡ record st { coordinator = Some later }
    node_is = coordinator_alone st ms ∙ ap (λ (o : Option Coordinator). record st { coordinator = o }) (ap (λ o. fold (coordinator_part st.set st.who) o (map by_coordinator ms)) e ∙ coordinator_stays st.set st.who k ms h)

    list_is : (x : Hand) → NodeInHand c x st → fold entered x.lists.coordinator (facts_of ms) ≡ later.entries
    list_is x i = ap (λ l. fold entered l (facts_of ms)) (subst (λ (o : Option Coordinator). IfSome o (λ y. x.lists.coordinator ≡ y.entries)) e i.coordinator) ∙ sym keeps.list_is

    hand_is : (x : Hand) → fold (hand_after c) x (facts_in (items_of (map by_coordinator ms))) ≡ with_coordinator x (fold entered x.lists.coordinator (facts_of ms))
    hand_is x = ap (λ is. fold (hand_after c) x (facts_in is)) (coordinator_items ms) ∙ coordinator_in_hand c x (facts_of ms) keeps.facts_are

-- a rule of the coordinator, where there is one
pub rule_node : (c : Script) (v : List ℕ → ℕ → ℕ → Bool) (st : Node) (p : Coordinator → List Move) → IsSoundNode c st → ((k : Coordinator) → st.coordinator ≡ Some k → IsGoodCoordinator c k → KeepsCoordinator c k (p k)) → ((k : Coordinator) → NoTook (p k)) → NodeKeeps c v st (of_coordinator p st)
rule_node c v st p s keeps none = by_it st.coordinator refl
  where
    by_it : (o : Option Coordinator) → st.coordinator ≡ o → NodeKeeps c v st (where_some (λ k. map by_coordinator (p k)) o)
    by_it None e = node_none c v st s
    by_it (Some k) e = let at : IsCoordinatorAt c st.who k = coordinator_at c st k s e in coordinator_node c v st k (p k) s e (keeps k e at.sound) (none k)

-- The rules.

pub coordinate_node : (c : Script) (v : List ℕ → ℕ → ℕ → Bool) (st : Node) (from : Incarnation) (b : Body) → IsSoundNode c st → is_node c from ≡ true → is_genuine_body c b ≡ true
    → ((k : Coordinator) → st.coordinator ≡ Some k → is_among from st.region.view ≡ true → is_among from (regions k.entries) ≡ false → length (regions k.entries) < 16)
    → NodeKeeps c v st (of_coordinator (coordinator.coordinate from b st.region.view) st)
coordinate_node c v st from b s node genuine room = rule_node c v st (coordinator.coordinate from b st.region.view) s (λ k e sound. coordinator_takes c k from b st.region.view sound node genuine (room k e)) (λ k. calm_takes_none st.region.view (coordinator.coordinate from b st.region.view k) (coordinate_calm st.region.view from b k))

pub terminate_node : (c : Script) (v : List ℕ → ℕ → ℕ → Bool) (st : Node) → IsSoundNode c st → NodeKeeps c v st (of_coordinator (coordinator.terminate_lost st.region.view) st)
terminate_node c v st s = rule_node c v st (coordinator.terminate_lost st.region.view) s (λ k e sound. let r : KeepsRules c k = coordinator_keeps c k sound in r.terminates st.region.view) (λ k. calm_takes_none st.region.view (coordinator.terminate_lost st.region.view k) (terminate_lost_calm st.region.view st.region.view k))

pub tick_node : (c : Script) (v : List ℕ → ℕ → ℕ → Bool) (st : Node) → IsSoundNode c st → NodeKeeps c v st (of_coordinator coordinator.tick_coordinator st)
tick_node c v st s = rule_node c v st coordinator.tick_coordinator s (λ k e sound. let r : KeepsRules c k = coordinator_keeps c k sound in r.ticks) (λ k. calm_takes_none [] (coordinator.tick_coordinator k) (tick_calm [] k))

-- Regions that are lost.

abbrev is_posted : Move → Bool
is_posted (made (item.Post p)) = true
is_posted m = false

one_posted : (list : List Fact) (m : Move) → is_posted m ≡ true → coordinator_step list m ≡ list
one_posted list (made (item.Post p)) h = refl
one_posted list m h = absurd (true_is_not_false (sym h))

all_posted : (list : List Fact) (ms : List Move) → list_all is_posted ms ≡ true → fold coordinator_step list ms ≡ list
all_posted list [] h = refl
all_posted list (m ∷ ms) h =
    let n : (is_posted m ≡ true) × (list_all is_posted ms ≡ true) = and_both (is_posted m) (list_all is_posted ms) h in
    ap (λ l. fold coordinator_step l ms) (one_posted list m n.0) ∙ all_posted list ms n.1

-- of a region that is terminated only the word on it is entered
terminated_is : (r : Incarnation) (k : Coordinator) → regions (fold coordinator_after k (coordinator.terminate r k)).entries ≡ without r (regions k.entries)
terminated_is r k =
    let posts : Moving → List Move = λ x. if is_at r x.owner then [] else coordinator.hand_off_if_last r k x in
    let list : List Fact = k.entries ++ fact.Terminated r ∷ [] in
    ap regions (entries_after k (coordinator.terminate r k) ∙ all_posted list (flat_map posts k.moving)
    (all_each is_posted posts k.moving (λ x. all_if is_posted (is_at r x.owner) [] (coordinator.hand_off_if_last r k x) refl
    (all_if is_posted (is_among r x.awaited && is_empty (without r x.awaited)) (coordinator.hand_off k x) [] (all_some is_posted (λ o. post k.who o (body.HandOff x.shard (coordinator.stamp k)) ∷ []) x.owner (λ o. refl)) refl))))
    ∙ regions_more k.entries (fact.Terminated r)

-- what holds of all but some holds of all that are left once those are terminated
left_over : (p : Incarnation → Bool) (rs : List Incarnation) (k : Coordinator) → list_all (λ x. p x || is_among x rs) (regions k.entries) ≡ true → list_all p (regions (fold coordinator_after k (for_each coordinator_after coordinator.terminate rs k)).entries) ≡ true
left_over p [] k e = all_map (λ x. p x || false) p (λ x f. or_none (p x) f) (regions k.entries) e
  where
    or_none : (b : Bool) → (b || false) ≡ true → b ≡ true
    or_none true f = refl
    or_none false f = f
left_over p (r ∷ rs) k e =
    let ms : List Move = coordinator.terminate r k in
    let later : Coordinator = fold coordinator_after k ms in
    let more : List Move = for_each coordinator_after coordinator.terminate rs later in
    ap (λ (y : Coordinator). list_all p (regions y.entries)) (fold-append coordinator_after k ms more)
    ∙ left_over p rs later (ap (list_all (λ x. p x || is_among x rs)) (terminated_is r k)
    ∙ all_picked (λ x. p x || is_among x (r ∷ rs)) (λ x. p x || is_among x rs) (λ x. not (is_same r x)) (λ x f pick. other x (p x) (is_same x r) refl f pick) (regions k.entries) e)
  where
    other : (x : Incarnation) (a b : Bool) → is_same x r ≡ b → (a || (b || is_among x rs)) ≡ true → not (is_same r x) ≡ true → (a || is_among x rs) ≡ true
    other x true b t f pick = refl
    other x false false t f pick = f
    other x false true t f pick = absurd (true_is_not_false (sym (itself_is r x (sym (same_is x r t))) ∙ of_not (is_same r x) pick))

-- then all that are registered are in the view
pub terminated_viewed : (view : List Incarnation) (k : Coordinator) → list_all (λ r. is_among r view) (regions (fold coordinator_after k (coordinator.terminate_lost view k)).entries) ≡ true
terminated_viewed view k =
    let lost : List Incarnation = filter (λ r. not (is_among r view)) (regions k.entries) in
    left_over (λ r. is_among r view) lost k
    (all_where (λ r. true) (λ r. is_among r view || is_among r lost) (λ r. not (is_among r view)) (λ r. is_among r lost) (λ r t h. either r (is_among r view) refl h) (regions k.entries) (all_of (λ r. true) (λ r. refl) (regions k.entries)) (each_among lost))
  where
    either : (r : Incarnation) (b : Bool) → is_among r view ≡ b → (not (is_among r view) ≡ true → is_among r (filter (λ r. not (is_among r view)) (regions k.entries)) ≡ true) → (b || is_among r (filter (λ r. not (is_among r view)) (regions k.entries))) ≡ true
    either r true t h = refl
    either r false t h = h (ap not t)
