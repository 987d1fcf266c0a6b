-- The rules of a coordinator: each gives moves that are allowed where they stand.
use Rattle.std.proofs.Common.{◌≡◌, ◌<◌, ℕ, zero, suc, ◌+◌, sym, ap, ◌∙◌, refl, arith}
use Rattle.std.specs.Prelude.{Bool, true, false, ◌==◌, ◌&&◌, ◌||◌, not, nat_lt, cond, List, [], ◌∷◌, ◌++◌, length, map, filter, find, fold, Option, Some, None, is_some, is_none, unwrap_or, if◌then◌else◌, slice_index_or}
use Rattle.std.specs.List.{list_all, list_any, flat_map}
use Rattle.std.proofs.lemmas.List.Sums.{fold-append}
use Rattle.yard_model.specs.declared.fact.Fact.{Fact}
use Rattle.yard_model.specs.declared.fact.Fact.TheVariants as fact
use Rattle.yard_model.specs.declared.out.Item.TheVariants as item
use Rattle.yard_model.specs.declared.packet.Body.{Body}
use Rattle.yard_model.specs.declared.packet.Body.TheVariants as body
use Rattle.yard_model.specs.declared.incarnation.Incarnation.{Incarnation}
use Rattle.yard_model.specs.declared.incarnation.Stamp.{Stamp}
use Rattle.yard_model.specs.declared.incarnation.Slot.TheVariants as slot
use Rattle.yard_model.specs.Script.{Script, Setting, setting}
use Rattle.yard_model.specs.Setting.{shards}
use Rattle.yard_model.specs.Genuine.{is_node, is_shard, is_genuine_body}
use Rattle.yard_model.specs.Lawful.{own, is_held, may_follow}
use Rattle.yard_model.specs.SlotReads.{regions, allocation}
use Rattle.yard_model.specs.Words.{is_same, is_at, is_among, is_stamp, is_empty, without, numbers}
use Rattle.yard_model.specs.Turns.{for_each, where_some}
use Rattle.yard_model.specs.Move.{Move, made, quits, started, acknowledged, told, post}
use Rattle.yard_model.specs.Coordinator as coordinator
use Rattle.yard_model.specs.Coordinator.{Coordinator, Moving, Share, coordinator_after, coordinator_step}
use Rattle.plain_laws.proofs.Booleans.{true_is_not_false, and_both, both, same_number, number_itself, all_map, all_of, is_below}
use Rattle.plain_laws.proofs.Members.{same_is, same_itself}
use Rattle.plain_laws.proofs.Lists.{all_if, all_each_of}
use Rattle.yard_laws.specs.Homes.{IsCoordinatorHeld, KeepsHomes, KeepsList}
use Rattle.yard_laws.proofs.Before.{own_before}
use Rattle.yard_laws.proofs.HomeLaws.{coordinator_keeps_homes}
use Rattle.yard_laws.proofs.LostLaws.{coordinator_keeps_list, entries_after}
use Rattle.actor_laws.proofs.Rules.{who_fold, may_of}
use Rattle.actor_laws.specs.CoordinatorStands.{is_owned, is_sound_moving, IsGoodCoordinator}
use Rattle.actor_laws.proofs.CoordinatorReads.{allocation_more, allocated_of, is_node_if, regions_are_nodes, region_is_node, homes_are_nodes}
use Rattle.actor_laws.proofs.CoordinatorPicks.{IsShared, picks_pass}
use Rattle.actor_laws.proofs.CoordinatorMoves.{all_of_map, all_picked, goes, goes_join, is_quiet, quiet_goes, SoundMoving, moving_of, owned_some, all_sound}

-- Moves that are put together.

-- the moves may be made by this coordinator as it stands
abbrev pub MovesGo : Script → Coordinator → List Move → Type 0
MovesGo c st ms = goes c st.who st.entries ms ≡ true

-- and enter nothing
abbrev pub Quiet : Script → Coordinator → List Move → Type 0
Quiet c st ms = list_all (is_quiet c st.who st.entries) ms ≡ true

pub goes_then : (c : Script) (st : Coordinator) (ms more : List Move) → MovesGo c st ms → MovesGo c (fold coordinator_after st ms) more → MovesGo c st (ms ++ more)
goes_then c st ms more h g =
    let later : Coordinator = fold coordinator_after st ms in
    goes_join c st.who st.entries ms more h (ap (λ l. goes c st.who l more) (sym (entries_after st ms)) ∙ (ap (λ w. goes c w later.entries more) (sym (who_fold st ms)) ∙ g))

pub goes_if : (c : Script) (st : Coordinator) (b : Bool) (ms : List Move) → (b ≡ true → MovesGo c st ms) → MovesGo c st (if b then ms else [])
goes_if c st true ms h = h refl
goes_if c st false ms h = refl

-- of a node of the script, if there is one
all_if_node : (p : Move → Bool) (c : Script) (f : Incarnation → List Move) (o : Option Incarnation) → is_node_if c o ≡ true → ((x : Incarnation) → is_node c x ≡ true → list_all p (f x) ≡ true) → list_all p (where_some f o) ≡ true
all_if_node p c f None e h = refl
all_if_node p c f (Some x) e h = h x e

-- what holds of some that all hold of
pub of_any : {X : Type 0} (P : Type 0) (p q : X → Bool) → ((x : X) → p x ≡ true → q x ≡ true → P) → (xs : List X) → list_any p xs ≡ true → list_all q xs ≡ true → P
of_any P p q h [] e f = absurd (true_is_not_false (sym e))
of_any {X} P p q h (x ∷ xs) e f = step (p x) refl (λ g. of_any P p q h xs g (and_both (q x) (list_all q xs) f).1)
  where
    step : (b : Bool) → p x ≡ b → (list_any p xs ≡ true → P) → P
    step true t rest = h x t (and_both (q x) (list_all q xs) f).0
    step false t rest = rest (ap (λ b. b || list_any p xs) (sym t) ∙ e)

-- Posts.

post_quiet : (c : Script) (who to : Incarnation) (list : List Fact) (b : Body) → is_node c who ≡ true → is_node c to ≡ true → is_genuine_body c b ≡ true → is_quiet c who list (post who to b) ≡ true
post_quiet c who to list b from_node to_node genuine =
    both (is_same who who) (is_node c who && is_node c to && is_genuine_body c b) (same_itself who) (both (is_node c who && is_node c to) (is_genuine_body c b) (both (is_node c who) (is_node c to) from_node to_node) genuine)

one_quiet : (c : Script) (who : Incarnation) (list : List Fact) (m : Move) → is_quiet c who list m ≡ true → list_all (is_quiet c who list) (m ∷ []) ≡ true
one_quiet c who list m e = both (is_quiet c who list m) true e refl

posts_quiet : (c : Script) (who : Incarnation) (list : List Fact) (b : Body) (rs : List Incarnation) → is_node c who ≡ true → list_all (is_node c) rs ≡ true → is_genuine_body c b ≡ true → list_all (is_quiet c who list) (map (λ r. post who r b) rs) ≡ true
posts_quiet c who list b rs from_node nodes genuine = all_of_map (is_quiet c who list) (λ r. post who r b) rs (all_map (is_node c) (λ r. is_quiet c who list (post who r b)) (λ r e. post_quiet c who r list b from_node e genuine) rs nodes)

owner_node : (c : Script) (owner home : Option Incarnation) → is_owned owner home ≡ true → is_node_if c home ≡ true → is_node_if c owner ≡ true
owner_node c None home e h = refl
owner_node c (Some x) None e h = absurd (true_is_not_false (sym e))
owner_node c (Some x) (Some y) e h = ap (is_node c) (same_is x y e) ∙ h

hand_off_quiet : (c : Script) (st : Coordinator) (list : List Fact) (x : Moving) → IsGoodCoordinator c st → is_sound_moving c st.entries x ≡ true → list_all (is_quiet c st.who list) (coordinator.hand_off st x) ≡ true
hand_off_quiet c st list x k e =
    let m : SoundMoving c st.entries x = moving_of c st.entries x e in
    all_if_node (is_quiet c st.who list) c (λ o. post st.who o (body.HandOff x.shard (coordinator.stamp st)) ∷ []) x.owner (owner_node c x.owner (allocation x.shard st.entries) m.owner_is (homes_are_nodes c x.shard st.entries k.own_is))
    (λ o node. one_quiet c st.who list (post st.who o (body.HandOff x.shard (coordinator.stamp st))) (post_quiet c st.who o list (body.HandOff x.shard (coordinator.stamp st)) k.who_is node m.shard_is))

last_quiet : (c : Script) (st : Coordinator) (list : List Fact) (r : Incarnation) (x : Moving) → IsGoodCoordinator c st → is_sound_moving c st.entries x ≡ true → list_all (is_quiet c st.who list) (coordinator.hand_off_if_last r st x) ≡ true
last_quiet c st list r x k e = all_if (is_quiet c st.who list) (is_among r x.awaited && is_empty (without r x.awaited)) (coordinator.hand_off st x) [] (hand_off_quiet c st list x k e) refl

-- Regions that are lost.

terminate_goes : (c : Script) (st : Coordinator) (r : Incarnation) → IsGoodCoordinator c st → may_follow c slot.Coordinator st.entries (fact.Terminated r) ≡ true → MovesGo c st (coordinator.terminate r st)
terminate_goes c st r k may =
    let list : List Fact = st.entries ++ fact.Terminated r ∷ [] in
    let posts : List Move = flat_map (λ (x : Moving). if is_at r x.owner then [] else coordinator.hand_off_if_last r st x) st.moving in
    both (may_follow c slot.Coordinator st.entries (fact.Terminated r)) (goes c st.who list posts) may
    (quiet_goes c st.who list posts (all_each_of (is_quiet c st.who list) (is_sound_moving c st.entries) (λ (x : Moving). if is_at r x.owner then [] else coordinator.hand_off_if_last r st x) st.moving k.moving_is
    (λ x e. all_if (is_quiet c st.who list) (is_at r x.owner) [] (coordinator.hand_off_if_last r st x) refl (last_quiet c st list r x k e))))

own_was : (c : Script) (list : List Fact) (m : Move) → own c slot.Coordinator (coordinator_step list m) ≡ true → own c slot.Coordinator list ≡ true
own_was c list (made (item.Fact (fact.Registered r))) o = own_before c slot.Coordinator list (fact.Registered r) refl o
own_was c list (made (item.Fact (fact.Terminated r))) o = own_before c slot.Coordinator list (fact.Terminated r) refl o
own_was c list (made (item.Fact (fact.Allocated s r))) o = own_before c slot.Coordinator list (fact.Allocated s r) refl o
own_was c list (made (item.Fact (fact.Deallocated s))) o = own_before c slot.Coordinator list (fact.Deallocated s) refl o
own_was c list m o = o

all_own_was : (c : Script) (list : List Fact) (ms : List Move) → own c slot.Coordinator (fold coordinator_step list ms) ≡ true → own c slot.Coordinator list ≡ true
all_own_was c list [] o = o
all_own_was c list (m ∷ ms) o = own_was c list m (all_own_was c (coordinator_step list m) ms o)

terminates_each : (c : Script) (st : Coordinator) (rs : List Incarnation) → IsGoodCoordinator c st → own c slot.Coordinator (fold coordinator_step st.entries (for_each coordinator_after coordinator.terminate rs st)) ≡ true
    → MovesGo c st (for_each coordinator_after coordinator.terminate rs st)
terminates_each c st [] k o = refl
terminates_each c st (r ∷ rs) k o =
    let f : Fact = fact.Terminated r in
    let posts : List Move = flat_map (λ (x : Moving). if is_at r x.owner then [] else coordinator.hand_off_if_last r st x) st.moving in
    let ms : List Move = coordinator.terminate r st in
    let later : Coordinator = fold coordinator_after st ms in
    let more : List Move = for_each coordinator_after coordinator.terminate rs later in
    let one : MovesGo c st ms = terminate_goes c st r k (may_of c st.entries f refl (all_own_was c (st.entries ++ f ∷ []) (posts ++ more) o)) in
    let rest : own c slot.Coordinator (fold coordinator_step later.entries more) ≡ true =
    ap (λ l. own c slot.Coordinator (fold coordinator_step l more)) (entries_after st ms) ∙ (ap (own c slot.Coordinator) (sym (fold-append coordinator_step st.entries ms more)) ∙ o) in
    goes_then c st ms more one (terminates_each c later rs (all_sound c st ms k one) rest)

held_of : (c : Script) (st : Coordinator) → IsGoodCoordinator c st → IsCoordinatorHeld c st
held_of c st k = record { own_is = k.own_is; held_is = ap is_some k.held_is }

pub terminates : (c : Script) (st : Coordinator) (view : List Incarnation) → IsGoodCoordinator c st → MovesGo c st (coordinator.terminate_lost view st)
terminates c st view k =
    let keeps : KeepsList c st = coordinator_keeps_list c st (held_of c st k) in
    terminates_each c st (filter (λ r. not (is_among r view)) (coordinator.registered st)) k (keeps.terminates view)

-- Registration.

register_follows : (c : Script) (st : Coordinator) (from : Incarnation) → IsGoodCoordinator c st → is_node c from ≡ true → is_among from (regions st.entries) ≡ false → length (regions st.entries) < 16 → may_follow c slot.Coordinator st.entries (fact.Registered from) ≡ true
register_follows c st from k node new room =
    both (is_held st.entries) (is_node c from && not (is_among from (regions st.entries)) && nat_lt (length (regions st.entries)) 16) (ap is_some k.held_is)
    (both (is_node c from && not (is_among from (regions st.entries))) (nat_lt (length (regions st.entries)) 16)
    (both (is_node c from) (not (is_among from (regions st.entries))) node (ap not new)) (is_below (length (regions st.entries)) 16 room))

pub registers : (c : Script) (st : Coordinator) (from : Incarnation) (view : List Incarnation) → IsGoodCoordinator c st → is_node c from ≡ true → (is_among from view ≡ true → is_among from (regions st.entries) ≡ false → length (regions st.entries) < 16) → MovesGo c st (coordinator.register_from from view st)
registers c st from view k node room = step (is_among from view) (is_among from (regions st.entries)) refl refl
  where
    answer : Move
    answer = post st.who from body.RegisterAck

    answers : (list : List Fact) → goes c st.who list (answer ∷ []) ≡ true
    answers list = quiet_goes c st.who list (answer ∷ []) (one_quiet c st.who list answer (post_quiet c st.who from list body.RegisterAck k.who_is node refl))

    step : (viewed there : Bool) → is_among from view ≡ viewed → is_among from (regions st.entries) ≡ there → MovesGo c st (if viewed then (if there then [] else told (fact.Registered from) ∷ []) ++ answer ∷ [] else [])
    step false there v e = refl
    step true true v e = answers st.entries
    step true false v e =
        let f : Fact = fact.Registered from in
        both (may_follow c slot.Coordinator st.entries f) (goes c st.who (st.entries ++ f ∷ []) (answer ∷ [])) (register_follows c st from k node e (room v e)) (answers (st.entries ++ f ∷ []))

-- Allocation.

allocate_goes : (c : Script) (st : Coordinator) (s : ℕ) → IsGoodCoordinator c st → is_shard c s ≡ true → is_none (allocation s st.entries) ≡ true → MovesGo c st (coordinator.allocate s st)
allocate_goes c st s k shard none =
    let keeps : KeepsHomes c st = coordinator_keeps_homes c st (held_of c st k) in
    step (coordinator.smallest (coordinator.shares st)) (keeps.allocates s shard none)
  where
    moves : Share → List Move
    moves x = told (fact.Allocated s x.region) ∷ post st.who x.region (body.HostShard s (coordinator.stamp st)) ∷ []

    step : (o : Option Share) → own c slot.Coordinator (fold coordinator_step st.entries (where_some moves o)) ≡ true → MovesGo c st (where_some moves o)
    step None o = refl
    step (Some x) o =
        let f : Fact = fact.Allocated s x.region in
        let list : List Fact = st.entries ++ f ∷ [] in
        let may : may_follow c slot.Coordinator st.entries f ≡ true = may_of c st.entries f refl o in
        let asks : Move = post st.who x.region (body.HostShard s (coordinator.stamp st)) in
        both (may_follow c slot.Coordinator st.entries f) (goes c st.who list (asks ∷ [])) may
        (quiet_goes c st.who list (asks ∷ []) (one_quiet c st.who list asks (post_quiet c st.who x.region list (body.HostShard s (coordinator.stamp st)) k.who_is (region_is_node c st.entries x.region k.own_is (allocated_of c st.entries s x.region may).0) shard)))

tell_quiet : (c : Script) (st : Coordinator) (from : Incarnation) (s : ℕ) → IsGoodCoordinator c st → is_node c from ≡ true → is_shard c s ≡ true → Quiet c st (coordinator.tell_home from s st)
tell_quiet c st from s k node shard =
    all_if_node (is_quiet c st.who st.entries) c (λ h. post st.who from (body.ShardHome s h (coordinator.stamp st)) ∷ []) (coordinator.home_of st s) (homes_are_nodes c s st.entries k.own_is)
    (λ h home. let b : Body = body.ShardHome s h (coordinator.stamp st) in one_quiet c st.who st.entries (post st.who from b) (post_quiet c st.who from st.entries b k.who_is node (both (is_shard c s) (is_node c h) shard home)))

pub gets : (c : Script) (st : Coordinator) (from : Incarnation) (s : ℕ) → IsGoodCoordinator c st → is_shard c s ≡ true → MovesGo c st (coordinator.get_home from s st)
gets c st from s k shard =
    let first : List Move = if is_none (coordinator.home_of st s) then coordinator.allocate s st else [] in
    let later : Coordinator = fold coordinator_after st first in
    goes_if c st (is_among from (coordinator.registered st) && not (coordinator.is_moving st s)) (first ++ coordinator.tell_home from s later)
    (λ e. let node : is_node c from ≡ true = region_is_node c st.entries from k.own_is (and_both (is_among from (coordinator.registered st)) (not (coordinator.is_moving st s)) e).0 in
    let one : MovesGo c st first = goes_if c st (is_none (coordinator.home_of st s)) (coordinator.allocate s st) (λ none. allocate_goes c st s k shard none) in
    goes_then c st first (coordinator.tell_home from s later) one (quiet_goes c later.who later.entries (coordinator.tell_home from s later) (tell_quiet c later from s (all_sound c st first k one) node shard)))

pub starts : (c : Script) (st : Coordinator) (from : Incarnation) (s : ℕ) → MovesGo c st (coordinator.shard_started from s st)
starts c st from s = goes_if c st (is_at from (coordinator.home_of st s)) (started s ∷ []) (λ e. refl)

-- Rounds.

-- it is the script's, and has a home
abbrev pub has_home : Script → List Fact → ℕ → Bool
has_home c list s = is_shard c s && is_some (allocation s list)

pub begin_quiet : (c : Script) (st : Coordinator) (ss : List ℕ) → IsGoodCoordinator c st → list_all (has_home c st.entries) ss ≡ true → Quiet c st (coordinator.begin ss st)
begin_quiet c st ss k e =
    let next : Stamp = coordinator.stamp_of st.entries (st.begun + 1) in
    let asks : ℕ → List Move = λ s. map (λ r. post st.who r (body.BeginHandOff s next)) (coordinator.registered st) in
    all_each_of (is_quiet c st.who st.entries) (has_home c st.entries) (λ s. told (fact.Moving s next) ∷ asks s) ss e
    (λ s h. both (has_home c st.entries s) (list_all (is_quiet c st.who st.entries) (asks s)) h
    (posts_quiet c st.who st.entries (body.BeginHandOff s next) (coordinator.registered st) k.who_is (regions_are_nodes c st.entries k.own_is) (and_both (is_shard c s) (is_some (allocation s st.entries)) h).0))

numbers_below : (n a i : ℕ) → a + i ≡ n → list_all (λ s. nat_lt s n) (numbers a i) ≡ true
numbers_below n a zero e = refl
numbers_below n a (suc i) e = both (nat_lt a n) (list_all (λ s. nat_lt s n) (numbers (a + 1) i)) (is_below a n (omega (arith, e))) (numbers_below n (a + 1) i (omega (arith, e)))

pub all_shards : (c : Script) (set : Setting) → set ≡ setting c → list_all (is_shard c) (shards set) ≡ true
all_shards c set e = ap (λ (x : Setting). list_all (is_shard c) (shards x)) e ∙ numbers_below c.config.shards 0 c.config.shards (omega arith)

at_some : (r : Incarnation) (o : Option Incarnation) → is_at r o ≡ true → is_some o ≡ true
at_some r None e = absurd (true_is_not_false (sym e))
at_some r (Some x) e = refl

homes_have : (c : Script) (st : Coordinator) (r : Incarnation) → IsGoodCoordinator c st → list_all (has_home c st.entries) (coordinator.homes_at st r) ≡ true
homes_have c st r k =
    all_picked (is_shard c) (has_home c st.entries) (λ s. is_at r (coordinator.home_of st s)) (λ s shard at. both (is_shard c s) (is_some (allocation s st.entries)) shard (at_some r (allocation s st.entries) at)) (shards st.set) (all_shards c st.set k.set_is)

pub quits_goes : (c : Script) (st : Coordinator) (from : Incarnation) → IsGoodCoordinator c st → MovesGo c st (coordinator.quit from st)
quits_goes c st from k =
    let later : Coordinator = coordinator_after st (quits from) in
    let begins : List Move = coordinator.begin (coordinator.homes_at later from) later in
    let b : Bool = is_empty later.moving && not (is_empty (coordinator.staying later)) in
    goes_if c st (is_among from (coordinator.registered st)) (quits from ∷ (if b then begins else []))
    (λ e. let node : is_node c from ≡ true = region_is_node c st.entries from k.own_is e in
    let one : MovesGo c st (quits from ∷ []) = both (is_node c from) true node refl in
    let sound : IsGoodCoordinator c later = all_sound c st (quits from ∷ []) k one in
    goes_then c st (quits from ∷ []) (if b then begins else []) one (goes_if c later b begins (λ t. quiet_goes c later.who later.entries begins (begin_quiet c later (coordinator.homes_at later from) sound (homes_have c later from sound)))))

-- Rebalancing.

-- those among numbers that pass a test
passes : (p : ℕ → Bool) (ps : List ℕ) → list_all p ps ≡ true → (s : ℕ) → list_any (λ t. t == s) ps ≡ true → p s ≡ true
passes p ps all s e = of_any (p s ≡ true) (λ t. t == s) p (λ t same h. ap p (sym (same_number t s same)) ∙ h) ps e all

picked_have : (c : Script) (st : Coordinator) (limit : ℕ) → IsGoodCoordinator c st → list_all (has_home c st.entries) (coordinator.picked limit st) ≡ true
picked_have c st limit k =
    let share : Incarnation → Share = λ r. record { region = r; rest = coordinator.homes_at st r; count = length (coordinator.homes_at st r) } in
    let fresh : IsShared (has_home c st.entries) (coordinator.staying st) share (λ r. false) = record {
      region_is = λ r. refl;
      rest_are = λ r. homes_have c st r k;
      count_is = λ r e. refl;
      is_low = λ r q e f g. absurd (true_is_not_false (sym e));
    } in
    let ps : List ℕ = coordinator.picks limit (coordinator.shares st) in
    let all : list_all (has_home c st.entries) ps ≡ true = picks_pass (has_home c st.entries) limit (coordinator.staying st) share (λ r. false) fresh in
    all_picked (λ s. true) (has_home c st.entries) (λ s. list_any (λ p. p == s) ps) (λ s e f. passes (has_home c st.entries) ps all s f) (shards st.set) (all_of (λ (s : ℕ). true) (λ s. refl) (shards st.set))

pub rebalances : (c : Script) (st : Coordinator) (limit : ℕ) → IsGoodCoordinator c st → MovesGo c st (coordinator.rebalance limit st)
rebalances c st limit k =
    let ms : List Move = if not (is_empty st.moving) || is_empty (coordinator.picked limit st) then told fact.Nothing ∷ [] else coordinator.begin (coordinator.picked limit st) st in
    quiet_goes c st.who st.entries ms
    (all_if (is_quiet c st.who st.entries) (not (is_empty st.moving) || is_empty (coordinator.picked limit st)) (told fact.Nothing ∷ []) (coordinator.begin (coordinator.picked limit st) st) refl (begin_quiet c st (coordinator.picked limit st) k (picked_have c st limit k)))

-- Acknowledgements.

-- sound, and of this shard
abbrev is_that : Script → List Fact → ℕ → Moving → Bool
is_that c list s x = is_sound_moving c list x && (x.shard == s)

moving_at_sound : (c : Script) (st : Coordinator) (s : ℕ) (given : Stamp) → IsGoodCoordinator c st → list_all (is_that c st.entries s) (coordinator.moving_at s given st) ≡ true
moving_at_sound c st s given k =
    all_if (is_that c st.entries s) (is_stamp given (coordinator.stamp st)) (filter (λ (x : Moving). x.shard == s) st.moving) []
    (all_picked (is_sound_moving c st.entries) (is_that c st.entries s) (λ (x : Moving). x.shard == s) (λ x e f. both (is_sound_moving c st.entries x) (x.shard == s) e f) st.moving k.moving_is) refl

pub acknowledges : (c : Script) (st : Coordinator) (from : Incarnation) (s : ℕ) (given : Stamp) → IsGoodCoordinator c st → MovesGo c st (coordinator.acknowledge from s given st)
acknowledges c st from s given k =
    quiet_goes c st.who st.entries (coordinator.acknowledge from s given st)
    (all_each_of (is_quiet c st.who st.entries) (is_that c st.entries s) (λ (x : Moving). if is_among from x.awaited then acknowledged s from ∷ coordinator.hand_off_if_last from st x else []) (coordinator.moving_at s given st) (moving_at_sound c st s given k)
    (λ x e. all_if (is_quiet c st.who st.entries) (is_among from x.awaited) (acknowledged s from ∷ coordinator.hand_off_if_last from st x) [] (last_quiet c st st.entries from x k (and_both (is_sound_moving c st.entries x) (x.shard == s) e).0) refl))

pub stops : (c : Script) (st : Coordinator) (from : Incarnation) (s : ℕ) (given : Stamp) → IsGoodCoordinator c st → MovesGo c st (coordinator.shard_stopped from s given st)
stops c st from s given k =
    let f : Fact = fact.Deallocated s in
    let list : List Fact = st.entries ++ f ∷ [] in
    let later : Coordinator = coordinator_after st (told f) in
    goes_if c st (list_any (λ (x : Moving). is_empty x.awaited && is_at from x.owner) (coordinator.moving_at s given st)) (told f ∷ coordinator.allocate s later)
    (λ e. let there : has_home c st.entries s ≡ true = of_any (has_home c st.entries s ≡ true) (λ (x : Moving). is_empty x.awaited && is_at from x.owner) (is_that c st.entries s) (λ x p q. home_of_that x q) (coordinator.moving_at s given st) e (moving_at_sound c st s given k) in
    let m : (is_shard c s ≡ true) × (is_some (allocation s st.entries) ≡ true) = and_both (is_shard c s) (is_some (allocation s st.entries)) there in
    let may : may_follow c slot.Coordinator st.entries f ≡ true = both (is_held st.entries) (has_home c st.entries s) (ap is_some k.held_is) there in
    let one : MovesGo c st (told f ∷ []) = both (may_follow c slot.Coordinator st.entries f) true may refl in
    let none : is_none (allocation s list) ≡ true = ap is_none (allocation_more s st.entries f ∙ ap (λ b. if b then None else allocation s st.entries) (number_itself s s refl)) in
    goes_then c st (told f ∷ []) (coordinator.allocate s later) one (allocate_goes c later s (all_sound c st (told f ∷ []) k one) m.0 none))
  where
    home_of_that : (x : Moving) → is_that c st.entries s x ≡ true → has_home c st.entries s ≡ true
    home_of_that x q =
        let n : (is_sound_moving c st.entries x ≡ true) × ((x.shard == s) ≡ true) = and_both (is_sound_moving c st.entries x) (x.shard == s) q in
        let m : SoundMoving c st.entries x = moving_of c st.entries x n.0 in
        ap (has_home c st.entries) (sym (same_number x.shard s n.1)) ∙ both (is_shard c x.shard) (is_some (allocation x.shard st.entries)) m.shard_is (owned_some x.owner (allocation x.shard st.entries) m.owner_is)

-- The tick.

again_quiet : (c : Script) (st : Coordinator) (x : Moving) → IsGoodCoordinator c st → is_sound_moving c st.entries x ≡ true → Quiet c st (coordinator.hand_off_again st x)
again_quiet c st x k e =
    let m : SoundMoving c st.entries x = moving_of c st.entries x e in
    let b : Body = body.BeginHandOff x.shard (coordinator.stamp st) in
    all_if (is_quiet c st.who st.entries) (is_empty x.awaited) (coordinator.hand_off st x) (map (λ r. post st.who r b) x.awaited) (hand_off_quiet c st st.entries x k e)
    (posts_quiet c st.who st.entries b x.awaited k.who_is m.awaited_are m.shard_is)

-- the first that passes a test, or none
found_all : (p : ℕ → Bool) (pick : List ℕ → Bool) (xss : List (List ℕ)) → list_all (list_all p) xss ≡ true → list_all p (unwrap_or (find pick xss) []) ≡ true
found_all p pick [] e = refl
found_all p pick (xs ∷ xss) e = step (pick xs) (found_all p pick xss (and_both (list_all p xs) (list_all (list_all p) xss) e).1)
  where
    step : (b : Bool) → list_all p (unwrap_or (find pick xss) []) ≡ true → list_all p (unwrap_or (cond b (Some xs) (find pick xss)) []) ≡ true
    step true rest = (and_both (list_all p xs) (list_all (list_all p) xss) e).0
    step false rest = rest

all_homes : (c : Script) (st : Coordinator) (rs : List Incarnation) → IsGoodCoordinator c st → list_all (list_all (has_home c st.entries)) (map (coordinator.homes_at st) rs) ≡ true
all_homes c st [] k = refl
all_homes c st (r ∷ rs) k = both (list_all (has_home c st.entries) (coordinator.homes_at st r)) (list_all (list_all (has_home c st.entries)) (map (coordinator.homes_at st) rs)) (homes_have c st r k) (all_homes c st rs k)

begin_quitting_quiet : (c : Script) (st : Coordinator) → IsGoodCoordinator c st → Quiet c st (coordinator.begin_quitting st)
begin_quitting_quiet c st k =
    let leaving : List Incarnation = filter (λ r. is_among r st.quitting) (coordinator.registered st) in
    let ss : List ℕ = unwrap_or (find (λ ss. not (is_empty ss)) (map (coordinator.homes_at st) leaving)) [] in
    all_if (is_quiet c st.who st.entries) (is_empty (coordinator.staying st)) [] (coordinator.begin ss st) refl
    (begin_quiet c st ss k (found_all (has_home c st.entries) (λ ss. not (is_empty ss)) (map (coordinator.homes_at st) leaving) (all_homes c st leaving k)))

host_quiet : (c : Script) (st : Coordinator) (s : ℕ) → IsGoodCoordinator c st → is_shard c s ≡ true → Quiet c st (coordinator.host_again st s)
host_quiet c st s k shard =
    let b : Bool = coordinator.is_moving st s || slice_index_or st.started s false in
    let asks : Body = body.HostShard s (coordinator.stamp st) in
    all_if_node (is_quiet c st.who st.entries) c (λ h. if b then [] else post st.who h asks ∷ []) (coordinator.home_of st s) (homes_are_nodes c s st.entries k.own_is)
    (λ h node. all_if (is_quiet c st.who st.entries) b [] (post st.who h asks ∷ []) refl (one_quiet c st.who st.entries (post st.who h asks) (post_quiet c st.who h st.entries asks k.who_is node shard)))

pub ticks : (c : Script) (st : Coordinator) → IsGoodCoordinator c st → MovesGo c st (coordinator.tick_coordinator st)
ticks c st k =
    let first : List Move = if is_empty st.moving then coordinator.begin_quitting st else flat_map (coordinator.hand_off_again st) st.moving in
    let later : Coordinator = fold coordinator_after st first in
    let hosts : List Move = flat_map (coordinator.host_again later) (shards later.set) in
    let one : MovesGo c st first = quiet_goes c st.who st.entries first
    (all_if (is_quiet c st.who st.entries) (is_empty st.moving) (coordinator.begin_quitting st) (flat_map (coordinator.hand_off_again st) st.moving) (begin_quitting_quiet c st k)
    (all_each_of (is_quiet c st.who st.entries) (is_sound_moving c st.entries) (coordinator.hand_off_again st) st.moving k.moving_is (λ x e. again_quiet c st x k e))) in
    let sound : IsGoodCoordinator c later = all_sound c st first k one in
    goes_then c st first hosts one (quiet_goes c later.who later.entries hosts (all_each_of (is_quiet c later.who later.entries) (is_shard c) (coordinator.host_again later) (shards later.set) (all_shards c later.set sound.set_is) (λ s shard. host_quiet c later s sound shard)))
