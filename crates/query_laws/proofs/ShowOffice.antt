-- What the items of the coordinator's rules, and of Lead, show of their node is what the acts do to it; and the rest of the node stays.
use Rattle.std.proofs.Common.{◌≡◌, ℕ, ◌+◌, List, [], ◌∷◌, ◌++◌, map, sym, ap, ap₂, ◌∙◌, refl, true, false, true≢false}
use Rattle.std.specs.Prelude.{Bool, ◌&&◌, ◌||◌, not, filter, find, fold, Option, Some, None, is_none, unwrap_or, slice_index_or, if◌then◌else◌}
use Rattle.std.specs.List.{list_all, list_any, flat_map}
use Rattle.std.proofs.lemmas.Grind.{flat_map-append}
use Rattle.std.proofs.lemmas.List.{map-append}
use Rattle.std.proofs.lemmas.List.Sums.{fold-append}
use Rattle.yard_model.specs.declared.fact.Fact.{Fact}
use Rattle.yard_model.specs.declared.fact.Fact.TheVariants as fact
use Rattle.yard_model.specs.declared.out.Item.{Item}
use Rattle.yard_model.specs.declared.out.Item.TheVariants as item
use Rattle.yard_model.specs.declared.input.Input.{Input}
use Rattle.yard_model.specs.declared.input.Input.TheVariants as input
use Rattle.yard_model.specs.declared.packet.Body.{Body}
use Rattle.yard_model.specs.declared.packet.Body.TheVariants as body
use Rattle.yard_model.specs.declared.charter.Sending.{Sending}
use Rattle.yard_model.specs.declared.incarnation.Incarnation.{Incarnation}
use Rattle.yard_model.specs.declared.incarnation.Slot.TheVariants as slot
use Rattle.yard_model.specs.declared.incarnation.Stamp.{Stamp}
use Rattle.yard_model.specs.Coordinator as coordinator
use Rattle.yard_model.specs.Coordinator.{Coordinator, Moving, coordinator_after, new_coordinator}
use Rattle.yard_model.specs.Move.{Move, made, quits, started, acknowledged, told, post, item_of}
use Rattle.yard_model.specs.Node.{Node, Act, by_region, by_coordinator, after, items_of, of_region, of_coordinator, acquire_by, acquire, lead, packet, turn}
use Rattle.yard_model.specs.Producer.{Producer}
use Rattle.yard_model.specs.Queries.{Known, show_got}
use Rattle.yard_model.specs.Region as region
use Rattle.yard_model.specs.Script.{Script, setting}
use Rattle.yard_model.specs.Setting.{shards}
use Rattle.yard_model.specs.SlotLists.{SlotLists}
use Rattle.yard_model.specs.SlotReads.{holder, epoch}
use Rattle.yard_model.specs.Turns.{for_each, where_some}
use Rattle.yard_model.specs.Words.{is_at, is_among, is_empty, without}
use Rattle.plain_laws.proofs.Booleans.{and_both, both}
use Rattle.yard_laws.proofs.PartsLaws.{coordinator_items, region_items}
use Rattle.yard_laws.proofs.FreeLaws.{region_is_free}
use Rattle.actor_laws.specs.Owes.{Hand, facts_in, hand_after}
use Rattle.plain_laws.proofs.Lists.{all_join, all_if, all_some, all_each}
use Rattle.actor_laws.specs.CoordinatorStands.{is_coordinator_fact}
use Rattle.node_laws.proofs.NodeParts.{free_facts, free_hands}
use Rattle.query_laws.specs.Shown.{IsTidy, IsShown, known_after, opened, shown}
use Rattle.query_laws.proofs.ShowApart.{is_apart, producers_stay, own_shown, coordinator_apart}
use Rattle.query_laws.proofs.ShowBase.{AreShownBeside, Knows, with_producers, known_on, knows_on, beside_both, shown_append}
use Rattle.query_laws.proofs.ShowEntities.{stays}
use Rattle.query_laws.proofs.ShowInputs.{packet_for}
use Rattle.query_laws.proofs.ShowTick.{office_rule, office_tidy}

-- Moves that are items, and show nothing besides.

abbrev is_office_body : Body → Bool
is_office_body body.RegisterAck = true
is_office_body (body.ShardHome s h stamp) = true
is_office_body (body.HostShard s stamp) = true
is_office_body (body.BeginHandOff s stamp) = true
is_office_body (body.HandOff s stamp) = true
is_office_body b = false

abbrev pub is_shown_move : Move → Bool
is_shown_move (made (item.Fact f)) = is_coordinator_fact f
is_shown_move (made (item.Post p)) = is_office_body p.body
is_shown_move m = false

fact_shown : (k : Known) (st : Node) (f : Fact) → is_coordinator_fact f ≡ true → AreShownBeside k st (by_coordinator (told f) ∷ [])
fact_shown k st (fact.Registered r) h ps = refl
fact_shown k st (fact.Terminated r) h ps = refl
fact_shown k st (fact.Allocated s r) h ps = refl
fact_shown k st (fact.Deallocated s) h ps = refl
fact_shown k st (fact.Moving s stamp) h ps = refl
fact_shown k st fact.Nothing h ps = refl
fact_shown k st f h ps = absurd (true≢false (sym h))

post_shown : (k : Known) (st : Node) (from to : Incarnation) (b : Body) → is_office_body b ≡ true → AreShownBeside k st (by_coordinator (post from to b) ∷ [])
post_shown k st from to body.RegisterAck h ps = refl
post_shown k st from to (body.ShardHome s x stamp) h ps = refl
post_shown k st from to (body.HostShard s stamp) h ps = refl
post_shown k st from to (body.BeginHandOff s stamp) h ps = refl
post_shown k st from to (body.HandOff s stamp) h ps = refl
post_shown k st from to b h ps = absurd (true≢false (sym h))

-- such moves one after another
pub coordinator_shown : (k : Known) (st : Node) (ms : List Move) → list_all is_shown_move ms ≡ true → AreShownBeside k st (map by_coordinator ms)
coordinator_shown k st [] h = λ ps. refl
coordinator_shown k st (made (item.Fact f) ∷ ms) h =
    let n : (is_coordinator_fact f ≡ true) × (list_all is_shown_move ms ≡ true) = and_both (is_coordinator_fact f) (list_all is_shown_move ms) h in
    beside_both k st (by_coordinator (told f) ∷ []) (map by_coordinator ms) (fact_shown k st f n.0) (coordinator_shown (known_after k (item.Fact f)) (after st (by_coordinator (told f))) ms n.1)
coordinator_shown k st (made (item.Post p) ∷ ms) h =
    let n : (is_office_body p.body ≡ true) × (list_all is_shown_move ms ≡ true) = and_both (is_office_body p.body) (list_all is_shown_move ms) h in
    beside_both k st (by_coordinator (made (item.Post p)) ∷ []) (map by_coordinator ms) (post_shown k st p.from p.to p.body n.0) (coordinator_shown (known_after k (item.Post p)) (after st (by_coordinator (made (item.Post p)))) ms n.1)
coordinator_shown k st (m ∷ ms) h = absurd (true≢false (sym (and_both (is_shown_move m) (list_all is_shown_move ms) h).0))

-- What the rules make.

abbrev AreItems : List Move → Type 0
AreItems ms = list_all is_shown_move ms ≡ true

posts_items : (who : Incarnation) (b : Body) (rs : List Incarnation) → is_office_body b ≡ true → AreItems (map (λ r. post who r b) rs)
posts_items who b [] h = refl
posts_items who b (r ∷ rs) h = both (is_office_body b) (list_all is_shown_move (map (λ r. post who r b) rs)) h (posts_items who b rs h)

-- these are posts alone
abbrev is_post : Move → Bool
is_post (made (item.Post p)) = is_office_body p.body
is_post m = false

hand_off_all : (p : Move → Bool) (k : Coordinator) (x : Moving) → ((o : Incarnation) → p (post k.who o (body.HandOff x.shard (coordinator.stamp k))) ≡ true) → list_all p (coordinator.hand_off k x) ≡ true
hand_off_all p k x h = all_some p (λ o. post k.who o (body.HandOff x.shard (coordinator.stamp k)) ∷ []) x.owner (λ o. both (p (post k.who o (body.HandOff x.shard (coordinator.stamp k)))) true (h o) refl)

last_all : (p : Move → Bool) (r : Incarnation) (k : Coordinator) (x : Moving) → ((o : Incarnation) → p (post k.who o (body.HandOff x.shard (coordinator.stamp k))) ≡ true) → list_all p (coordinator.hand_off_if_last r k x) ≡ true
last_all p r k x h = all_if p (is_among r x.awaited && is_empty (without r x.awaited)) (coordinator.hand_off k x) [] (hand_off_all p k x h) refl

terminates_items : (rs : List Incarnation) (k : Coordinator) → AreItems (for_each coordinator_after coordinator.terminate rs k)
terminates_items [] k = refl
terminates_items (r ∷ rs) k =
    let first : List Move = coordinator.terminate r k in
    all_join is_shown_move first (for_each coordinator_after coordinator.terminate rs (fold coordinator_after k first))
    (all_each is_shown_move (λ (x : Moving). if is_at r x.owner then [] else coordinator.hand_off_if_last r k x) k.moving (λ x. all_if is_shown_move (is_at r x.owner) [] (coordinator.hand_off_if_last r k x) refl (last_all is_shown_move r k x (λ o. refl))))
    (terminates_items rs (fold coordinator_after k first))

register_items : (from : Incarnation) (view : List Incarnation) (k : Coordinator) → AreItems (coordinator.register_from from view k)
register_items from view k =
    let first : List Move = if is_among from (coordinator.registered k) then [] else told (fact.Registered from) ∷ [] in
    let answer : List Move = post k.who from body.RegisterAck ∷ [] in
    all_if is_shown_move (is_among from view) (first ++ answer) [] (all_join is_shown_move first answer (all_if is_shown_move (is_among from (coordinator.registered k)) [] (told (fact.Registered from) ∷ []) refl refl) refl) refl

allocate_items : (s : ℕ) (k : Coordinator) → AreItems (coordinator.allocate s k)
allocate_items s k = all_some is_shown_move (λ (x : coordinator.Share). told (fact.Allocated s x.region) ∷ post k.who x.region (body.HostShard s (coordinator.stamp k)) ∷ []) (coordinator.smallest (coordinator.shares k)) (λ x. refl)

begin_items : (ss : List ℕ) (k : Coordinator) → AreItems (coordinator.begin ss k)
begin_items ss k =
    let next : Stamp = coordinator.stamp_of k.entries (k.begun + 1) in
    all_each is_shown_move (λ s. told (fact.Moving s next) ∷ map (λ r. post k.who r (body.BeginHandOff s next)) (coordinator.registered k)) ss (λ s. posts_items k.who (body.BeginHandOff s next) (coordinator.registered k) refl)

get_home_items : (from : Incarnation) (s : ℕ) (k : Coordinator) → AreItems (coordinator.get_home from s k)
get_home_items from s k =
    let first : List Move = if is_none (coordinator.home_of k s) then coordinator.allocate s k else [] in
    let later : Coordinator = fold coordinator_after k first in
    all_if is_shown_move (is_among from (coordinator.registered k) && not (coordinator.is_moving k s)) (first ++ coordinator.tell_home from s later) []
    (all_join is_shown_move first (coordinator.tell_home from s later) (all_if is_shown_move (is_none (coordinator.home_of k s)) (coordinator.allocate s k) [] (allocate_items s k) refl)
    (all_some is_shown_move (λ h. post later.who from (body.ShardHome s h (coordinator.stamp later)) ∷ []) (coordinator.home_of later s) (λ h. refl))) refl

stopped_items : (from : Incarnation) (s : ℕ) (given : Stamp) (k : Coordinator) → AreItems (coordinator.shard_stopped from s given k)
stopped_items from s given k =
    let later : Coordinator = coordinator_after k (told (fact.Deallocated s)) in
    all_if is_shown_move (list_any (λ (x : Moving). is_empty x.awaited && is_at from x.owner) (coordinator.moving_at s given k)) (told (fact.Deallocated s) ∷ coordinator.allocate s later) [] (allocate_items s later) refl

rebalance_items : (limit : ℕ) (k : Coordinator) → AreItems (coordinator.rebalance limit k)
rebalance_items limit k =
    all_if is_shown_move (not (is_empty k.moving) || is_empty (coordinator.picked limit k)) (told fact.Nothing ∷ []) (coordinator.begin (coordinator.picked limit k) k) refl (begin_items (coordinator.picked limit k) k)

tick_items : (k : Coordinator) → AreItems (coordinator.tick_coordinator k)
tick_items k =
    let first : List Move = if is_empty k.moving then coordinator.begin_quitting k else flat_map (coordinator.hand_off_again k) k.moving in
    let later : Coordinator = fold coordinator_after k first in
    let quitting : List ℕ = unwrap_or (find (λ ss. not (is_empty ss)) (map (coordinator.homes_at k) (filter (λ r. is_among r k.quitting) (coordinator.registered k)))) [] in
    all_join is_shown_move first (flat_map (coordinator.host_again later) (shards later.set))
    (all_if is_shown_move (is_empty k.moving) (coordinator.begin_quitting k) (flat_map (coordinator.hand_off_again k) k.moving)
    (all_if is_shown_move (is_empty (coordinator.staying k)) [] (coordinator.begin quitting k) refl (begin_items quitting k))
    (all_each is_shown_move (coordinator.hand_off_again k) k.moving (λ x. all_if is_shown_move (is_empty x.awaited) (coordinator.hand_off k x) (map (λ r. post k.who r (body.BeginHandOff x.shard (coordinator.stamp k))) x.awaited)
    (hand_off_all is_shown_move k x (λ o. refl)) (posts_items k.who (body.BeginHandOff x.shard (coordinator.stamp k)) x.awaited refl))))
    (all_each is_shown_move (coordinator.host_again later) (shards later.set) (λ s. all_some is_shown_move (λ h. if coordinator.is_moving later s || slice_index_or later.started s false then [] else post later.who h (body.HostShard s (coordinator.stamp later)) ∷ []) (coordinator.home_of later s)
    (λ h. all_if is_shown_move (coordinator.is_moving later s || slice_index_or later.started s false) [] (post later.who h (body.HostShard s (coordinator.stamp later)) ∷ []) refl refl)))

-- Rules of which the delivery shows nothing.

pub rule_shown : (k : Known) (st : Node) (p : Coordinator → List Move) → ((x : Coordinator) → list_all is_shown_move (p x) ≡ true) → AreShownBeside k st (of_coordinator p st)
rule_shown k st p h = by st.coordinator
  where
    by : (o : Option Coordinator) → AreShownBeside k st (where_some (λ x. map by_coordinator (p x)) o)
    by None = λ ps. refl
    by (Some x) = coordinator_shown k st (p x) (h x)

pub terminate_lost_shown : (k : Known) (st : Node) (view : List Incarnation) → AreShownBeside k st (of_coordinator (coordinator.terminate_lost view) st)
terminate_lost_shown k st view = rule_shown k st (coordinator.terminate_lost view) (λ x. terminates_items (filter (λ r. not (is_among r view)) (coordinator.registered x)) x)

pub rebalance_shown : (k : Known) (st : Node) (limit : ℕ) → AreShownBeside k st (of_coordinator (coordinator.rebalance limit) st)
rebalance_shown k st limit = rule_shown k st (coordinator.rebalance limit) (rebalance_items limit)

pub tick_coordinator_shown : (k : Known) (st : Node) → AreShownBeside k st (of_coordinator coordinator.tick_coordinator st)
tick_coordinator_shown k st = rule_shown k st coordinator.tick_coordinator tick_items

pub register_from_shown : (k : Known) (st : Node) (from : Incarnation) (view : List Incarnation) → AreShownBeside k st (of_coordinator (coordinator.register_from from view) st)
register_from_shown k st from view = rule_shown k st (coordinator.register_from from view) (register_items from view)

pub get_home_shown : (k : Known) (st : Node) (from : Incarnation) (s : ℕ) → AreShownBeside k st (of_coordinator (coordinator.get_home from s) st)
get_home_shown k st from s = rule_shown k st (coordinator.get_home from s) (get_home_items from s)

pub shard_stopped_shown : (k : Known) (st : Node) (from : Incarnation) (s : ℕ) (given : Stamp) → AreShownBeside k st (of_coordinator (coordinator.shard_stopped from s given) st)
shard_stopped_shown k st from s given = rule_shown k st (coordinator.shard_stopped from s given) (stopped_items from s given)

-- Rules of which the delivery shows the silent moves.

-- the items of a rule show the rest, where the delivery has shown this of it
abbrev pub AreShownOnce : Known → Node → List Act → List Act → Type 0
AreShownOnce k st shows acts = (ps : List (Option Producer)) → shown k (with_producers ps (fold after st shows)) (items_of acts) ≡ with_producers ps (fold after st acts)

rule_once : (k : Known) (st : Node) (q p : Coordinator → List Move) → ((x : Coordinator) → AreShownOnce k st (map by_coordinator (q x)) (map by_coordinator (p x))) → AreShownOnce k st (of_coordinator q st) (of_coordinator p st)
rule_once k st q p h = by st.coordinator
  where
    by : (o : Option Coordinator) → AreShownOnce k st (where_some (λ x. map by_coordinator (q x)) o) (where_some (λ x. map by_coordinator (p x)) o)
    by None = λ ps. refl
    by (Some x) = h x

pub shard_started_shown : (k : Known) (st : Node) (from : Incarnation) (s : ℕ) → AreShownOnce k st (show_got from (body.ShardStarted s) st) (of_coordinator (coordinator.shard_started from s) st)
shard_started_shown k st from s = rule_once k st (coordinator.shard_started from s) (coordinator.shard_started from s) (λ x. by (is_at from (coordinator.home_of x s)))
  where
    by : (b : Bool) → AreShownOnce k st (map by_coordinator (if b then started s ∷ [] else [])) (map by_coordinator (if b then started s ∷ [] else []))
    by true = λ ps. refl
    by false = λ ps. refl

pub quit_shown : (k : Known) (st : Node) (from : Incarnation) → AreShownOnce k st (show_got from body.GracefulShutdownReq st) (of_coordinator (coordinator.quit from) st)
quit_shown k st from = rule_once k st (λ x. if is_among from (coordinator.registered x) then quits from ∷ [] else []) (coordinator.quit from)
    (λ x. let later : Coordinator = coordinator_after x (quits from) in
    let begins : List Move = coordinator.begin (coordinator.homes_at later from) later in
    let b : Bool = is_empty later.moving && not (is_empty (coordinator.staying later)) in
    by (if b then begins else []) (all_if is_shown_move b begins [] (begin_items (coordinator.homes_at later from) later) refl) (is_among from (coordinator.registered x)))
  where
    by : (ms : List Move) → list_all is_shown_move ms ≡ true → (b : Bool) → AreShownOnce k st (map by_coordinator (if b then quits from ∷ [] else [])) (map by_coordinator (if b then quits from ∷ ms else []))
    by ms h true = coordinator_shown k (after st (by_coordinator (quits from))) ms h
    by ms h false = λ ps. refl

-- Acknowledgements: posts in between change nothing.

posts_show : (k : Known) (now : Node) (ms : List Move) → list_all is_post ms ≡ true → shown k now (items_of (map by_coordinator ms)) ≡ now
posts_show k now [] h = refl
posts_show k now (made (item.Post p) ∷ ms) h =
    let n : (is_office_body p.body ≡ true) × (list_all is_post ms ≡ true) = and_both (is_office_body p.body) (list_all is_post ms) h in
    ap (λ x. shown (known_after k (item.Post p)) x (items_of (map by_coordinator ms))) (one p.from p.to p.body n.0) ∙ posts_show (known_after k (item.Post p)) now ms n.1
  where
    one : (from to : Incarnation) (b : Body) → is_office_body b ≡ true → shown k now (item.Post (record { from = from; to = to; body = b }) ∷ []) ≡ now
    one from to body.RegisterAck h = stays now (post from to body.RegisterAck) (λ y. refl)
    one from to (body.ShardHome s x stamp) h = stays now (post from to (body.ShardHome s x stamp)) (λ y. refl)
    one from to (body.HostShard s stamp) h = stays now (post from to (body.HostShard s stamp)) (λ y. refl)
    one from to (body.BeginHandOff s stamp) h = stays now (post from to (body.BeginHandOff s stamp)) (λ y. refl)
    one from to (body.HandOff s stamp) h = stays now (post from to (body.HandOff s stamp)) (λ y. refl)
    one from to b h = absurd (true≢false (sym h))
posts_show k now (m ∷ ms) h = absurd (true≢false (sym (and_both (is_post m) (list_all is_post ms) h).0))

posts_stay : (st : Node) (ms : List Move) → list_all is_post ms ≡ true → fold after st (map by_coordinator ms) ≡ st
posts_stay st [] h = refl
posts_stay st (made (item.Post p) ∷ ms) h =
    let n : (is_office_body p.body ≡ true) × (list_all is_post ms ≡ true) = and_both (is_office_body p.body) (list_all is_post ms) h in
    ap (λ x. fold after x (map by_coordinator ms)) (stays st (made (item.Post p)) (λ y. refl)) ∙ posts_stay st ms n.1
posts_stay st (m ∷ ms) h = absurd (true≢false (sym (and_both (is_post m) (list_all is_post ms) h).0))

-- of several shards, of each of which some are marked and then posted about
abbrev marks : Incarnation → ℕ → Moving → List Move
marks from s x = if is_among from x.awaited then acknowledged s from ∷ [] else []

abbrev answers : Incarnation → ℕ → Coordinator → Moving → List Move
answers from s k x = if is_among from x.awaited then acknowledged s from ∷ coordinator.hand_off_if_last from k x else []

answers_show : (k : Known) (now : Node) (from : Incarnation) (s : ℕ) (y : Coordinator) (xs : List Moving) → shown k now (items_of (map by_coordinator (flat_map (answers from s y) xs))) ≡ now
answers_show k now from s y [] = refl
answers_show k now from s y (x ∷ xs) = by (λ j. answers_show j now from s y xs) (is_among from x.awaited)
  where
    rest : List Move
    rest = flat_map (answers from s y) xs

    last : List Move
    last = coordinator.hand_off_if_last from y x

    are : list_all is_post last ≡ true
    are = last_all is_post from y x (λ o. refl)

    by : ((j : Known) → shown j now (items_of (map by_coordinator rest)) ≡ now) → (b : Bool) → shown k now (items_of (map by_coordinator ((if b then acknowledged s from ∷ last else []) ++ rest))) ≡ now
    by more false = more k
    by more true =
        ap (λ is. shown k now is) (coordinator_items (last ++ rest) ∙ (flat_map-append item_of last rest ∙ ap₂ (λ is js. is ++ js) (sym (coordinator_items last)) (sym (coordinator_items rest))))
        ∙ (shown_append k now (items_of (map by_coordinator last)) (items_of (map by_coordinator rest))
        ∙ (ap (λ n. shown (known_on k (items_of (map by_coordinator last))) n (items_of (map by_coordinator rest))) (posts_show k now last are) ∙ more (known_on k (items_of (map by_coordinator last)))))

answers_mark : (st : Node) (from : Incarnation) (s : ℕ) (y : Coordinator) (xs : List Moving) → fold after st (map by_coordinator (flat_map (marks from s) xs)) ≡ fold after st (map by_coordinator (flat_map (answers from s y) xs))
answers_mark st from s y [] = refl
answers_mark st from s y (x ∷ xs) = by (λ n. answers_mark n from s y xs) (is_among from x.awaited)
  where
    rest : List Move
    rest = flat_map (answers from s y) xs

    last : List Move
    last = coordinator.hand_off_if_last from y x

    are : list_all is_post last ≡ true
    are = last_all is_post from y x (λ o. refl)

    mid : Node
    mid = after st (by_coordinator (acknowledged s from))

    by : ((n : Node) → fold after n (map by_coordinator (flat_map (marks from s) xs)) ≡ fold after n (map by_coordinator rest)) → (b : Bool) → fold after st (map by_coordinator ((if b then acknowledged s from ∷ [] else []) ++ flat_map (marks from s) xs)) ≡ fold after st (map by_coordinator ((if b then acknowledged s from ∷ last else []) ++ rest))
    by more false = more st
    by more true =
        more mid
        ∙ (ap (λ n. fold after n (map by_coordinator rest)) (sym (posts_stay mid last are))
        ∙ (sym (fold-append after mid (map by_coordinator last) (map by_coordinator rest)) ∙ ap (fold after mid) (sym (map-append by_coordinator last rest))))

pub acknowledge_shown : (k : Known) (st : Node) (from : Incarnation) (s : ℕ) (given : Stamp) → AreShownOnce k st (show_got from (body.BeginHandOffAck s given) st) (of_coordinator (coordinator.acknowledge from s given) st)
acknowledge_shown k st from s given = rule_once k st (λ y. flat_map (marks from s) (coordinator.moving_at s given y)) (coordinator.acknowledge from s given)
    (λ y ps. let xs : List Moving = coordinator.moving_at s given y in
    answers_show k (with_producers ps (fold after st (map by_coordinator (flat_map (marks from s) xs)))) from s y xs ∙ ap (with_producers ps) (answers_mark st from s y xs))

-- Lead.

-- the slot is asked for, with the list that the queries know
asks_shown : (k : Known) (st : Node) (list : List Fact) (o : Option Incarnation) → k.world.lists.coordinator ≡ list → AreShownBeside k st (map by_coordinator (acquire_by slot.Coordinator st.who list o))
asks_shown k st list None e ps = ap (λ l. record (with_producers ps st) { coordinator = Some (new_coordinator st.set st.who (l ++ fact.Granted slot.Coordinator (epoch list + 1) st.who ∷ [])) }) e
asks_shown k st list (Some h) e ps = refl

pub lead_shown : (k : Known) (lists : SlotLists) (st : Node) → k.world.lists.coordinator ≡ lists.coordinator → AreShownBeside k st (lead lists st)
lead_shown k lists st known = beside_both k st asks (of_coordinator (coordinator.terminate_lost mid.region.view) mid) (by (is_at st.who (region.oldest st.region) && is_none st.coordinator)) (terminate_lost_shown (known_on k (items_of asks)) mid mid.region.view)
  where
    asks : List Act
    asks = if is_at st.who (region.oldest st.region) && is_none st.coordinator then map by_coordinator (acquire slot.Coordinator st.who lists.coordinator) else []

    mid : Node
    mid = fold after st asks

    by : (b : Bool) → AreShownBeside k st (if b then map by_coordinator (acquire slot.Coordinator st.who lists.coordinator) else [])
    by false = λ ps. refl
    by true = asks_shown k st lists.coordinator (holder lists.coordinator) known

-- a view that is taken changes no list
pub view_lists : (c : Script) (k : Known) (st : Node) (v : ℕ) (xs : List Incarnation) → k.world.set ≡ setting c → (known_on k (items_of (of_region (region.take_view v xs) st))).world.lists ≡ k.world.lists
view_lists c k st v xs set =
    let ms : List Move = region.take_view v xs st.region in
    let is : List Item = items_of (map by_region ms) in
    let h : Hand = record { lists = k.world.lists; live = []; version = 1 } in
    let n : Knows c (known_on k is) (fold (hand_after c) h (facts_in is)) k.packet = knows_on c k h k.packet is (record { set_is = set; lists_are = refl; packet_is = refl }) in
    n.lists_are ∙ ap (λ (g : Hand). g.lists) (ap (λ js. fold (hand_after c) h (facts_in js)) (region_items ms) ∙ free_hands c h (facts_in (flat_map item_of ms)) (free_facts ms ((region_is_free st.region).viewed v xs)))

-- so Lead is shown after it
pub view_lead_shown : (c : Script) (k : Known) (lists : SlotLists) (st : Node) (v : ℕ) (xs : List Incarnation) → k.world.set ≡ setting c → k.world.lists ≡ lists
    → let first : List Act = of_region (region.take_view v xs) st in AreShownBeside (known_on k (items_of first)) (fold after st first) (lead lists (fold after st first))
view_lead_shown c k lists st v xs set known =
    let first : List Act = of_region (region.take_view v xs) st in
    lead_shown (known_on k (items_of first)) lists (fold after st first) (ap (λ (l : SlotLists). l.coordinator) (view_lists c k st v xs set ∙ known))

-- The inputs as wholes.

rule_apart : (p : Coordinator → List Move) (st : Node) → list_all is_apart (of_coordinator p st) ≡ true
rule_apart p st = all_some is_apart (λ x. map by_coordinator (p x)) st.coordinator (λ x. coordinator_apart (p x))

office_whole : (k : Known) (i : Input) (st : Node) (q p : Coordinator → List Move) → opened i st ≡ fold after st (of_coordinator q st) → AreShownOnce k st (of_coordinator q st) (of_coordinator p st) → IsTidy st → IsShown k i st (of_coordinator p st)
office_whole k i st q p opens shows tidy = record {
  shown_is = ap (λ n. shown k n (items_of (of_coordinator p st))) opens
      ∙ own_shown k (fold after st (of_coordinator q st)) st (of_coordinator p st) shows (producers_stay st (of_coordinator q st) (rule_apart q st)) (rule_apart p st);
  tidy = office_tidy st (of_coordinator p st) (office_rule p st) tidy;
}

-- of which the input shows nothing first
beside_whole : (k : Known) (i : Input) (st : Node) (p : Coordinator → List Move) → opened i st ≡ st → AreShownBeside k st (of_coordinator p st) → IsTidy st → IsShown k i st (of_coordinator p st)
beside_whole k i st p opens shows tidy = record {
  shown_is = ap (λ n. shown k n (items_of (of_coordinator p st))) opens ∙ own_shown k st st (of_coordinator p st) shows refl (rule_apart p st);
  tidy = office_tidy st (of_coordinator p st) (office_rule p st) tidy;
}

pub register_whole : (k : Known) (lists : SlotLists) (st : Node) (from to : Incarnation) → IsTidy st → IsShown k (input.Packet (packet_for from to body.Register)) st (packet lists from body.Register st)
register_whole k lists st from to tidy = beside_whole k (input.Packet (packet_for from to body.Register)) st (coordinator.register_from from st.region.view) refl (register_from_shown k st from st.region.view) tidy

pub get_home_whole : (k : Known) (lists : SlotLists) (st : Node) (from to : Incarnation) (s : ℕ) → IsTidy st → IsShown k (input.Packet (packet_for from to (body.GetShardHome s))) st (packet lists from (body.GetShardHome s) st)
get_home_whole k lists st from to s tidy = beside_whole k (input.Packet (packet_for from to (body.GetShardHome s))) st (coordinator.get_home from s) refl (get_home_shown k st from s) tidy

pub shard_stopped_whole : (k : Known) (lists : SlotLists) (st : Node) (from to : Incarnation) (s : ℕ) (given : Stamp) → IsTidy st → IsShown k (input.Packet (packet_for from to (body.ShardStopped s given))) st (packet lists from (body.ShardStopped s given) st)
shard_stopped_whole k lists st from to s given tidy = beside_whole k (input.Packet (packet_for from to (body.ShardStopped s given))) st (coordinator.shard_stopped from s given) refl (shard_stopped_shown k st from s given) tidy

pub shard_started_whole : (k : Known) (lists : SlotLists) (st : Node) (from to : Incarnation) (s : ℕ) → IsTidy st → IsShown k (input.Packet (packet_for from to (body.ShardStarted s))) st (packet lists from (body.ShardStarted s) st)
shard_started_whole k lists st from to s tidy = office_whole k (input.Packet (packet_for from to (body.ShardStarted s))) st (coordinator.shard_started from s) (coordinator.shard_started from s) refl (shard_started_shown k st from s) tidy

pub quit_whole : (k : Known) (lists : SlotLists) (st : Node) (from to : Incarnation) → IsTidy st → IsShown k (input.Packet (packet_for from to body.GracefulShutdownReq)) st (packet lists from body.GracefulShutdownReq st)
quit_whole k lists st from to tidy = office_whole k (input.Packet (packet_for from to body.GracefulShutdownReq)) st (λ x. if is_among from (coordinator.registered x) then quits from ∷ [] else []) (coordinator.quit from) refl (quit_shown k st from) tidy

pub acknowledge_whole : (k : Known) (lists : SlotLists) (st : Node) (from to : Incarnation) (s : ℕ) (given : Stamp) → IsTidy st → IsShown k (input.Packet (packet_for from to (body.BeginHandOffAck s given))) st (packet lists from (body.BeginHandOffAck s given) st)
acknowledge_whole k lists st from to s given tidy = office_whole k (input.Packet (packet_for from to (body.BeginHandOffAck s given))) st (λ y. flat_map (marks from s) (coordinator.moving_at s given y)) (coordinator.acknowledge from s given) refl (acknowledge_shown k st from s given) tidy

pub rebalance_whole : (k : Known) (sends : List (List Sending)) (lists : SlotLists) (st : Node) (limit : ℕ) → IsTidy st → IsShown k (input.Rebalance limit) st (turn sends lists (input.Rebalance limit) st)
rebalance_whole k sends lists st limit tidy = beside_whole k (input.Rebalance limit) st (coordinator.rebalance limit) refl (rebalance_shown k st limit) tidy
