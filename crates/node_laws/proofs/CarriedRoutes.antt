-- What a node's rules tell and post is carried by what is in hand: rules in turn, quiet ones, and routing.
use Rattle.std.proofs.Common.{◌≡◌, ℕ, ◌-◌, ◌<◌, List, [], ◌∷◌, ◌++◌, length, map, sym, ap, subst, ◌∙◌, refl, true, false}
use Rattle.std.specs.Prelude.{Bool, ◌&&◌, ◌==◌, not, nat_lt, nat_le, sum_by, slice_index_or, fold, Option, Some, None, is_none, if◌then◌else◌}
use Rattle.std.specs.List.{list_all, flat_map}
use Rattle.std.proofs.lemmas.List.{append-nil}
use Rattle.yard_model.specs.declared.fact.Fact.{Fact}
use Rattle.yard_model.specs.declared.fact.Fact.TheVariants as fact
use Rattle.yard_model.specs.declared.incarnation.Incarnation.{Incarnation}
use Rattle.yard_model.specs.declared.incarnation.Slot.{Slot}
use Rattle.yard_model.specs.declared.incarnation.Stamp.{Stamp}
use Rattle.yard_model.specs.declared.packet.Body.{Body}
use Rattle.yard_model.specs.declared.packet.Body.TheVariants as body
use Rattle.yard_model.specs.declared.packet.Message.{Message}
use Rattle.yard_model.specs.Coordinator.{Coordinator}
use Rattle.yard_model.specs.Entities as entities
use Rattle.yard_model.specs.Entities.{hosted}
use Rattle.yard_model.specs.Genuine.{is_genuine}
use Rattle.yard_model.specs.Move.{Move, marked, released, told, post}
use Rattle.yard_model.specs.Node.{Node, Act, by_region, by_entities, by_producer, by_coordinator, after, items_of, of_region, of_entities, of_producer, of_coordinator, is_running, acquire_by, route, release, route_numbers}
use Rattle.yard_model.specs.Producer as producer
use Rattle.yard_model.specs.Producer.{Producer}
use Rattle.yard_model.specs.Region as region
use Rattle.yard_model.specs.Region.{Region}
use Rattle.yard_model.specs.Script.{Script, Setting, IsScript}
use Rattle.yard_model.specs.Setting.{shard_of, shards}
use Rattle.yard_model.specs.SlotLists.{SlotLists, queue_list}
use Rattle.yard_model.specs.SlotReads.{queued}
use Rattle.yard_model.specs.Turns.{in_turn, for_each, where_some}
use Rattle.yard_model.specs.Words.{is_at, is_same, is_below, is_empty, at}
use Rattle.plain_laws.proofs.Booleans.{and_both, both, all_map}
use Rattle.yard_laws.proofs.PartsLaws.{region_items, entities_items, producer_items, coordinator_items}
use Rattle.actor_laws.specs.Owes.{Hand, facts_in, hand_after}
use Rattle.actor_laws.proofs.Rules.{lost_all}
use Rattle.plain_laws.proofs.Lists.{all_join, all_if, all_some, all_each}
use Rattle.node_laws.specs.Carried.{is_queued_in, Carries}
use Rattle.node_laws.specs.NodeFound.{NodeKeepsIf}
use Rattle.node_laws.specs.NodeStands.{IsProducerAt, IsSoundNode, NodeInHand}
use Rattle.actor_laws.specs.ProducerStands.{is_queued_number, is_sent_well}
use Rattle.actor_laws.specs.RegionStands as regions
use Rattle.actor_laws.specs.RegionStands.{is_kept_well}
use Rattle.node_laws.proofs.CarriedEntities.{by_moves, deliver_carried}
use Rattle.node_laws.proofs.CarriedLists.{is_carried_move, are_carried, queued_after, all_queued_after, carried_both, quiet_carried, quiet_moves, acts_carry}
use Rattle.node_laws.proofs.NodeKeeps.{NodeKeeps}
use Rattle.node_laws.proofs.NodeLeases.{plain_if}
use Rattle.node_laws.proofs.NodeMessages.{RouteLaws, routed_node, released_node}
use Rattle.node_laws.proofs.NodeParts.{items_both, node_both}
use Rattle.node_laws.proofs.NodeRoutes.{same_set}
use Rattle.actor_laws.proofs.EntitiesStops.{running_hosted}
use Rattle.node_laws.proofs.Quiet.{is_quiet_body, is_quiet_item, is_quiet, quiet_items}

-- Acts that are carried, with hands of this kind.

abbrev pub Carrying : (P : Hand → Type 0) (c : Script) (st : Node) (acts : List Act) → Type 0
Carrying P c st acts = (h : Hand) → NodeInHand c h st → P h → Carries h.lists st → are_carried c h (items_of acts) ≡ true

abbrev pub Any : Hand → Type 0
Any h = Unit {0}

pub carry_both : (P Q : Hand → Type 0) (c : Script) (v : List ℕ → ℕ → ℕ → Bool) (st : Node) (xs ys : List Act) → NodeKeepsIf P c v st xs → Carrying P c st xs → Carrying Q c (fold after st xs) ys
    → ((h : Hand) → NodeInHand c h st → P h → Q (fold (hand_after c) h (facts_in (items_of xs)))) → Carrying P c st (xs ++ ys)
carry_both P Q c v st xs ys keeps f g on = λ h i p k. ap (are_carried c h) (items_both xs ys)
    ∙ carried_both c h (items_of xs) (items_of ys) (f h i p k) (g (fold (hand_after c) h (facts_in (items_of xs))) (keeps.goes_along h i p) (on h i p) (acts_carry c xs st h (f h i p k) k))

-- and then acts that ask for nothing
pub carry_then : (P : Hand → Type 0) (c : Script) (v : List ℕ → ℕ → ℕ → Bool) (st : Node) (xs ys : List Act) → NodeKeepsIf P c v st xs → Carrying P c st xs → Carrying Any c (fold after st xs) ys → Carrying P c st (xs ++ ys)
carry_then P c v st xs ys keeps f g = carry_both P Any c v st xs ys keeps f g (λ h i p. tt)

pub carry_if : (P : Hand → Type 0) (c : Script) (st : Node) (b : Bool) (xs ys : List Act) → (b ≡ true → Carrying P c st xs) → (b ≡ false → Carrying P c st ys) → Carrying P c st (if b then xs else ys)
carry_if P c st true xs ys f g = f refl
carry_if P c st false xs ys f g = g refl

pub carry_none : (P : Hand → Type 0) (c : Script) (st : Node) → Carrying P c st []
carry_none P c st = λ h i p k. refl

pub carry_end : (P : Hand → Type 0) (c : Script) (st : Node) (acts : List Act) → Carrying P c st acts → Carrying P c st (acts ++ [])
carry_end P c st acts f = subst (Carrying P c st) (sym (append-nil acts)) f

-- Quiet acts.

abbrev pub Quiet : List Act → Type 0
Quiet acts = list_all is_quiet_item (items_of acts) ≡ true

pub carry_quiet : (P : Hand → Type 0) (c : Script) (st : Node) (acts : List Act) → Quiet acts → Carrying P c st acts
carry_quiet P c st acts q = λ h i p k. quiet_carried c h (items_of acts) q

pub quiet_both : (xs ys : List Act) → Quiet xs → Quiet ys → Quiet (xs ++ ys)
quiet_both xs ys f g = ap (list_all is_quiet_item) (items_both xs ys) ∙ all_join is_quiet_item (items_of xs) (items_of ys) f g

pub quiet_if : (b : Bool) (xs ys : List Act) → Quiet xs → Quiet ys → Quiet (if b then xs else ys)
quiet_if true xs ys f g = f
quiet_if false xs ys f g = g

pub region_quiet : (ms : List Move) → list_all is_quiet ms ≡ true → Quiet (map by_region ms)
region_quiet ms h = ap (list_all is_quiet_item) (region_items ms) ∙ quiet_items ms h

pub entities_quiet : (ms : List Move) → list_all is_quiet ms ≡ true → Quiet (map by_entities ms)
entities_quiet ms h = ap (list_all is_quiet_item) (entities_items ms) ∙ quiet_items ms h

pub office_quiet : (ms : List Move) → list_all is_quiet ms ≡ true → Quiet (map by_coordinator ms)
office_quiet ms h = ap (list_all is_quiet_item) (coordinator_items ms) ∙ quiet_items ms h

pub queue_quiet : (p : ℕ) (ms : List Move) → list_all is_quiet ms ≡ true → Quiet (map (by_producer p) ms)
queue_quiet p ms h = ap (list_all is_quiet_item) (producer_items p ms) ∙ quiet_items ms h

pub coordinated_quiet : (p : Coordinator → List Move) (st : Node) → ((k : Coordinator) → list_all is_quiet (p k) ≡ true) → Quiet (of_coordinator p st)
coordinated_quiet p st h = by st.coordinator
  where
    by : (o : Option Coordinator) → Quiet (where_some (λ k. map by_coordinator (p k)) o)
    by None = refl
    by (Some k) = office_quiet (p k) (h k)

pub produced_quiet : (p : ℕ) (f : Producer → List Move) (st : Node) → ((k : Producer) → list_all is_quiet (f k) ≡ true) → Quiet (of_producer p f st)
produced_quiet p f st h = by (at st.producers (p - 1))
  where
    by : (o : Option Producer) → Quiet (where_some (λ k. map (by_producer p) (f k)) o)
    by None = refl
    by (Some k) = queue_quiet p (f k) (h k)

pub acquire_quiet : (s : Slot) (who : Incarnation) (list : List Fact) (o : Option Incarnation) → list_all is_quiet (acquire_by s who list o) ≡ true
acquire_quiet s who list None = refl
acquire_quiet s who list (Some x) = refl

-- The region's rules but routing are quiet.

oldest_quiet : (b : Body) (r : Region) → is_quiet_body b ≡ true → list_all is_quiet (region.post_oldest b r) ≡ true
oldest_quiet b r h = all_some is_quiet (λ x. post r.who x b ∷ []) (region.oldest r) (λ x. both (is_quiet_body b) true h refl)

pub register_quiet : (r : Region) → list_all is_quiet (region.register r) ≡ true
register_quiet r = all_some is_quiet (λ x. if is_at x r.registered then [] else post r.who x body.Register ∷ []) (region.oldest r) (λ x. all_if is_quiet (is_at x r.registered) [] (post r.who x body.Register ∷ []) refl refl)

forget_quiet : (s : ℕ) (r : Region) → list_all is_quiet (region.forget s r) ≡ true
forget_quiet s r = all_if is_quiet (is_none (region.home r s)) [] (told (fact.Forget r.who s) ∷ []) refl refl

pub begin_quiet : (s : ℕ) (stamp : Stamp) (from : Incarnation) (r : Region) → list_all is_quiet (region.begin_hand_off s stamp from r) ≡ true
begin_quiet s stamp from r =
    let first : List Move = if is_below (region.mark r s) stamp then marked s stamp ∷ region.forget s r else [] in
    all_if is_quiet (is_below stamp (region.mark r s)) [] (first ++ post r.who from (body.BeginHandOffAck s stamp) ∷ []) refl
    (all_join is_quiet first (post r.who from (body.BeginHandOffAck s stamp) ∷ []) (all_if is_quiet (is_below (region.mark r s) stamp) (marked s stamp ∷ region.forget s r) [] (forget_quiet s r) refl) refl)

pub learn_quiet : (s : ℕ) (h : Incarnation) (stamp : Stamp) (r : Region) → list_all is_quiet (region.learn s h stamp r) ≡ true
learn_quiet s h stamp r = all_if is_quiet (is_at h (region.home r s)) [] (told (fact.Home r.who s h) ∷ []) refl refl

pub leave_quiet : (r : Region) → list_all is_quiet (region.leave r) ≡ true
leave_quiet r = oldest_quiet body.GracefulShutdownReq r refl

pub tick_region_quiet : (r : Region) → list_all is_quiet (region.tick_region r) ≡ true
tick_region_quiet r =
    let mid : List Move = if r.leaving && region.is_some_home r then region.post_oldest body.GracefulShutdownReq r else [] in
    let last : List Move = flat_map (region.ask_again r) (shards r.set) in
    all_join is_quiet (region.register r ++ mid) last
    (all_join is_quiet (region.register r) mid (register_quiet r) (all_if is_quiet (r.leaving && region.is_some_home r) (region.post_oldest body.GracefulShutdownReq r) [] (oldest_quiet body.GracefulShutdownReq r refl) refl))
    (all_each is_quiet (region.ask_again r) (shards r.set) (λ s. all_if is_quiet (is_none (region.home r s) && not (is_empty (region.kept_of r.kept s))) (region.post_oldest (body.GetShardHome s) r) [] (oldest_quiet (body.GetShardHome s) r refl) refl))

pub view_quiet : (v : ℕ) (xs : List Incarnation) (r : Region) → list_all is_quiet (region.take_view v xs r) ≡ true
view_quiet v xs r = lost_all is_quiet (λ x s. refl) xs r

-- Routing.

keep_carried : (c : Script) (lists : SlotLists) (m : Message) (r : Region) → is_queued_in lists m ≡ true → list_all (is_carried_move c lists) (region.keep m r) ≡ true
keep_carried c lists m r q = all_if (is_carried_move c lists) (nat_lt (sum_by length r.kept) r.set.config.buffer) (told (fact.Kept r.who m) ∷ []) (told (fact.Dropped r.who m) ∷ []) (both (is_queued_in lists m) true q refl) refl

away_carried : (c : Script) (lists : SlotLists) (m : Message) (r : Region) (o : Option Incarnation) → is_queued_in lists m ≡ true → list_all (is_carried_move c lists) (region.route_by m r o) ≡ true
away_carried c lists m r None q = all_join (is_carried_move c lists) (region.keep m r) (region.ask (shard_of r.set m.entity) r) (keep_carried c lists m r q)
    (quiet_moves c lists (region.ask (shard_of r.set m.entity) r) (all_if is_quiet (slice_index_or r.asked (shard_of r.set m.entity) false) [] (region.post_oldest (body.GetShardHome (shard_of r.set m.entity)) r) refl (oldest_quiet (body.GetShardHome (shard_of r.set m.entity)) r refl)))
away_carried c lists m r (Some h) q = all_if (is_carried_move c lists) (is_same h r.who) (region.keep m r) (post r.who h (body.Sequenced m) ∷ []) (keep_carried c lists m r q) (both (is_queued_in lists m) true q refl)

abbrev pub IsQueued : Message → Hand → Type 0
IsQueued m h = is_queued_in h.lists m ≡ true

-- a message that is queued
pub route_carry : (c : Script) (st : Node) (m : Message) → IsSoundNode c st → Carrying (IsQueued m) c st (route m st)
route_carry c st m is =
    let s : ℕ = shard_of st.set m.entity in
    let b : Bool = region.is_home st.region s && is_running st s in
    carry_if (IsQueued m) c st b (of_entities (entities.deliver m) st) (of_region (region.route_away m) st)
    (λ here. λ h i q k. ap (are_carried c h) (entities_items (entities.deliver m st.entities))
    ∙ deliver_carried c st.entities m h is.entities i.entities
    (subst (λ (set : Setting). entities.is_hosted st.entities (shard_of set m.entity) ≡ true) (same_set c st is) (running_hosted (hosted st.entities s) (and_both (region.is_home st.region s) (is_running st s) here).1)) q)
    (λ away. λ h i q k. ap (are_carried c h) (region_items (region.route_away m st.region))
    ∙ by_moves c h (region.route_away m st.region) (away_carried c h.lists m st.region (region.home st.region (shard_of st.region.set m.entity)) q))

-- The kept messages of a shard.

abbrev AreQueued : List Message → Hand → Type 0
AreQueued ms h = list_all (is_queued_in h.lists) ms ≡ true

release_each_carry : (c : Script) (v : List ℕ → ℕ → ℕ → Bool) (s : ℕ) (set : Setting) (ms : List Message) (st : Node) → RouteLaws → IsScript c → IsSoundNode c st → list_all (is_kept_well c set s) ms ≡ true
    → Carrying (AreQueued ms) c st (for_each after (λ m. in_turn after (λ st. by_region (released s) ∷ []) (route m)) ms st)
release_each_carry c v s set [] st laws script is good = carry_none (AreQueued []) c st
release_each_carry c v s set (m ∷ ms) st laws script is good =
    let n : (is_kept_well c set s m ≡ true) × (list_all (is_kept_well c set s) ms ≡ true) = and_both (is_kept_well c set s m) (list_all (is_kept_well c set s) ms) good in
    let genuine : is_genuine c m ≡ true = (and_both (is_genuine c m) (shard_of set m.entity == s) n.0).0 in
    let takes : List Act = by_region (released s) ∷ [] in
    let first : NodeKeeps c v st takes = released_node c v s st laws script is in
    let mid : Node = after st (by_region (released s)) in
    let acts : List Act = by_region (released s) ∷ route m mid in
    let one : NodeKeeps c v st acts = node_both c v st takes (route m mid) first (routed_node c v mid m laws script first.stands genuine) in
    let later : Node = fold after st acts in
    let all : Hand → Type 0 = AreQueued (m ∷ ms) in
    carry_both all (AreQueued ms) c v st acts (for_each after (λ m. in_turn after (λ st. by_region (released s) ∷ []) (route m)) ms later) (plain_if all c v st acts one)
    (carry_both all (IsQueued m) c v st takes (route m mid) (plain_if all c v st takes first) (carry_quiet all c st takes refl) (route_carry c mid m first.stands)
    (λ h i q. (and_both (is_queued_in h.lists m) (list_all (is_queued_in h.lists) ms) q).0))
    (release_each_carry c v s set ms later laws script one.stands n.1)
    (λ h i q. all_queued_after c h (facts_in (items_of acts)) ms (and_both (is_queued_in h.lists m) (list_all (is_queued_in h.lists) ms) q).1)

pub release_carry : (c : Script) (v : List ℕ → ℕ → ℕ → Bool) (s : ℕ) (st : Node) → RouteLaws → IsScript c → IsSoundNode c st → Carrying Any c st (release s st)
release_carry c v s st laws script is =
    let r : regions.IsRegion c st.region = is.region in
    let ms : List Message = region.kept_of st.region.kept s in
    carry_if Any c st (region.is_routable st.region s (is_running st s)) (for_each after (λ m. in_turn after (λ st. by_region (released s) ∷ []) (route m)) ms st) []
    (λ b. λ h i p k. release_each_carry c v s st.region.set ms st laws script is (r.kept_are s) h i (k.kept s) k)
    (λ b. carry_none Any c st)

-- The messages of a producer's numbers.

abbrev AreNumbersQueued : List ℕ → Producer → List ℕ → Hand → Type 0
AreNumbersQueued e k ns h = list_all (λ n. is_queued_in h.lists (producer.message_of e k n)) ns ≡ true

route_each_carry : (c : Script) (v : List ℕ → ℕ → ℕ → Bool) (e : List ℕ) (k : Producer) (ns : List ℕ) (st : Node) → RouteLaws → IsScript c → IsSoundNode c st → list_all (is_sent_well c e k) ns ≡ true
    → Carrying (AreNumbersQueued e k ns) c st (for_each after (λ n. route (producer.message_of e k n)) ns st)
route_each_carry c v e k [] st laws script is good = carry_none (AreNumbersQueued e k []) c st
route_each_carry c v e k (n ∷ ns) st laws script is good =
    let g : (is_sent_well c e k n ≡ true) × (list_all (is_sent_well c e k) ns ≡ true) = and_both (is_sent_well c e k n) (list_all (is_sent_well c e k) ns) good in
    let m : Message = producer.message_of e k n in
    let acts : List Act = route m st in
    let first : NodeKeeps c v st acts = routed_node c v st m laws script is g.0 in
    let later : Node = fold after st acts in
    let all : Hand → Type 0 = AreNumbersQueued e k (n ∷ ns) in
    carry_both all (AreNumbersQueued e k ns) c v st acts (for_each after (λ n. route (producer.message_of e k n)) ns later) (plain_if all c v st acts first)
    (λ h i q x. route_carry c st m is h i (and_both (is_queued_in h.lists m) (list_all (λ n. is_queued_in h.lists (producer.message_of e k n)) ns) q).0 x)
    (route_each_carry c v e k ns later laws script first.stands g.1)
    (λ h i q. all_map (λ n. is_queued_in h.lists (producer.message_of e k n)) (λ n. is_queued_in (fold (hand_after c) h (facts_in (items_of acts))).lists (producer.message_of e k n))
    (λ n x. queued_after c h (facts_in (items_of acts)) (producer.message_of e k n) x) ns (and_both (is_queued_in h.lists m) (list_all (λ n. is_queued_in h.lists (producer.message_of e k n)) ns) q).1)

pub route_numbers_carry : (c : Script) (v : List ℕ → ℕ → ℕ → Bool) (p : ℕ) (e : List ℕ) (f : Producer → List ℕ) (st : Node) → RouteLaws → IsScript c → IsSoundNode c st → 0 < p
    → ((k : Producer) → at st.producers (p - 1) ≡ Some k → list_all (is_sent_well c e k) (f k) ≡ true)
    → ((k : Producer) → at st.producers (p - 1) ≡ Some k → list_all (is_queued_number e k) (f k) ≡ true) → Carrying Any c st (route_numbers p e f st)
route_numbers_carry c v p e f st laws script is above well numbers = by (at st.producers (p - 1)) refl
  where
    queued_are : (k : Producer) → at st.producers (p - 1) ≡ Some k → (h : Hand) → NodeInHand c h st → AreNumbersQueued e k (f k) h
    queued_are k found h i =
        let a : IsProducerAt c st.who p k = is.producers p k above found in
        let same : queue_list h.lists k.number ≡ k.entries = ap (queue_list h.lists) a.number_is ∙ i.producers p k above found in
        all_map (is_queued_number e k) (λ n. is_queued_in h.lists (producer.message_of e k n))
        (λ n q. subst (λ l. nat_le n (queued e l) ≡ true) (sym same) (and_both (nat_lt 0 n) (nat_le n (queued e k.entries)) q).1) (f k) (numbers k found)

    by : (o : Option Producer) → at st.producers (p - 1) ≡ o → Carrying Any c st (where_some (λ k. for_each after (λ n. route (producer.message_of e k n)) (f k) st) o)
    by None found = carry_none Any c st
    by (Some k) found = λ h i p x. route_each_carry c v e k (f k) st laws script is (well k found) h i (queued_are k found h i) x
