-- Where a node is the coordinator, each registered region is in its view: every input keeps that.
use Rattle.std.proofs.Common.{◌≡◌, ℕ, ◌-◌, List, [], ◌∷◌, map, sym, ap, subst, ◌∙◌, refl, true}
use Rattle.std.specs.Prelude.{Bool, ◌&&◌, not, fold, is_none, Option, Some, None, IfSome, slice_index_or, if◌then◌else◌}
use Rattle.std.specs.List.{list_all}
use Rattle.std.proofs.lemmas.List.Sums.{fold-append}
use Rattle.yard_model.specs.declared.charter.Sending.{Sending}
use Rattle.yard_model.specs.declared.fact.Fact.{Fact}
use Rattle.yard_model.specs.declared.fact.Fact.TheVariants as fact
use Rattle.yard_model.specs.declared.input.Input.TheVariants as input
use Rattle.yard_model.specs.declared.out.Item.TheVariants as item
use Rattle.yard_model.specs.declared.packet.Body.{Body}
use Rattle.yard_model.specs.declared.packet.Body.TheVariants as body
use Rattle.yard_model.specs.declared.packet.Message.{Message}
use Rattle.yard_model.specs.declared.incarnation.Incarnation.{Incarnation}
use Rattle.yard_model.specs.declared.incarnation.Slot.TheVariants as slot
use Rattle.yard_model.specs.declared.incarnation.Stamp.{Stamp}
use Rattle.yard_model.specs.Coordinator as coordinator
use Rattle.yard_model.specs.Coordinator.{Coordinator, coordinator_after, coordinator_step}
use Rattle.yard_model.specs.Entities as entities
use Rattle.yard_model.specs.Move.{Move, made, took, released, demanded, pushed, post}
use Rattle.yard_model.specs.Node.{Node, Act, Rule, by_region, by_entities, by_producer, by_coordinator, after, coordinator_by, of_region, of_entities, of_producer, of_coordinator, all_in_turn, is_running, route, release, route_numbers, acquire, start, lead, push, send_by, send, start_again, send_again, tick, shard_home, host_shard, hand_off, request, ack, packet, turn}
use Rattle.yard_model.specs.Producer as producer
use Rattle.yard_model.specs.Producer.{Producer}
use Rattle.yard_model.specs.Region as region
use Rattle.yard_model.specs.Script.{Setting}
use Rattle.yard_model.specs.Setting.{shard_of, shards, producers}
use Rattle.yard_model.specs.SlotLists.{SlotLists, shard_list, queue_list}
use Rattle.yard_model.specs.SlotReads.{regions}
use Rattle.yard_model.specs.Turns.{in_turn, for_each}
use Rattle.yard_model.specs.Words.{at, is_same, is_among}
use Rattle.plain_laws.proofs.Booleans.{true_is_not_false, and_both, both, all_filter}
use Rattle.actor_laws.proofs.Rules.{is_viewless, region_view}
use Rattle.plain_laws.proofs.Lists.{all_join, all_if, all_some}
use Rattle.node_laws.specs.NodeStands.{IsViewed}
use Rattle.node_laws.specs.NodeTurns.{TurnViewed}
use Rattle.plain_laws.proofs.Read.{regions_more}
use Rattle.node_laws.proofs.NodeCoordinator.{is_calm, Calm, coordinate_calm, tick_calm, rebalance_calm}
use Rattle.node_laws.proofs.NodeLeases.{lead_viewed, view_viewed}
use Rattle.node_laws.proofs.NodeRoutes.{oldest_viewless, route_viewless, learn_viewless, begin_viewless, tick_viewless}

-- an act that leaves the view, and registers only regions of this one
abbrev is_calm_act : List Incarnation → Act → Bool
is_calm_act v (by_region m) = is_viewless m
is_calm_act v (by_coordinator m) = is_calm v m
is_calm_act v a = true

-- The coordinator's list.

regions_calm : (v : List Incarnation) (list : List Fact) (m : Move) → is_calm v m ≡ true → list_all (λ r. is_among r v) (regions list) ≡ true → list_all (λ r. is_among r v) (regions (coordinator_step list m)) ≡ true
regions_calm v list (made (item.Fact (fact.Registered x))) h k = ap (list_all (λ r. is_among r v)) (regions_more list (fact.Registered x)) ∙ all_join (λ r. is_among r v) (regions list) (x ∷ []) k (both (is_among x v) true h refl)
regions_calm v list (made (item.Fact (fact.Terminated x))) h k = ap (list_all (λ r. is_among r v)) (regions_more list (fact.Terminated x)) ∙ all_filter (λ r. is_among r v) (λ y. not (is_same x y)) (regions list) k
regions_calm v list (made (item.Fact (fact.Allocated s x))) h k = ap (list_all (λ r. is_among r v)) (regions_more list (fact.Allocated s x)) ∙ k
regions_calm v list (made (item.Fact (fact.Deallocated s))) h k = ap (list_all (λ r. is_among r v)) (regions_more list (fact.Deallocated s)) ∙ k
regions_calm v list m h k = k

office_calm : (v : List Incarnation) (set : Setting) (who : Incarnation) (o : Option Coordinator) (m : Move) → is_calm v m ≡ true → IfSome o (λ (k : Coordinator). list_all (λ r. is_among r v) (regions k.entries) ≡ true)
    → IfSome (coordinator_by set who o m) (λ (k : Coordinator). list_all (λ r. is_among r v) (regions k.entries) ≡ true)
office_calm v set who o (took s list) h k = absurd (true_is_not_false (sym h))
office_calm v set who None m h k = subst (λ o. IfSome o (λ (k : Coordinator). list_all (λ r. is_among r v) (regions k.entries) ≡ true)) (sym (none_stays set who m h)) tt
  where
    none_stays : (set : Setting) (who : Incarnation) (m : Move) → is_calm v m ≡ true → coordinator_by set who None m ≡ None
    none_stays set who (took s list) h = absurd (true_is_not_false (sym h))
    none_stays set who m h = refl
office_calm v set who (Some j) m h k = subst (λ o. IfSome o (λ (k : Coordinator). list_all (λ r. is_among r v) (regions k.entries) ≡ true)) (sym (some_stays set who j m h)) (regions_calm v j.entries m h k)
  where
    some_stays : (set : Setting) (who : Incarnation) (j : Coordinator) (m : Move) → is_calm v m ≡ true → coordinator_by set who (Some j) m ≡ Some (coordinator_after j m)
    some_stays set who j (took s list) h = absurd (true_is_not_false (sym h))
    some_stays set who j m h = refl

-- Acts.

view_stays : (st : Node) (a : Act) → is_calm_act st.region.view a ≡ true → (after st a).region.view ≡ st.region.view
view_stays st (by_region m) h = region_view st.region (m ∷ []) (both (is_viewless m) true h refl)
view_stays st (by_coordinator m) h = refl
view_stays st (by_entities m) h = refl
view_stays st (by_producer p m) h = refl

one_calm : (st : Node) (a : Act) → is_calm_act st.region.view a ≡ true → IsViewed st → IsViewed (after st a)
one_calm st (by_region m) h k = subst (λ v. IfSome st.coordinator (λ (k : Coordinator). list_all (λ r. is_among r v) (regions k.entries) ≡ true)) (sym (view_stays st (by_region m) h)) k
one_calm st (by_coordinator m) h k = office_calm st.region.view st.set st.who st.coordinator m h k
one_calm st (by_entities m) h k = k
one_calm st (by_producer p m) h k = k

calm_viewed : (st : Node) (acts : List Act) → list_all (is_calm_act st.region.view) acts ≡ true → IsViewed st → IsViewed (fold after st acts)
calm_viewed st [] h k = k
calm_viewed st (a ∷ acts) h k =
    let n : (is_calm_act st.region.view a ≡ true) × (list_all (is_calm_act st.region.view) acts ≡ true) = and_both (is_calm_act st.region.view a) (list_all (is_calm_act st.region.view) acts) h in
    calm_viewed (after st a) acts (subst (λ v. list_all (is_calm_act v) acts ≡ true) (sym (view_stays st a n.0)) n.1) (one_calm st a n.0 k)

-- Rules.

abbrev Calmly : List Incarnation → Rule → Type 0
Calmly v r = (st : Node) → list_all (is_calm_act v) (r st) ≡ true

none_calm : (v : List Incarnation) → Calmly v (all_in_turn [])
none_calm v st = refl

turns_calm : (v : List Incarnation) (r : Rule) (rs : List Rule) → Calmly v r → Calmly v (all_in_turn rs) → Calmly v (all_in_turn (r ∷ rs))
turns_calm v r rs f g st = all_join (is_calm_act v) (r st) (all_in_turn rs (fold after st (r st))) (f st) (g (fold after st (r st)))

two_calm : (v : List Incarnation) (r q : Rule) → Calmly v r → Calmly v q → Calmly v (in_turn after r q)
two_calm v r q f g st = all_join (is_calm_act v) (r st) (q (fold after st (r st))) (f st) (g (fold after st (r st)))

each_calm : {X : Type 0} (v : List Incarnation) (p : X → Rule) → ((x : X) → Calmly v (p x)) → (xs : List X) → Calmly v (for_each after p xs)
each_calm v p h [] st = refl
each_calm v p h (x ∷ xs) st = all_join (is_calm_act v) (p x st) (for_each after p xs (fold after st (p x st))) (h x st) (each_calm v p h xs (fold after st (p x st)))

region_calm : (v : List Incarnation) (ms : List Move) → list_all is_viewless ms ≡ true → list_all (is_calm_act v) (map by_region ms) ≡ true
region_calm v [] h = refl
region_calm v (m ∷ ms) h =
    let n : (is_viewless m ≡ true) × (list_all is_viewless ms ≡ true) = and_both (is_viewless m) (list_all is_viewless ms) h in
    both (is_viewless m) (list_all (is_calm_act v) (map by_region ms)) n.0 (region_calm v ms n.1)

coordinator_calm : (v : List Incarnation) (ms : List Move) → Calm v ms → list_all (is_calm_act v) (map by_coordinator ms) ≡ true
coordinator_calm v [] h = refl
coordinator_calm v (m ∷ ms) h =
    let n : (is_calm v m ≡ true) × (list_all (is_calm v) ms ≡ true) = and_both (is_calm v m) (list_all (is_calm v) ms) h in
    both (is_calm v m) (list_all (is_calm_act v) (map by_coordinator ms)) n.0 (coordinator_calm v ms n.1)

entities_calm : (v : List Incarnation) (ms : List Move) → list_all (is_calm_act v) (map by_entities ms) ≡ true
entities_calm v [] = refl
entities_calm v (m ∷ ms) = entities_calm v ms

producer_calm : (v : List Incarnation) (p : ℕ) (ms : List Move) → list_all (is_calm_act v) (map (by_producer p) ms) ≡ true
producer_calm v p [] = refl
producer_calm v p (m ∷ ms) = producer_calm v p ms

of_producer_calm : (v : List Incarnation) (p : ℕ) (f : Producer → List Move) → Calmly v (of_producer p f)
of_producer_calm v p f st = all_some (is_calm_act v) (λ k. map (by_producer p) (f k)) (at st.producers (p - 1)) (λ k. producer_calm v p (f k))

of_coordinator_calm : (v : List Incarnation) (p : Coordinator → List Move) → ((k : Coordinator) → Calm v (p k)) → Calmly v (of_coordinator p)
of_coordinator_calm v p h st = all_some (is_calm_act v) (λ k. map by_coordinator (p k)) st.coordinator (λ k. coordinator_calm v (p k) (h k))

route_calm : (v : List Incarnation) (m : Message) → Calmly v (route m)
route_calm v m st = all_if (is_calm_act v) (region.is_home st.region (shard_of st.set m.entity) && is_running st (shard_of st.set m.entity)) (of_entities (entities.deliver m) st) (of_region (region.route_away m) st)
    (entities_calm v (entities.deliver m st.entities)) (region_calm v (region.route_away m st.region) (route_viewless m st.region (region.home st.region (shard_of st.region.set m.entity))))

release_calm : (v : List Incarnation) (s : ℕ) → Calmly v (release s)
release_calm v s st = all_if (is_calm_act v) (region.is_routable st.region s (is_running st s)) (for_each after (λ m. in_turn after (λ st. by_region (released s) ∷ []) (route m)) (region.kept_of st.region.kept s) st) []
    (each_calm v (λ m. in_turn after (λ st. by_region (released s) ∷ []) (route m)) (λ m. two_calm v (λ st. by_region (released s) ∷ []) (route m) (λ st. refl) (route_calm v m)) (region.kept_of st.region.kept s) st) refl

numbers_calm : (v : List Incarnation) (p : ℕ) (e : List ℕ) (f : Producer → List ℕ) → Calmly v (route_numbers p e f)
numbers_calm v p e f st = all_some (is_calm_act v) (λ k. for_each after (λ n. route (producer.message_of e k n)) (f k) st) (at st.producers (p - 1)) (λ k. each_calm v (λ n. route (producer.message_of e k n)) (λ n. route_calm v (producer.message_of e k n)) (f k) st)

push_calm : (v : List Incarnation) (p : ℕ) (e : List ℕ) → Calmly v (push p e)
push_calm v p e st = all_some (is_calm_act v) (λ k. all_in_turn (of_producer p (producer.push_marks e) ∷ route_numbers p e (λ j. producer.to_push e k) ∷ []) st) (at st.producers (p - 1))
    (λ k. turns_calm v (of_producer p (producer.push_marks e)) (route_numbers p e (λ j. producer.to_push e k) ∷ []) (of_producer_calm v p (producer.push_marks e))
    (turns_calm v (route_numbers p e (λ j. producer.to_push e k)) [] (numbers_calm v p e (λ j. producer.to_push e k)) (none_calm v)) st)

start_calm : (v : List Incarnation) (lists : SlotLists) (s : ℕ) → Calmly v (start lists s)
start_calm v lists s st = all_if (is_calm_act v) (entities.is_hosted st.entities s) [] (in_turn after (λ st. map by_entities (acquire (slot.Shard s) st.who (shard_list lists s))) (of_entities (entities.start_remembered s)) st) refl
    (two_calm v (λ st. map by_entities (acquire (slot.Shard s) st.who (shard_list lists s))) (of_entities (entities.start_remembered s)) (λ st. entities_calm v (acquire (slot.Shard s) st.who (shard_list lists s))) (λ st. entities_calm v (entities.start_remembered s st.entities)) st)

again_calm : (v : List Incarnation) (lists : SlotLists) (s : ℕ) → Calmly v (start_again lists s)
again_calm v lists s st = all_if (is_calm_act v) (region.is_home st.region s && not (entities.is_hosted st.entities s)) (all_in_turn (start lists s ∷ release s ∷ []) st) []
    (turns_calm v (start lists s) (release s ∷ []) (start_calm v lists s) (turns_calm v (release s) [] (release_calm v s) (none_calm v)) st) refl

sends_calm : (v : List Incarnation) (p : ℕ) (e : List ℕ) → Calmly v (send_again p e)
sends_calm v p e = turns_calm v (of_producer p (λ k. map (pushed e) (producer.to_repeat e k))) (route_numbers p e (producer.to_repeat e) ∷ []) (of_producer_calm v p (λ k. map (pushed e) (producer.to_repeat e k)))
    (turns_calm v (route_numbers p e (producer.to_repeat e)) [] (numbers_calm v p e (producer.to_repeat e)) (none_calm v))

home_calm : (v : List Incarnation) (lists : SlotLists) (s : ℕ) (h : Incarnation) (stamp : Stamp) → Calmly v (shard_home lists s h stamp)
home_calm v lists s h stamp st = all_if (is_calm_act v) (region.takes_home s h stamp st.region) (all_in_turn (of_region (region.learn s h stamp) ∷ (λ st. if region.is_home st.region s then start lists s st else []) ∷ release s ∷ []) st) []
    (turns_calm v (of_region (region.learn s h stamp)) ((λ st. if region.is_home st.region s then start lists s st else []) ∷ release s ∷ []) (λ st. region_calm v (region.learn s h stamp st.region) (learn_viewless s h stamp st.region))
    (turns_calm v (λ st. if region.is_home st.region s then start lists s st else []) (release s ∷ []) (λ st. all_if (is_calm_act v) (region.is_home st.region s) (start lists s st) [] (start_calm v lists s st) refl)
    (turns_calm v (release s) [] (release_calm v s) (none_calm v))) st) refl

host_calm : (v : List Incarnation) (lists : SlotLists) (s : ℕ) (stamp : Stamp) (from : Incarnation) → Calmly v (host_shard lists s stamp from)
host_calm v lists s stamp from st = all_if (is_calm_act v) (region.takes_host s stamp st.region) (all_in_turn (of_region (region.learn s st.who stamp) ∷ start lists s ∷ of_region (λ r. post r.who from (body.ShardStarted s) ∷ []) ∷ release s ∷ []) st) []
    (turns_calm v (of_region (region.learn s st.who stamp)) (start lists s ∷ of_region (λ r. post r.who from (body.ShardStarted s) ∷ []) ∷ release s ∷ []) (λ x. region_calm v (region.learn s st.who stamp x.region) (learn_viewless s st.who stamp x.region))
    (turns_calm v (start lists s) (of_region (λ r. post r.who from (body.ShardStarted s) ∷ []) ∷ release s ∷ []) (start_calm v lists s)
    (turns_calm v (of_region (λ r. post r.who from (body.ShardStarted s) ∷ [])) (release s ∷ []) (λ st. refl) (turns_calm v (release s) [] (release_calm v s) (none_calm v)))) st) refl

hand_off_calm : (v : List Incarnation) (s : ℕ) (stamp : Stamp) (from : Incarnation) → Calmly v (hand_off s stamp from)
hand_off_calm v s stamp from st = all_if (is_calm_act v) (region.takes_hand_off s stamp st.region) (if entities.is_hosted st.entities s then of_entities (entities.hand_off s stamp from) st else by_region (post st.who from (body.ShardStopped s stamp)) ∷ []) []
    (all_if (is_calm_act v) (entities.is_hosted st.entities s) (of_entities (entities.hand_off s stamp from) st) (by_region (post st.who from (body.ShardStopped s stamp)) ∷ []) (entities_calm v (entities.hand_off s stamp from st.entities)) refl) refl

ack_calm : (v : List Incarnation) (p : ℕ) (e : List ℕ) (n : ℕ) → Calmly v (ack p e n)
ack_calm v p e n = turns_calm v (of_producer p (producer.confirm e n)) (push p e ∷ []) (of_producer_calm v p (producer.confirm e n)) (turns_calm v (push p e) [] (push_calm v p e) (none_calm v))

request_calm : (v : List Incarnation) (p : ℕ) (e : List ℕ) (n u : ℕ) → Calmly v (request p e n u)
request_calm v p e n u = turns_calm v (of_producer p (producer.confirm e n)) (of_producer p (λ k. demanded e u ∷ []) ∷ push p e ∷ []) (of_producer_calm v p (producer.confirm e n))
    (turns_calm v (of_producer p (λ k. demanded e u ∷ [])) (push p e ∷ []) (of_producer_calm v p (λ k. demanded e u ∷ [])) (turns_calm v (push p e) [] (push_calm v p e) (none_calm v)))

send_calm : (v : List Incarnation) (p : ℕ) (sends : List (List Sending)) → Calmly v (send sends p)
send_calm v p sends st = all_some (is_calm_act v) (λ k. send_by p (producer.next_sending (slice_index_or sends (p - 1) []) k) st) (at st.producers (p - 1)) (λ k. by (producer.next_sending (slice_index_or sends (p - 1) []) k))
  where
    by : (o : Option Sending) → list_all (is_calm_act v) (send_by p o st) ≡ true
    by None = refl
    by (Some x) = turns_calm v (of_producer p (producer.queue x)) (push p x.entity ∷ []) (of_producer_calm v p (producer.queue x)) (turns_calm v (push p x.entity) [] (push_calm v p x.entity) (none_calm v)) st

-- Inputs.

packet_viewed : (lists : SlotLists) (from : Incarnation) (st : Node) (b : Body) → IsViewed st → IsViewed (fold after st (packet lists from b st))
packet_viewed lists from st (body.View n xs) k = view_viewed lists st n xs k
packet_viewed lists from st body.RegisterAck k = calm_viewed st (packet lists from body.RegisterAck st) refl k
packet_viewed lists from st (body.ShardHome s h stamp) k = calm_viewed st (packet lists from (body.ShardHome s h stamp) st) (home_calm st.region.view lists s h stamp st) k
packet_viewed lists from st (body.HostShard s stamp) k = calm_viewed st (packet lists from (body.HostShard s stamp) st) (host_calm st.region.view lists s stamp from st) k
packet_viewed lists from st (body.BeginHandOff s stamp) k = calm_viewed st (packet lists from (body.BeginHandOff s stamp) st) (region_calm st.region.view (region.begin_hand_off s stamp from st.region) (begin_viewless s stamp from st.region)) k
packet_viewed lists from st (body.HandOff s stamp) k = calm_viewed st (packet lists from (body.HandOff s stamp) st) (hand_off_calm st.region.view s stamp from st) k
packet_viewed lists from st (body.Recovered e) k = calm_viewed st (packet lists from (body.Recovered e) st) (entities_calm st.region.view (entities.recovered e st.entities)) k
packet_viewed lists from st (body.Passivate e) k = calm_viewed st (packet lists from (body.Passivate e) st) (entities_calm st.region.view (entities.passivate e st.entities)) k
packet_viewed lists from st (body.StopEntity e) k = calm_viewed st (packet lists from (body.StopEntity e) st) (entities_calm st.region.view (entities.stop e st.entities)) k
packet_viewed lists from st (body.Sequenced m) k = calm_viewed st (packet lists from (body.Sequenced m) st) (route_calm st.region.view m st) k
packet_viewed lists from st (body.Request p e n u) k = calm_viewed st (packet lists from (body.Request p e n u) st) (request_calm st.region.view p e n u st) k
packet_viewed lists from st (body.Ack p e n) k = calm_viewed st (packet lists from (body.Ack p e n) st) (ack_calm st.region.view p e n st) k
packet_viewed lists from st (body.Resend p e f) k = calm_viewed st (packet lists from (body.Resend p e f) st) (numbers_calm st.region.view p e (producer.to_resend e f) st) k
packet_viewed lists from st b k = calm_viewed st (packet lists from b st) (of_coordinator_calm st.region.view (coordinator.coordinate from b st.region.view) (coordinate_calm st.region.view from b) st) k

-- Lead first, and then what is calm
tick_viewed : (lists : SlotLists) (st : Node) → IsViewed (fold after st (tick lists st))
tick_viewed lists st =
    let leads : List Act = lead lists st in
    let one : Node = fold after st leads in
    let rest : List Rule = of_coordinator coordinator.tick_coordinator ∷ of_region region.tick_region ∷ for_each after (start_again lists) (shards st.set) ∷ of_entities entities.tick_entities ∷ for_each after (λ p. for_each after (send_again p) st.set.names) (producers st.set) ∷ [] in
    subst IsViewed (sym (fold-append after st leads (all_in_turn rest one))) (calm_viewed one (all_in_turn rest one) (rest_calm one.region.view lists st.set one) (lead_viewed lists st))
  where
    rest_calm : (v : List Incarnation) (lists : SlotLists) (set : Setting) → Calmly v (all_in_turn (of_coordinator coordinator.tick_coordinator ∷ of_region region.tick_region ∷ for_each after (start_again lists) (shards set) ∷ of_entities entities.tick_entities ∷ for_each after (λ p. for_each after (send_again p) set.names) (producers set) ∷ []))
    rest_calm v lists set = turns_calm v (of_coordinator coordinator.tick_coordinator) (of_region region.tick_region ∷ for_each after (start_again lists) (shards set) ∷ of_entities entities.tick_entities ∷ for_each after (λ p. for_each after (send_again p) set.names) (producers set) ∷ []) (of_coordinator_calm v coordinator.tick_coordinator (tick_calm v))
        (turns_calm v (of_region region.tick_region) (for_each after (start_again lists) (shards set) ∷ of_entities entities.tick_entities ∷ for_each after (λ p. for_each after (send_again p) set.names) (producers set) ∷ []) (λ st. region_calm v (region.tick_region st.region) (tick_viewless st.region))
        (turns_calm v (for_each after (start_again lists) (shards set)) (of_entities entities.tick_entities ∷ for_each after (λ p. for_each after (send_again p) set.names) (producers set) ∷ []) (each_calm v (start_again lists) (again_calm v lists) (shards set))
        (turns_calm v (of_entities entities.tick_entities) (for_each after (λ p. for_each after (send_again p) set.names) (producers set) ∷ []) (λ st. entities_calm v (entities.tick_entities st.entities))
        (turns_calm v (for_each after (λ p. for_each after (send_again p) set.names) (producers set)) [] (each_calm v (λ p. for_each after (send_again p) set.names) (λ p. each_calm v (send_again p) (sends_calm v p) set.names) (producers set)) (none_calm v)))))

pub turn_viewed : TurnViewed
turn_viewed sends lists st (input.Packet p) k = packet_viewed lists p.from st p.body k
turn_viewed sends lists st input.Tick k = tick_viewed lists st
turn_viewed sends lists st input.Leave k = calm_viewed st (turn sends lists input.Leave st) (region_calm st.region.view (region.leave st.region) (oldest_viewless body.GracefulShutdownReq st.region)) k
turn_viewed sends lists st (input.Rebalance n) k = calm_viewed st (turn sends lists (input.Rebalance n) st) (of_coordinator_calm st.region.view (coordinator.rebalance n) (rebalance_calm st.region.view n) st) k
turn_viewed sends lists st (input.Produce p) k = calm_viewed st (turn sends lists (input.Produce p) st) (all_if (is_calm_act st.region.view) (is_none (at st.producers (p - 1))) (map (by_producer p) (acquire (slot.Queue p) st.who (queue_list lists p))) [] (producer_calm st.region.view p (acquire (slot.Queue p) st.who (queue_list lists p))) refl) k
turn_viewed sends lists st (input.Rest p) k = calm_viewed st (turn sends lists (input.Rest p) st) (of_producer_calm st.region.view p producer.give_back st) k
turn_viewed sends lists st (input.Send p) k = calm_viewed st (turn sends lists (input.Send p) st) (send_calm st.region.view p sends st) k
turn_viewed sends lists st (input.Passivate e) k = calm_viewed st (turn sends lists (input.Passivate e) st) (entities_calm st.region.view (entities.ask_to_passivate e st.entities)) k
turn_viewed sends lists st (input.FailWrite e n) k = calm_viewed st (turn sends lists (input.FailWrite e n) st) (entities_calm st.region.view (entities.arm e n st.entities)) k
