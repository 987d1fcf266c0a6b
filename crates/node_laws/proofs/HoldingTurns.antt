-- Each input of a node keeps it that the node has the store of each slot that it holds.
use Rattle.std.proofs.Common.{◌≡◌, ℕ, ◌+◌, ◌-◌, List, [], ◌∷◌, map, sym, ap, subst, ◌∙◌, refl, true, arith}
use Rattle.std.specs.Prelude.{◌&&◌, ◌==◌, not, nat_le, nat_lt, fold, Option, Some, None, is_none, slice_index_or, if◌then◌else◌}
use Rattle.yard_model.specs.declared.charter.Sending.{Sending}
use Rattle.yard_model.specs.declared.fact.Fact.TheVariants as fact
use Rattle.yard_model.specs.declared.input.Input.{Input}
use Rattle.yard_model.specs.declared.input.Input.TheVariants as input
use Rattle.yard_model.specs.declared.packet.Body.{Body}
use Rattle.yard_model.specs.declared.packet.Body.TheVariants as body
use Rattle.yard_model.specs.declared.packet.Message.{Message}
use Rattle.yard_model.specs.declared.incarnation.Incarnation.{Incarnation}
use Rattle.yard_model.specs.declared.incarnation.Slot.TheVariants as slot
use Rattle.yard_model.specs.Coordinator as coordinator
use Rattle.yard_model.specs.Entities as entities
use Rattle.yard_model.specs.Move.{released, demanded, pushed, post, told}
use Rattle.yard_model.specs.Node.{Node, Act, by_region, by_entities, by_producer, by_coordinator, after, items_of, of_region, of_entities, of_producer, of_coordinator, all_in_turn, is_running, route, release, route_numbers, acquire, start, lead, push, send_by, send, produce, start_again, send_again, tick, packet, turn}
use Rattle.yard_model.specs.Producer as producer
use Rattle.yard_model.specs.Producer.{Producer}
use Rattle.yard_model.specs.Region as region
use Rattle.yard_model.specs.Script.{Script, setting}
use Rattle.yard_model.specs.Setting.{shards, producers, shard_of}
use Rattle.yard_model.specs.SlotLists.{SlotLists, shard_list, queue_list}
use Rattle.yard_model.specs.SlotReads.{confirmed}
use Rattle.yard_model.specs.Trace.{lists_step}
use Rattle.yard_model.specs.Turns.{in_turn, for_each, where_some}
use Rattle.yard_model.specs.Words.{at, is_at}
use Rattle.plain_laws.proofs.Booleans.{both, number_itself}
use Rattle.plain_laws.proofs.Lists.{all_if}
use Rattle.actor_laws.specs.EntitiesStand.{IsEntities}
use Rattle.actor_laws.specs.Owes.{facts_in}
use Rattle.node_laws.specs.NodeHolds.{HoldsAll, TurnHolds}
use Rattle.node_laws.specs.NodeStands.{IsProducerAt, IsSoundNode}
use Rattle.node_laws.proofs.Granting.{all_mapped, oldest_grants, away_grants, register_grants, view_grants, learn_grants, begin_hand_grants, tick_region_grants, remembered_grant, deliver_grants, recovered_grants, ask_to_passivate_grants, arm_grants, passivate_grants, hand_off_grants, stop_grants, tick_entities_grants, calm_grants}
use Rattle.node_laws.proofs.Holding.{lists_in_hand, keeps_slots, Holding, Holds, Keeping, none_holds, if_holds, some_holds, two_hold, each_holds, rules_hold, region_holds, entities_hold, producer_holds, of_producer_holds, of_coordinator_holds, shard_acquired, office_acquired, queue_acquired}
use Rattle.node_laws.proofs.NodeCoordinator.{coordinate_calm, terminate_lost_calm, tick_calm, rebalance_calm}

-- Routing.

route_holds : (c : Script) (m : Message) → Keeping c (route m)
route_holds c m st = if_holds c st (region.is_home st.region (shard_of st.set m.entity) && is_running st (shard_of st.set m.entity)) (of_entities (entities.deliver m) st) (of_region (region.route_away m) st)
    (entities_hold c st (entities.deliver m st.entities) (deliver_grants m st.entities)) (region_holds c st (region.route_away m st.region) (away_grants m st.region))

release_holds : (c : Script) (s : ℕ) → Keeping c (release s)
release_holds c s st = if_holds c st (region.is_routable st.region s (is_running st s)) (for_each after (λ m. in_turn after (λ st. by_region (released s) ∷ []) (route m)) (region.kept_of st.region.kept s) st) []
    (each_holds c (λ m. in_turn after (λ st. by_region (released s) ∷ []) (route m)) (λ m. two_hold c (λ st. by_region (released s) ∷ []) (route m) (λ st. region_holds c st (released s ∷ []) refl) (route_holds c m)) (region.kept_of st.region.kept s) st) (none_holds c st)

-- Leases.

start_holds : (c : Script) (lists : SlotLists) (s : ℕ) → Keeping c (start lists s)
start_holds c lists s st = if_holds c st (entities.is_hosted st.entities s) [] (in_turn after (λ st. map by_entities (acquire (slot.Shard s) st.who (shard_list lists s))) (of_entities (entities.start_remembered s)) st) (none_holds c st)
    (two_hold c (λ st. map by_entities (acquire (slot.Shard s) st.who (shard_list lists s))) (of_entities (entities.start_remembered s)) (λ st. shard_acquired c st s (shard_list lists s))
    (λ st. entities_hold c st (entities.start_remembered s st.entities) (remembered_grant s st.entities)) st)

lead_holds : (c : Script) (lists : SlotLists) → Keeping c (lead lists)
lead_holds c lists = two_hold c (λ st. if is_at st.who (region.oldest st.region) && is_none st.coordinator then map by_coordinator (acquire slot.Coordinator st.who lists.coordinator) else []) (λ st. of_coordinator (coordinator.terminate_lost st.region.view) st)
    (λ st. if_holds c st (is_at st.who (region.oldest st.region) && is_none st.coordinator) (map by_coordinator (acquire slot.Coordinator st.who lists.coordinator)) [] (office_acquired c st lists.coordinator) (none_holds c st))
    (λ st. of_coordinator_holds c (coordinator.terminate_lost st.region.view) (λ k. calm_grants st.region.view (coordinator.terminate_lost st.region.view k) (terminate_lost_calm st.region.view st.region.view k)) st)

produce_holds : (c : Script) (lists : SlotLists) (p : ℕ) → Keeping c (produce lists p)
produce_holds c lists p st = if_holds c st (is_none (at st.producers (p - 1))) (map (by_producer p) (acquire (slot.Queue p) st.who (queue_list lists p))) [] (queue_acquired c st p (queue_list lists p)) (none_holds c st)

-- Producing.

numbers_hold : (c : Script) (p : ℕ) (e : List ℕ) (f : Producer → List ℕ) → Keeping c (route_numbers p e f)
numbers_hold c p e f st = some_holds c st (λ k. for_each after (λ n. route (producer.message_of e k n)) (f k) st) (at st.producers (p - 1)) (λ k. each_holds c (λ n. route (producer.message_of e k n)) (λ n. route_holds c (producer.message_of e k n)) (f k) st)

push_holds : (c : Script) (p : ℕ) (e : List ℕ) → Keeping c (push p e)
push_holds c p e st = some_holds c st (λ k. all_in_turn (of_producer p (producer.push_marks e) ∷ route_numbers p e (λ j. producer.to_push e k) ∷ []) st) (at st.producers (p - 1))
    (λ k. rules_hold c (of_producer p (producer.push_marks e) ∷ route_numbers p e (λ j. producer.to_push e k) ∷ []) (of_producer_holds c p (producer.push_marks e) (λ j. refl), (numbers_hold c p e (λ j. producer.to_push e k), tt)) st)

send_holds : (c : Script) (sends : List (List Sending)) (p : ℕ) → Keeping c (send sends p)
send_holds c sends p st = some_holds c st (λ k. send_by p (producer.next_sending (slice_index_or sends (p - 1) []) k) st) (at st.producers (p - 1)) (λ k. by (producer.next_sending (slice_index_or sends (p - 1) []) k))
  where
    by : (o : Option Sending) → Holds c st (send_by p o st)
    by None = none_holds c st
    by (Some x) = rules_hold c (of_producer p (producer.queue x) ∷ push p x.entity ∷ []) (of_producer_holds c p (producer.queue x) (λ k. refl), (push_holds c p x.entity, tt)) st

confirm_holds : (c : Script) (p : ℕ) (e : List ℕ) (n : ℕ) → Keeping c (of_producer p (producer.confirm e n))
confirm_holds c p e n = of_producer_holds c p (producer.confirm e n) (λ k. all_if (keeps_slots p) (nat_lt (confirmed e k.entries) n) (told (fact.Confirmed k.number e n) ∷ []) [] refl refl)

sends_hold : (c : Script) (p : ℕ) (e : List ℕ) → Keeping c (send_again p e)
sends_hold c p e = rules_hold c (of_producer p (λ k. map (pushed e) (producer.to_repeat e k)) ∷ route_numbers p e (producer.to_repeat e) ∷ [])
    (of_producer_holds c p (λ k. map (pushed e) (producer.to_repeat e k)) (λ k. all_mapped (keeps_slots p) (pushed e) (producer.to_repeat e k) (λ n. refl)), (numbers_hold c p e (producer.to_repeat e), tt))

-- the producer at its place frees its own queue
rest_holds : (c : Script) (st : Node) (p : ℕ) → IsSoundNode c st → Holds c st (of_producer p producer.give_back st)
rest_holds c st p is = by (at st.producers (p - 1)) refl
  where
    by : (o : Option Producer) → at st.producers (p - 1) ≡ o → Holds c st (where_some (λ k. map (by_producer p) (producer.give_back k)) o)
    by None e = none_holds c st
    by (Some k) e =
        let same : p - 1 + 1 - 1 ≡ p - 1 = omega (arith) in
        let x : IsProducerAt c st.who (p - 1 + 1) k = is.producers (p - 1 + 1) k (omega (arith)) (ap (at st.producers) same ∙ e) in
        let number : k.number - 1 ≡ p - 1 = ap (λ n. n - 1) x.number_is ∙ same in
        producer_holds c st p (producer.give_back k) (both (k.number - 1 == p - 1) true (number_itself (k.number - 1) (p - 1) number) refl)

-- The tick.

again_holds : (c : Script) (lists : SlotLists) (s : ℕ) → Keeping c (start_again lists s)
again_holds c lists s st = if_holds c st (region.is_home st.region s && not (entities.is_hosted st.entities s)) (all_in_turn (start lists s ∷ release s ∷ []) st) [] (rules_hold c (start lists s ∷ release s ∷ []) (start_holds c lists s, (release_holds c s, tt)) st) (none_holds c st)

tick_holds : (c : Script) (lists : SlotLists) → Keeping c (tick lists)
tick_holds c lists st = rules_hold c (
    lead lists
    ∷ of_coordinator coordinator.tick_coordinator
    ∷ of_region region.tick_region
    ∷ for_each after (start_again lists) (shards st.set)
    ∷ of_entities entities.tick_entities
    ∷ for_each after (λ p. for_each after (send_again p) st.set.names) (producers st.set)
    ∷ []) (
      lead_holds c lists,
      (
        of_coordinator_holds c coordinator.tick_coordinator (λ k. calm_grants [] (coordinator.tick_coordinator k) (tick_calm [] k)),
        (
          (λ now. region_holds c now (region.tick_region now.region) (tick_region_grants now.region)),
          (
            each_holds c (start_again lists) (again_holds c lists) (shards st.set),
            (
              (λ now. entities_hold c now (entities.tick_entities now.entities) (tick_entities_grants now.entities)),
              (each_holds c (λ p. for_each after (send_again p) st.set.names) (λ p. each_holds c (send_again p) (sends_hold c p) st.set.names) (producers st.set), tt),
            ),
          ),
        ),
      ),
    ) st

-- Packets.

packet_holds : (c : Script) (lists : SlotLists) (from : Incarnation) (b : Body) → Keeping c (packet lists from b)
packet_holds c lists from (body.View v xs) st = if_holds c st (nat_le v st.region.version) [] (all_in_turn (of_region (region.take_view v xs) ∷ lead lists ∷ of_region region.register ∷ []) st) (none_holds c st)
    (rules_hold c (of_region (region.take_view v xs) ∷ lead lists ∷ of_region region.register ∷ [])
    ((λ now. region_holds c now (region.take_view v xs now.region) (view_grants v xs now.region)), (lead_holds c lists, ((λ now. region_holds c now (region.register now.region) (register_grants now.region)), tt))) st)
packet_holds c lists from body.RegisterAck st = region_holds c st (region.registered_by from st.region) refl
packet_holds c lists from (body.ShardHome s h stamp) st = if_holds c st (region.takes_home s h stamp st.region) (all_in_turn (of_region (region.learn s h stamp) ∷ (λ st. if region.is_home st.region s then start lists s st else []) ∷ release s ∷ []) st) []
    (rules_hold c (of_region (region.learn s h stamp) ∷ (λ st. if region.is_home st.region s then start lists s st else []) ∷ release s ∷ [])
    ((λ now. region_holds c now (region.learn s h stamp now.region) (learn_grants s h stamp now.region)), ((λ now. if_holds c now (region.is_home now.region s) (start lists s now) [] (start_holds c lists s now) (none_holds c now)), (release_holds c s, tt))) st) (none_holds c st)
packet_holds c lists from (body.HostShard s stamp) st = if_holds c st (region.takes_host s stamp st.region) (all_in_turn (of_region (region.learn s st.who stamp) ∷ start lists s ∷ of_region (λ r. post r.who from (body.ShardStarted s) ∷ []) ∷ release s ∷ []) st) []
    (rules_hold c (of_region (region.learn s st.who stamp) ∷ start lists s ∷ of_region (λ r. post r.who from (body.ShardStarted s) ∷ []) ∷ release s ∷ []) (
      (λ now. region_holds c now (region.learn s st.who stamp now.region) (learn_grants s st.who stamp now.region)),
      (start_holds c lists s, ((λ now. region_holds c now (post now.region.who from (body.ShardStarted s) ∷ []) refl), (release_holds c s, tt))),
    ) st) (none_holds c st)
packet_holds c lists from (body.BeginHandOff s stamp) st = region_holds c st (region.begin_hand_off s stamp from st.region) (begin_hand_grants s stamp from st.region)
packet_holds c lists from (body.HandOff s stamp) st =
    let hands : List Act = of_entities (entities.hand_off s stamp from) st in
    let answers : List Act = by_region (post st.who from (body.ShardStopped s stamp)) ∷ [] in
    if_holds c st (region.takes_hand_off s stamp st.region) (if entities.is_hosted st.entities s then hands else answers) []
    (if_holds c st (entities.is_hosted st.entities s) hands answers (entities_hold c st (entities.hand_off s stamp from st.entities) (hand_off_grants s stamp from st.entities)) (region_holds c st (post st.who from (body.ShardStopped s stamp) ∷ []) refl)) (none_holds c st)
packet_holds c lists from (body.Recovered e) st = entities_hold c st (entities.recovered e st.entities) (recovered_grants e st.entities)
packet_holds c lists from (body.Passivate e) st = entities_hold c st (entities.passivate e st.entities) (passivate_grants e st.entities)
packet_holds c lists from (body.StopEntity e) st = entities_hold c st (entities.stop e st.entities) (stop_grants e st.entities)
packet_holds c lists from (body.Sequenced m) st = route_holds c m st
packet_holds c lists from (body.Request p e n u) st = rules_hold c (of_producer p (producer.confirm e n) ∷ of_producer p (λ k. demanded e u ∷ []) ∷ push p e ∷ []) (confirm_holds c p e n, (of_producer_holds c p (λ k. demanded e u ∷ []) (λ k. refl), (push_holds c p e, tt))) st
packet_holds c lists from (body.Ack p e n) st = rules_hold c (of_producer p (producer.confirm e n) ∷ push p e ∷ []) (confirm_holds c p e n, (push_holds c p e, tt)) st
packet_holds c lists from (body.Resend p e f) st = numbers_hold c p e (producer.to_resend e f) st
packet_holds c lists from b st = of_coordinator_holds c (coordinator.coordinate from b st.region.view) (λ k. calm_grants st.region.view (coordinator.coordinate from b st.region.view k) (coordinate_calm st.region.view from b k)) st

-- Inputs.

input_holds : (c : Script) (sends : List (List Sending)) (lists : SlotLists) (i : Input) (st : Node) → IsSoundNode c st → Holds c st (turn sends lists i st)
input_holds c sends lists (input.Packet p) st is = packet_holds c lists p.from p.body st
input_holds c sends lists input.Tick st is = tick_holds c lists st
input_holds c sends lists input.Leave st is = region_holds c st (region.leave st.region) (oldest_grants body.GracefulShutdownReq st.region)
input_holds c sends lists (input.Rebalance n) st is = of_coordinator_holds c (coordinator.rebalance n) (λ k. calm_grants [] (coordinator.rebalance n k) (rebalance_calm [] n k)) st
input_holds c sends lists (input.Produce p) st is = produce_holds c lists p st
input_holds c sends lists (input.Rest p) st is = rest_holds c st p is
input_holds c sends lists (input.Send p) st is = send_holds c sends p st
input_holds c sends lists (input.Passivate e) st is = entities_hold c st (entities.ask_to_passivate e st.entities) (ask_to_passivate_grants e st.entities)
input_holds c sends lists (input.FailWrite e k) st is = entities_hold c st (entities.arm e k st.entities) (arm_grants e k st.entities)

pub turn_holds : TurnHolds
turn_holds c sends lists st i h is holds =
    let acts : List Act = turn sends lists i st in
    let e : IsEntities c st.entities = is.entities in
    let later : Holding c (fold (lists_step (setting c)) h.lists (facts_in (items_of acts))) (fold after st acts) = input_holds c sends lists i st is h.lists (record { shards_there = e.shards_there; queues_there = is.producers_full; all = holds }) in
    subst (λ l. HoldsAll c l (fold after st acts)) (sym (lists_in_hand c h (facts_in (items_of acts)))) later.all
