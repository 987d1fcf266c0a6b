-- Each packet of a node keeps what stands of it, and each input but the tick.
use Rattle.std.proofs.Common.{◌≡◌, ℕ, ◌-◌, ◌+◌, ◌<◌, ◌≤◌, List, [], ◌∷◌, ◌++◌, length, map, sym, ap, subst, ◌∙◌, refl, true, false, arith}
use Rattle.std.specs.Prelude.{Bool, ◌&&◌, ◌==◌, fold, nat_le, slice_index_or, Option, Some, None, is_none, IfSome}
use Rattle.std.specs.List.{list_all}
use Rattle.std.proofs.lemmas.List.FromFn.{get_or-map-range_with_len}
use Rattle.yard_model.specs.declared.charter.Sending.{Sending}
use Rattle.yard_model.specs.declared.packet.Body.{Body}
use Rattle.yard_model.specs.declared.packet.Body.TheVariants as body
use Rattle.yard_model.specs.declared.incarnation.Incarnation.{Incarnation}
use Rattle.yard_model.specs.declared.incarnation.Slot.TheVariants as slot
use Rattle.yard_model.specs.Coordinator as coordinator
use Rattle.yard_model.specs.Coordinator.{Coordinator}
use Rattle.yard_model.specs.Genuine.{is_node, is_shard, is_producer, is_brought}
use Rattle.yard_model.specs.Move.{Move, demanded}
use Rattle.yard_model.specs.Node.{Node, Act, by_producer, after, of_producer, of_coordinator, route_numbers, all_in_turn, acquire, push, request, ack, send, send_by, produce, packet}
use Rattle.yard_model.specs.Producer as producer
use Rattle.yard_model.specs.Producer.{Producer, producer_after}
use Rattle.yard_model.specs.Script.{Script, IsScript, sends}
use Rattle.yard_model.specs.SlotLists.{SlotLists, queue_list}
use Rattle.yard_model.specs.SlotReads.{regions}
use Rattle.yard_model.specs.Turns.{where_some}
use Rattle.yard_model.specs.Words.{at, is_among}
use Rattle.yard_model.specs.World.{all_sends}
use Rattle.plain_laws.proofs.Booleans.{and_both, at_most}
use Rattle.plain_laws.proofs.Lists.{inside, some_is, placed_at, none_of}
use Rattle.actor_laws.specs.Owes.{Hand}
use Rattle.actor_laws.proofs.Room.{room}
use Rattle.actor_laws.specs.CoordinatorStands as coordinators
use Rattle.actor_laws.specs.CoordinatorStands.{IsGoodCoordinator, CoordinatorBegins}
use Rattle.actor_laws.specs.ProducerStands.{ProducerKeeps, ProducerRoutes, ProducerIsGranted, is_sent_well}
use Rattle.actor_laws.specs.RegionStands.{IsRegion}
use Rattle.actor_laws.specs.ShardStart.{ShardStarts}
use Rattle.node_laws.specs.NodeStands.{IsCoordinatorAt, IsSoundNode, IsViewed}
use Rattle.node_laws.proofs.NodeKeeps.{NodeKeeps}
use Rattle.node_laws.specs.NodeFound.{NodeKeepsIf, FindsOffice, FindsShard, Finds, AreLawful}
use Rattle.node_laws.specs.NodeTurns.{MayConfirm, IsPromised}
use Rattle.actor_laws.proofs.CoordinatorLaws.{coordinator_keeps}
use Rattle.node_laws.proofs.NodeCoordinator.{rule_node, calm_takes_none, rebalance_calm, coordinate_node}
use Rattle.node_laws.proofs.NodeLeases.{plain_if, if_if, view_keeps}
use Rattle.node_laws.proofs.NodeMessages.{RouteLaws, routed_node, route_numbers_node}
use Rattle.node_laws.proofs.NodeParts.{node_none, node_both}
use Rattle.node_laws.proofs.NodeProducers.{above_zero, producer_move, push_node, demand_node, queue_node, confirm_node, produce_node}
use Rattle.node_laws.proofs.NodeRoutes.{acknowledged_node, begin_hand_off_node, hand_off_node, recovered_node, passivate_node, stop_node}
use Rattle.node_laws.proofs.NodeStarts.{home_node, host_node}

-- the laws of the actors that a turn rests on
pub record TurnLaws : Type 0 where
  pub routes : RouteLaws
  pub starts : ShardStarts
  pub begins : CoordinatorBegins
  pub produces : ProducerKeeps
  pub sends : ProducerRoutes
  pub granted : ProducerIsGranted

-- with hands of a kind that is another kind
pub weaker : (P Q : Hand → Type 0) (c : Script) (v : List ℕ → ℕ → ℕ → Bool) (st : Node) (acts : List Act) → ((h : Hand) → P h → Q h) → NodeKeepsIf Q c v st acts → NodeKeepsIf P c v st acts
weaker P Q c v st acts f k = record { stands = k.stands; posts_are = k.posts_are; own_are = k.own_are; held_are = λ h i p. k.held_are h i (f h p); guarded_are = λ h i p. k.guarded_are h i (f h p); goes_along = λ h i p. k.goes_along h i (f h p) }

-- The coordinator.

-- there is room for a region that is in the view and isn't registered
has_room : (c : Script) (st : Node) (from : Incarnation) → IsScript c → IsSoundNode c st → IsViewed st → (k : Coordinator) → st.coordinator ≡ Some k → is_among from st.region.view ≡ true → is_among from (regions k.entries) ≡ false → length (regions k.entries) < 16
has_room c st from script is viewed k e seen fresh =
    let at_k : IsCoordinatorAt c st.who k = subst (λ o. IfSome o (IsCoordinatorAt c st.who)) e is.coordinator in
    let s : IsGoodCoordinator c k = at_k.sound in
    let r : IsRegion c st.region = is.region in
    room c k.entries st.region.view from script s.own_is r.view_is is.different (subst (λ o. IfSome o (λ (k : Coordinator). list_all (λ r. is_among r st.region.view) (regions k.entries) ≡ true)) e viewed) seen fresh

pub rebalance_node : (c : Script) (v : List ℕ → ℕ → ℕ → Bool) (st : Node) (limit : ℕ) → IsSoundNode c st → NodeKeeps c v st (of_coordinator (coordinator.rebalance limit) st)
rebalance_node c v st limit is = rule_node c v st (coordinator.rebalance limit) is (λ k e sound. let r : coordinators.KeepsRules c k = coordinator_keeps c k sound in r.rebalances limit) (λ k. calm_takes_none [] (coordinator.rebalance limit k) (rebalance_calm [] limit k))

-- Producers.

-- a rule of a producer, where the node has it
pub producer_node : (c : Script) (v : List ℕ → ℕ → ℕ → Bool) (st : Node) (p : ℕ) (f : Producer → List Move) → IsSoundNode c st → ((k : Producer) → at st.producers (p - 1) ≡ Some k → NodeKeeps c v st (map (by_producer p) (f k))) → NodeKeeps c v st (of_producer p f st)
producer_node c v st p f is keeps = by (at st.producers (p - 1)) refl
  where
    by : (o : Option Producer) → at st.producers (p - 1) ≡ o → NodeKeeps c v st (where_some (λ k. map (by_producer p) (f k)) o)
    by None e = node_none c v st is
    by (Some k) e = keeps k e

-- Push: what is routed was queued, and stays so while what was sent is marked
push_all : (c : Script) (v : List ℕ → ℕ → ℕ → Bool) (p : ℕ) (e : List ℕ) (st : Node) → TurnLaws → IsScript c → IsSoundNode c st → 0 < p → NodeKeeps c v st (push p e st)
push_all c v p e st laws script is above = by (at st.producers (p - 1)) refl
  where
    by : (o : Option Producer) → at st.producers (p - 1) ≡ o → NodeKeeps c v st (where_some (λ k. all_in_turn (of_producer p (producer.push_marks e) ∷ route_numbers p e (λ j. producer.to_push e k) ∷ []) st) o)
    by None found = node_none c v st is
    by (Some k) found =
        let marks : List Act = of_producer p (producer.push_marks e) st in
        let mid : Node = fold after st marks in
        let first : NodeKeeps c v st marks = producer_node c v st p (producer.push_marks e) is (λ j g. push_node c v st p j e is above g) in
        let well : list_all (is_sent_well c e k) (producer.to_push e k) ≡ true = (laws.sends c k (is.producers p k above found).stands).pushed_well e in
        let new : Producer = fold producer_after k (producer.push_marks e k) in
        let there : at mid.producers (p - 1) ≡ Some new = ap (λ (x : Node). at x.producers (p - 1)) (ap (λ o. fold after st (where_some (λ k. map (by_producer p) (producer.push_marks e k)) o)) found ∙ producer_move st p k (head_of k) found refl) ∙ placed_at st.producers (p - 1) (Some new) (inside st.producers (p - 1) k found) in
        let second : NodeKeeps c v mid (route_numbers p e (λ j. producer.to_push e k) mid) = route_numbers_node c v p e (λ j. producer.to_push e k) mid laws.routes script first.stands
        (λ j g. subst (λ x. list_all (is_sent_well c e x) (producer.to_push e k) ≡ true) (some_is new j (sym there ∙ g)) well) in
        let rest : List Act = route_numbers p e (λ j. producer.to_push e k) mid in
        node_both c v st marks (rest ++ []) first (node_both c v mid rest [] second (node_none c v (fold after mid rest) second.stands))
      where
        head_of : Producer → Move
        head_of k = slice_index_or (producer.push_marks e k) 0 (demanded e 0)

then_push : (c : Script) (v : List ℕ → ℕ → ℕ → Bool) (p : ℕ) (e : List ℕ) (st : Node) (acts : List Act) → TurnLaws → IsScript c → 0 < p → NodeKeeps c v st acts → NodeKeeps c v st (acts ++ all_in_turn (push p e ∷ []) (fold after st acts))
then_push c v p e st acts laws script above first =
    let mid : Node = fold after st acts in
    let last : NodeKeeps c v mid (push p e mid) = push_all c v p e mid laws script first.stands above in
    node_both c v st acts (push p e mid ++ []) first (node_both c v mid (push p e mid) [] last (node_none c v (fold after mid (push p e mid)) last.stands))

pub confirms_node : (c : Script) (v : List ℕ → ℕ → ℕ → Bool) (p : ℕ) (e : List ℕ) (n : ℕ) (st : Node) → TurnLaws → IsSoundNode c st → 0 < p → MayConfirm v st p e n → NodeKeeps c v st (of_producer p (producer.confirm e n) st)
confirms_node c v p e n st laws is above may = producer_node c v st p (producer.confirm e n) is (λ k g. confirm_node laws.produces c v st p k e n is above g (may k g).0 (may k g).1)

ack_node : (c : Script) (v : List ℕ → ℕ → ℕ → Bool) (p : ℕ) (e : List ℕ) (n : ℕ) (st : Node) → TurnLaws → IsScript c → IsSoundNode c st → 0 < p → MayConfirm v st p e n → NodeKeeps c v st (ack p e n st)
ack_node c v p e n st laws script is above may = then_push c v p e st (of_producer p (producer.confirm e n) st) laws script above (confirms_node c v p e n st laws is above may)

request_node : (c : Script) (v : List ℕ → ℕ → ℕ → Bool) (p : ℕ) (e : List ℕ) (n u : ℕ) (st : Node) → TurnLaws → IsScript c → IsSoundNode c st → 0 < p → MayConfirm v st p e n → NodeKeeps c v st (request p e n u st)
request_node c v p e n u st laws script is above may =
    let acts : List Act = of_producer p (producer.confirm e n) st in
    let mid : Node = fold after st acts in
    let first : NodeKeeps c v st acts = confirms_node c v p e n st laws is above may in
    let wants : List Act = of_producer p (λ k. demanded e u ∷ []) mid in
    let second : NodeKeeps c v mid wants = producer_node c v mid p (λ k. demanded e u ∷ []) first.stands (λ k g. demand_node c v mid p k e u first.stands above g) in
    node_both c v st acts (wants ++ all_in_turn (push p e ∷ []) (fold after mid wants)) first (then_push c v p e mid wants laws script above second)

resend_node : (c : Script) (v : List ℕ → ℕ → ℕ → Bool) (p : ℕ) (e : List ℕ) (f : ℕ) (st : Node) → TurnLaws → IsScript c → IsSoundNode c st → 0 < p → NodeKeeps c v st (route_numbers p e (producer.to_resend e f) st)
resend_node c v p e f st laws script is above = route_numbers_node c v p e (producer.to_resend e f) st laws.routes script is (λ k g. (laws.sends c k (is.producers p k above g).stands).resent_well e f)

-- the sends of a producer
pub sends_are : (c : Script) (p : ℕ) → is_producer c p ≡ true → slice_index_or (all_sends c) (p - 1) [] ≡ sends c p
sends_are c p e =
    let b : (nat_le 1 p ≡ true) × (nat_le p c.config.producers ≡ true) = and_both (nat_le 1 p) (nat_le p c.config.producers) e in
    let low : 1 ≤ p = at_most 1 p b.0 in
    let high : p ≤ c.config.producers = at_most p c.config.producers b.1 in
    get_or-map-range_with_len (sends c) 1 c.config.producers (p - 1) p [] (omega (arith, low, high)) (omega (arith, low))

pub send_node : (c : Script) (v : List ℕ → ℕ → ℕ → Bool) (p : ℕ) (st : Node) → TurnLaws → IsScript c → IsSoundNode c st → is_producer c p ≡ true → NodeKeeps c v st (send (all_sends c) p st)
send_node c v p st laws script is number = by (at st.producers (p - 1)) refl
  where
    above : 0 < p
    above = (above_zero p c.config.producers number).0

    by_next : (k : Producer) → at st.producers (p - 1) ≡ Some k → (o : Option Sending) → producer.next_sending (slice_index_or (all_sends c) (p - 1) []) k ≡ o → NodeKeeps c v st (send_by p o st)
    by_next k found None next = node_none c v st is
    by_next k found (Some x) next =
        then_push c v p x.entity st (of_producer p (producer.queue x) st) laws script above
        (subst (λ o. NodeKeeps c v st (where_some (λ k. map (by_producer p) (producer.queue x k)) o)) (sym found)
        (queue_node laws.produces c v st p k x is above found (ap (λ l. producer.next_sending l k) (sym (sends_are c p number)) ∙ next)))

    by : (o : Option Producer) → at st.producers (p - 1) ≡ o → NodeKeeps c v st (where_some (λ k. send_by p (producer.next_sending (slice_index_or (all_sends c) (p - 1) []) k) st) o)
    by None found = node_none c v st is
    by (Some k) found = by_next k found (producer.next_sending (slice_index_or (all_sends c) (p - 1) []) k) refl

pub produces_node : (c : Script) (v : List ℕ → ℕ → ℕ → Bool) (lists : SlotLists) (p : ℕ) (st : Node) → TurnLaws → IsSoundNode c st → AreLawful c lists → is_producer c p ≡ true → NodeKeepsIf (Finds lists st) c v st (produce lists p st)
produces_node c v lists p st laws is lawful number = if_if (Finds lists st) c v st (is_none (at st.producers (p - 1))) (map (by_producer p) (acquire (slot.Queue p) st.who (queue_list lists p))) []
    (λ e.
    let none : at st.producers (p - 1) ≡ None = none_of (at st.producers (p - 1)) e in
    weaker (Finds lists st) (λ h. queue_list h.lists p ≡ queue_list lists p) c v st (map (by_producer p) (acquire (slot.Queue p) st.who (queue_list lists p))) (λ h f. f.queues p none)
    (produce_node laws.granted c v st p (queue_list lists p) is number none (lawful.queues p number)))
    (λ e. plain_if (Finds lists st) c v st [] (node_none c v st is))

-- Each packet.

pub packet_node : (c : Script) (v : List ℕ → ℕ → ℕ → Bool) (lists : SlotLists) (st : Node) (from : Incarnation) (b : Body) → TurnLaws → IsScript c → IsSoundNode c st → IsViewed st → AreLawful c lists → IsPromised c v st from b
    → NodeKeepsIf (Finds lists st) c v st (packet lists from b st)
packet_node c v lists st from (body.View n xs) laws script is viewed lawful may =
    weaker (Finds lists st) (FindsOffice lists st) c v st (packet lists from (body.View n xs) st) (λ h f. f.office)
    (view_keeps c v lists st n xs laws.routes.region laws.begins script is lawful.coordinator may.genuine may.promised)
packet_node c v lists st from body.RegisterAck laws script is viewed lawful may = plain_if (Finds lists st) c v st (packet lists from body.RegisterAck st) (acknowledged_node c v st from laws.routes.region script is may.from_is)
packet_node c v lists st from (body.ShardHome s h stamp) laws script is viewed lawful may =
    let g : (is_shard c s ≡ true) × (is_node c h ≡ true) = and_both (is_shard c s) (is_node c h) may.genuine in
    weaker (Finds lists st) (FindsShard lists s st) c v st (packet lists from (body.ShardHome s h stamp) st) (λ y f. f.shards s)
    (home_node c v lists st s h stamp laws.routes laws.starts script is (lawful.shards s g.0) g.0 g.1)
packet_node c v lists st from (body.HostShard s stamp) laws script is viewed lawful may =
    weaker (Finds lists st) (FindsShard lists s st) c v st (packet lists from (body.HostShard s stamp) st) (λ y f. f.shards s)
    (host_node c v lists st s stamp from laws.routes laws.starts script is (lawful.shards s may.genuine) may.genuine may.from_is)
packet_node c v lists st from (body.BeginHandOff s stamp) laws script is viewed lawful may = plain_if (Finds lists st) c v st (packet lists from (body.BeginHandOff s stamp) st) (begin_hand_off_node c v st s stamp from laws.routes.region script is may.genuine may.from_is)
packet_node c v lists st from (body.HandOff s stamp) laws script is viewed lawful may = plain_if (Finds lists st) c v st (packet lists from (body.HandOff s stamp) st)
    (hand_off_node c v st s stamp from laws.routes.region (laws.routes.entities c st.entities is.entities) script is may.genuine may.from_is)
packet_node c v lists st from (body.Recovered e) laws script is viewed lawful may = plain_if (Finds lists st) c v st (packet lists from (body.Recovered e) st) (recovered_node c v st e (laws.routes.entities c st.entities is.entities) is may.genuine)
packet_node c v lists st from (body.Passivate e) laws script is viewed lawful may = plain_if (Finds lists st) c v st (packet lists from (body.Passivate e) st) (passivate_node c v st e (laws.routes.entities c st.entities is.entities) is may.genuine)
packet_node c v lists st from (body.StopEntity e) laws script is viewed lawful may = plain_if (Finds lists st) c v st (packet lists from (body.StopEntity e) st) (stop_node c v st e (laws.routes.entities c st.entities is.entities) is may.genuine)
packet_node c v lists st from (body.Sequenced m) laws script is viewed lawful may = plain_if (Finds lists st) c v st (packet lists from (body.Sequenced m) st) (routed_node c v st m laws.routes script is may.genuine)
packet_node c v lists st from (body.Request p e n u) laws script is viewed lawful may =
    plain_if (Finds lists st) c v st (packet lists from (body.Request p e n u) st)
    (request_node c v p e n u st laws script is (above_zero p c.config.producers (and_both (is_producer c p) (is_brought c e) (and_both (is_producer c p && is_brought c e) (u == n + c.config.window) may.genuine).0).0).0 may.promised)
packet_node c v lists st from (body.Ack p e n) laws script is viewed lawful may =
    plain_if (Finds lists st) c v st (packet lists from (body.Ack p e n) st) (ack_node c v p e n st laws script is (above_zero p c.config.producers (and_both (is_producer c p) (is_brought c e) may.genuine).0).0 may.promised)
packet_node c v lists st from (body.Resend p e f) laws script is viewed lawful may =
    plain_if (Finds lists st) c v st (packet lists from (body.Resend p e f) st) (resend_node c v p e f st laws script is (above_zero p c.config.producers (and_both (is_producer c p) (is_brought c e) may.genuine).0).0)
packet_node c v lists st from b laws script is viewed lawful may = plain_if (Finds lists st) c v st (packet lists from b st) (coordinate_node c v st from b is may.from_is may.genuine (has_room c st from script is viewed))
