-- Each input of the region, the entities and the shards as a whole, and the tick up to its queues.
use Rattle.std.proofs.Common.{◌≡◌, ℕ, ◌-◌, List, [], ◌∷◌, ◌++◌, map, sym, ap, subst, ◌∙◌, refl, true, false, true≢false}
use Rattle.std.specs.Prelude.{Bool, nat_le, fold, Option, Some, None, slice_index_or, if◌then◌else◌}
use Rattle.std.specs.List.{list_all, flat_map}
use Rattle.std.proofs.lemmas.List.{append-nil, append_assoc}
use Rattle.std.proofs.lemmas.List.Sums.{fold-append}
use Rattle.yard_model.specs.declared.input.Input.{Input}
use Rattle.yard_model.specs.declared.input.Input.TheVariants as input
use Rattle.yard_model.specs.declared.packet.Body.{Body}
use Rattle.yard_model.specs.declared.packet.Body.TheVariants as body
use Rattle.yard_model.specs.declared.packet.Message.{Message}
use Rattle.yard_model.specs.declared.packet.Packet.{Packet}
use Rattle.yard_model.specs.declared.charter.Order.TheVariants as order
use Rattle.yard_model.specs.declared.charter.Sending.{Sending}
use Rattle.yard_model.specs.declared.incarnation.Incarnation.{Incarnation}
use Rattle.yard_model.specs.declared.incarnation.Keep.{Keep}
use Rattle.yard_model.specs.declared.incarnation.Stamp.{Stamp}
use Rattle.yard_model.specs.Coordinator as coordinator
use Rattle.yard_model.specs.Entities as entities
use Rattle.yard_model.specs.Genuine.{is_brought}
use Rattle.yard_model.specs.Move.{Move, marked, handed_off, pushed}
use Rattle.yard_model.specs.Node.{Node, Act, Rule, by_region, by_entities, by_producer, by_coordinator, after, items_of, of_region, of_entities, of_producer, of_coordinator, all_in_turn, route, send_again, start_again, lead, shard_home, host_shard, hand_off, tick, packet, turn}
use Rattle.yard_model.specs.Producer as producer
use Rattle.yard_model.specs.Producer.{Producer}
use Rattle.yard_model.specs.Queries.{Known, is_passivate, show_got, show_order}
use Rattle.yard_model.specs.Region as region
use Rattle.yard_model.specs.Script.{Script, Setting, setting}
use Rattle.yard_model.specs.Setting.{producers, shards}
use Rattle.yard_model.specs.SlotLists.{SlotLists, shard_list}
use Rattle.yard_model.specs.Turns.{for_each}
use Rattle.yard_model.specs.Words.{at, is_below}
use Rattle.plain_laws.proofs.Booleans.{all_map}
use Rattle.plain_laws.proofs.Lists.{all_join, all_if, all_some, all_each}
use Rattle.node_laws.specs.NodeStands.{IsSoundNode}
use Rattle.node_laws.specs.NodeTurns.{IsPromised}
use Rattle.query_laws.specs.Shown.{IsTidy, IsShown, IsToldBody, opened, shown}
use Rattle.query_laws.proofs.ShowApart.{is_apart, producers_stay, own_shown, region_apart, entities_apart, agains_apart, route_apart, shard_home_apart, host_shard_apart, hand_off_apart}
use Rattle.query_laws.proofs.ShowBase.{AreShownBeside, with_producers, known_on, beside_both}
use Rattle.query_laws.proofs.ShowEntities.{recovered_shown, recovered_tidy, passivate_shown, passivate_tidy, stop_shown, stop_tidy, armed_shown, armed_tidy, asks_passivate_shown, asks_passivate_tidy}
use Rattle.query_laws.proofs.ShowRegion.{route_shown, route_tidy, register_shown, register_tidy, take_view_shown, take_view_tidy, registered_tidy, leave_shown, leave_tidy, begin_hand_off_shown, begin_hand_off_tidy, hand_off_shown, hand_off_tidy}
use Rattle.query_laws.proofs.ShowShards.{ShowsFrom, ShowsWell, shard_home_shown, host_shard_shown}
use Rattle.query_laws.proofs.ShowTick.{is_office, office_rule, office_tidy, lead_office, beside_then, front, front_rules, front_shown, sound_set, sound_well}

-- What is shown whatever the producers have been shown is shown of the node.
whole : (k : Known) (i : Input) (st : Node) (acts : List Act) → ((ps : List (Option Producer)) → shown k (with_producers ps (opened i st)) (items_of acts) ≡ with_producers ps (fold after st acts)) → (opened i st).producers ≡ st.producers
    → list_all is_apart acts ≡ true → IsTidy (fold after st acts) → IsShown k i st acts
whole k i st acts shows same apart tidy = record { shown_is = own_shown k (opened i st) st acts shows same apart; tidy = tidy }

abbrev pub packet_for : Incarnation → Incarnation → Body → Packet
packet_for from to b = record { from = from; to = to; body = b }

-- Entities.

pub recovered_whole : (k : Known) (lists : SlotLists) (st : Node) (from to : Incarnation) (e : List ℕ) → IsTidy st → IsShown k (input.Packet (packet_for from to (body.Recovered e))) st (packet lists from (body.Recovered e) st)
recovered_whole k lists st from to e tidy = whole k (input.Packet (packet_for from to (body.Recovered e))) st (of_entities (entities.recovered e) st) (recovered_shown k e st) refl (entities_apart (entities.recovered e st.entities)) (recovered_tidy e st tidy)

pub passivate_whole : (k : Known) (lists : SlotLists) (st : Node) (from to : Incarnation) (e : List ℕ) → k.packet ≡ Some (packet_for from to (body.Passivate e)) → IsTidy st → IsShown k (input.Packet (packet_for from to (body.Passivate e))) st (packet lists from (body.Passivate e) st)
passivate_whole k lists st from to e is tidy = whole k (input.Packet (packet_for from to (body.Passivate e))) st (of_entities (entities.passivate e) st) (passivate_shown k e st (ap is_passivate is)) refl (entities_apart (entities.passivate e st.entities)) (passivate_tidy e st tidy)

pub stop_whole : (c : Script) (k : Known) (lists : SlotLists) (st : Node) (from to : Incarnation) (e : List ℕ) → IsSoundNode c st → is_brought c e ≡ true → IsTidy st → IsShown k (input.Packet (packet_for from to (body.StopEntity e))) st (packet lists from (body.StopEntity e) st)
stop_whole c k lists st from to e is brought tidy = whole k (input.Packet (packet_for from to (body.StopEntity e))) st (of_entities (entities.stop e) st) (stop_shown k e st) refl (entities_apart (entities.stop e st.entities)) (stop_tidy c e st is.entities brought tidy)

pub sequenced_whole : (c : Script) (k : Known) (lists : SlotLists) (st : Node) (from to : Incarnation) (m : Message) → IsSoundNode c st → IsTidy st → IsShown k (input.Packet (packet_for from to (body.Sequenced m))) st (packet lists from (body.Sequenced m) st)
sequenced_whole c k lists st from to m is tidy = whole k (input.Packet (packet_for from to (body.Sequenced m))) st (route m st) (route_shown k m st tidy.started) refl (route_apart m st) (route_tidy m st (sound_well c st is).set_is tidy)

pub armed_whole : (k : Known) (sends : List (List Sending)) (lists : SlotLists) (st : Node) (e : List ℕ) (a : Keep) → IsTidy st → IsShown k (input.FailWrite e a) st (turn sends lists (input.FailWrite e a) st)
armed_whole k sends lists st e a tidy = whole k (input.FailWrite e a) st (of_entities (entities.arm e a) st) (armed_shown k e a st) refl (entities_apart (entities.arm e a st.entities)) (armed_tidy e a st tidy)

pub asks_passivate_whole : (k : Known) (sends : List (List Sending)) (lists : SlotLists) (st : Node) (e : List ℕ) → IsTidy st → IsShown k (input.Passivate e) st (turn sends lists (input.Passivate e) st)
asks_passivate_whole k sends lists st e tidy = whole k (input.Passivate e) st (of_entities (entities.ask_to_passivate e) st) (asks_passivate_shown k e st) refl (entities_apart (entities.ask_to_passivate e st.entities)) (asks_passivate_tidy e st tidy)

-- The region.

pub registered_whole : (k : Known) (lists : SlotLists) (st : Node) (from to : Incarnation) → IsTidy st → IsShown k (input.Packet (packet_for from to body.RegisterAck)) st (packet lists from body.RegisterAck st)
registered_whole k lists st from to tidy = record { shown_is = refl; tidy = registered_tidy st from tidy }

pub leave_whole : (k : Known) (sends : List (List Sending)) (lists : SlotLists) (st : Node) → IsTidy st → IsShown k input.Leave st (turn sends lists input.Leave st)
leave_whole k sends lists st tidy = whole k input.Leave st (of_region region.leave st) (leave_shown k st tidy.started) refl (region_apart (region.leave st.region)) (leave_tidy st tidy)

pub begin_hand_off_whole : (k : Known) (lists : SlotLists) (st : Node) (from to : Incarnation) (s : ℕ) (stamp : Stamp) → IsTidy st → IsShown k (input.Packet (packet_for from to (body.BeginHandOff s stamp))) st (packet lists from (body.BeginHandOff s stamp) st)
begin_hand_off_whole k lists st from to s stamp tidy = whole k (input.Packet (packet_for from to (body.BeginHandOff s stamp))) st (of_region (region.begin_hand_off s stamp from) st) (begin_hand_off_shown k st s stamp from tidy.started)
    (producers_stay st (show_got from (body.BeginHandOff s stamp) st) (region_apart (if is_below (region.mark st.region s) stamp then marked s stamp ∷ [] else []))) (region_apart (region.begin_hand_off s stamp from st.region)) (begin_hand_off_tidy st s stamp from tidy)

pub hand_off_whole : (k : Known) (lists : SlotLists) (st : Node) (from to : Incarnation) (s : ℕ) (stamp : Stamp) → k.packet ≡ Some (packet_for from to (body.HandOff s stamp)) → IsTidy st → IsShown k (input.Packet (packet_for from to (body.HandOff s stamp))) st (packet lists from (body.HandOff s stamp) st)
hand_off_whole k lists st from to s stamp is tidy = whole k (input.Packet (packet_for from to (body.HandOff s stamp))) st (hand_off s stamp from st) (hand_off_shown k st s stamp from (ap is_passivate is) tidy.started)
    (producers_stay st (show_got from (body.HandOff s stamp) st) (all_if is_apart (region.takes_hand_off s stamp st.region) (by_entities (handed_off s stamp from) ∷ []) [] refl refl)) (hand_off_apart s stamp from st) (hand_off_tidy st s stamp from tidy)

-- View, with what Lead shows.

offices_apart : (acts : List Act) → list_all is_office acts ≡ true → list_all is_apart acts ≡ true
offices_apart acts h = all_map is_office is_apart one acts h
  where
    one : (a : Act) → is_office a ≡ true → is_apart a ≡ true
    one (by_coordinator m) e = refl
    one (by_region m) e = refl
    one (by_entities m) e = refl
    one (by_producer p m) e = absurd (true≢false (sym e))

pub view_whole : (k : Known) (lists : SlotLists) (st : Node) (from to : Incarnation) (v : ℕ) (xs : List Incarnation) → slice_index_or k.views v [] ≡ xs → IsTidy st
    → (let first : List Act = of_region (region.take_view v xs) st in AreShownBeside (known_on k (items_of first)) (fold after st first) (lead lists (fold after st first))) → IsShown k (input.Packet (packet_for from to (body.View v xs))) st (packet lists from (body.View v xs) st)
view_whole k lists st from to v xs known tidy leads = by (nat_le v st.region.version)
  where
    first : List Act
    first = of_region (region.take_view v xs) st

    mid : Node
    mid = fold after st first

    next : Known
    next = known_on k (items_of first)

    leading : List Act
    leading = lead lists mid

    later : Node
    later = fold after mid leading

    asks : List Act
    asks = of_region region.register later

    mid_tidy : IsTidy mid
    mid_tidy = take_view_tidy st v xs tidy

    later_tidy : IsTidy later
    later_tidy = office_tidy mid leading (lead_office lists mid) mid_tidy

    acts : List Act
    acts = first ++ (leading ++ (asks ++ []))

    shows : AreShownBeside k st acts
    shows = beside_both k st first (leading ++ (asks ++ [])) (take_view_shown k st v xs tidy.started known)
        (beside_both next mid leading (asks ++ []) leads
        (beside_both (known_on next (items_of leading)) later asks [] (register_shown (known_on next (items_of leading)) later later_tidy.started) (λ ps. refl)))

    apart : list_all is_apart acts ≡ true
    apart = all_join is_apart first (leading ++ (asks ++ [])) (region_apart (region.take_view v xs st.region))
        (all_join is_apart leading (asks ++ []) (offices_apart leading (lead_office lists mid)) (all_join is_apart asks [] (region_apart (region.register later.region)) refl))

    tidied : IsTidy (fold after st acts)
    tidied = subst IsTidy (sym (fold-append after st first (leading ++ (asks ++ [])) ∙ (fold-append after mid leading (asks ++ []) ∙ fold-append after later asks []))) (register_tidy later later_tidy)

    by : (b : Bool) → IsShown k (input.Packet (packet_for from to (body.View v xs))) st (if b then [] else acts)
    by true = record { shown_is = refl; tidy = tidy }
    by false = whole k (input.Packet (packet_for from to (body.View v xs))) st acts shows refl apart tidied

-- Shards.

from_whole : (k : Known) (i : Input) (st : Node) (acts : List Act) → ShowsFrom k (opened i st) st acts → (opened i st).producers ≡ st.producers → list_all is_apart acts ≡ true → IsShown k i st acts
from_whole k i st acts f same apart = whole k i st acts f.shows same apart f.tidy

pub shard_home_whole : (c : Script) (k : Known) (lists : SlotLists) (st : Node) (from to : Incarnation) (s : ℕ) (h : Incarnation) (stamp : Stamp) → IsSoundNode c st → IsTidy st → shard_list k.world.lists s ≡ shard_list lists s
    → IsShown k (input.Packet (packet_for from to (body.ShardHome s h stamp))) st (packet lists from (body.ShardHome s h stamp) st)
shard_home_whole c k lists st from to s h stamp is tidy known = from_whole k (input.Packet (packet_for from to (body.ShardHome s h stamp))) st (shard_home lists s h stamp st) (shard_home_shown k lists st from s h stamp tidy (sound_well c st is) (λ none. known))
    (producers_stay st (show_got from (body.ShardHome s h stamp) st) (region_apart (if region.takes_home s h stamp st.region then marked s stamp ∷ [] else []))) (shard_home_apart lists s h stamp st)

pub host_shard_whole : (c : Script) (k : Known) (lists : SlotLists) (st : Node) (from to : Incarnation) (s : ℕ) (stamp : Stamp) → IsSoundNode c st → IsTidy st → shard_list k.world.lists s ≡ shard_list lists s
    → IsShown k (input.Packet (packet_for from to (body.HostShard s stamp))) st (packet lists from (body.HostShard s stamp) st)
host_shard_whole c k lists st from to s stamp is tidy known = from_whole k (input.Packet (packet_for from to (body.HostShard s stamp))) st (host_shard lists s stamp from st) (host_shard_shown k lists st from s stamp tidy (sound_well c st is) (λ none. known))
    (producers_stay st (show_got from (body.HostShard s stamp) st) (region_apart (if region.takes_host s stamp st.region then marked s stamp ∷ [] else []))) (host_shard_apart lists s stamp from st)

-- Any packet, where those of the coordinator and the producers are shown.

abbrev pub is_elsewhere : Body → Bool
is_elsewhere body.Register = true
is_elsewhere (body.GetShardHome s) = true
is_elsewhere (body.ShardStarted s) = true
is_elsewhere body.GracefulShutdownReq = true
is_elsewhere (body.BeginHandOffAck s stamp) = true
is_elsewhere (body.ShardStopped s stamp) = true
is_elsewhere (body.Request p e n u) = true
is_elsewhere (body.Ack p e n) = true
is_elsewhere (body.Resend p e n) = true
is_elsewhere b = false

pub packet_whole : (c : Script) (vouches : List ℕ → ℕ → ℕ → Bool) (k : Known) (lists : SlotLists) (st : Node) (from to : Incarnation) (b : Body) → IsSoundNode c st → IsTidy st → IsPromised c vouches st from b → k.world.lists ≡ lists → k.packet ≡ Some (packet_for from to b) → IsToldBody k.views b
    → ((v : ℕ) (xs : List Incarnation) → slice_index_or k.views v [] ≡ xs → let first : List Act = of_region (region.take_view v xs) st in AreShownBeside (known_on k (items_of first)) (fold after st first) (lead lists (fold after st first)))
    → (is_elsewhere b ≡ true → IsShown k (input.Packet (packet_for from to b)) st (packet lists from b st)) → IsShown k (input.Packet (packet_for from to b)) st (packet lists from b st)
packet_whole c vouches k lists st from to (body.View v xs) is tidy may known got views leads elsewhere = view_whole k lists st from to v xs views tidy (leads v xs views)
packet_whole c vouches k lists st from to body.RegisterAck is tidy may known got views leads elsewhere = registered_whole k lists st from to tidy
packet_whole c vouches k lists st from to (body.ShardHome s h stamp) is tidy may known got views leads elsewhere = shard_home_whole c k lists st from to s h stamp is tidy (ap (λ l. shard_list l s) known)
packet_whole c vouches k lists st from to (body.HostShard s stamp) is tidy may known got views leads elsewhere = host_shard_whole c k lists st from to s stamp is tidy (ap (λ l. shard_list l s) known)
packet_whole c vouches k lists st from to (body.BeginHandOff s stamp) is tidy may known got views leads elsewhere = begin_hand_off_whole k lists st from to s stamp tidy
packet_whole c vouches k lists st from to (body.HandOff s stamp) is tidy may known got views leads elsewhere = hand_off_whole k lists st from to s stamp got tidy
packet_whole c vouches k lists st from to (body.Recovered e) is tidy may known got views leads elsewhere = recovered_whole k lists st from to e tidy
packet_whole c vouches k lists st from to (body.Passivate e) is tidy may known got views leads elsewhere = passivate_whole k lists st from to e got tidy
packet_whole c vouches k lists st from to (body.StopEntity e) is tidy may known got views leads elsewhere = stop_whole c k lists st from to e is may.genuine tidy
packet_whole c vouches k lists st from to (body.Sequenced m) is tidy may known got views leads elsewhere = sequenced_whole c k lists st from to m is tidy
packet_whole c vouches k lists st from to body.Register is tidy may known got views leads elsewhere = elsewhere refl
packet_whole c vouches k lists st from to (body.GetShardHome s) is tidy may known got views leads elsewhere = elsewhere refl
packet_whole c vouches k lists st from to (body.ShardStarted s) is tidy may known got views leads elsewhere = elsewhere refl
packet_whole c vouches k lists st from to body.GracefulShutdownReq is tidy may known got views leads elsewhere = elsewhere refl
packet_whole c vouches k lists st from to (body.BeginHandOffAck s stamp) is tidy may known got views leads elsewhere = elsewhere refl
packet_whole c vouches k lists st from to (body.ShardStopped s stamp) is tidy may known got views leads elsewhere = elsewhere refl
packet_whole c vouches k lists st from to (body.Request p e n u) is tidy may known got views leads elsewhere = elsewhere refl
packet_whole c vouches k lists st from to (body.Ack p e n) is tidy may known got views leads elsewhere = elsewhere refl
packet_whole c vouches k lists st from to (body.Resend p e n) is tidy may known got views leads elsewhere = elsewhere refl

-- The tick: the order shows what the producers send again, and the rest goes on beside that.

abbrev is_queue : Act → Bool
is_queue (by_producer p m) = true
is_queue a = false

queues_alone : (st : Node) (acts : List Act) → list_all is_queue acts ≡ true → fold after st acts ≡ with_producers (fold after st acts).producers st
queues_alone st [] h = refl
queues_alone st (by_producer p m ∷ acts) h = queues_alone (after st (by_producer p m)) acts h
queues_alone st (by_region m ∷ acts) h = absurd (true≢false (sym h))
queues_alone st (by_entities m ∷ acts) h = absurd (true≢false (sym h))
queues_alone st (by_coordinator m ∷ acts) h = absurd (true≢false (sym h))

queue_moves : (p : ℕ) (ms : List Move) → list_all is_queue (map (by_producer p) ms) ≡ true
queue_moves p [] = refl
queue_moves p (m ∷ ms) = queue_moves p ms

pub tick_opened : (st : Node) → opened input.Tick st ≡ with_producers (opened input.Tick st).producers st
tick_opened st = queues_alone st (show_order (Some (order.Tick 0)) st)
    (all_each is_queue (λ p. of_producer p (λ k. flat_map (λ e. map (pushed e) (producer.to_repeat e k)) st.set.names) st) (producers st.set)
    (λ p. all_some is_queue (λ k. map (by_producer p) (flat_map (λ e. map (pushed e) (producer.to_repeat e k)) st.set.names)) (at st.producers (p - 1)) (λ k. queue_moves p (flat_map (λ e. map (pushed e) (producer.to_repeat e k)) st.set.names))))

-- rules in turn, and then others
turn_split : (rules more : List Rule) (st : Node) → all_in_turn (rules ++ more) st ≡ all_in_turn rules st ++ all_in_turn more (fold after st (all_in_turn rules st))
turn_split [] more st = refl
turn_split (rule ∷ rules) more st =
    let first : List Act = rule st in
    let mid : Node = fold after st first in
    let rest : List Act = all_in_turn rules mid in
    ap (λ acts. first ++ acts) (turn_split rules more mid)
    ∙ (sym (append_assoc first rest (all_in_turn more (fold after mid rest))) ∙ ap (λ n. (first ++ rest) ++ all_in_turn more n) (sym (fold-append after st first rest)))

-- the producers' part
abbrev pub queues_again : Setting → Rule
queues_again set = for_each after (λ p. for_each after (send_again p) set.names) (producers set)

-- where Lead and the coordinator's part are shown, and the producers' part from what the order has shown of them
pub tick_whole : (c : Script) (k : Known) (lists : SlotLists) (st : Node) → IsSoundNode c st → IsTidy st → k.world.set ≡ setting c → k.world.lists ≡ lists → k.packet ≡ None → AreShownBeside k st (lead lists st)
    → (let led : Node = fold after st (lead lists st) in AreShownBeside (known_on k (items_of (lead lists st))) led (of_coordinator coordinator.tick_coordinator led))
    → (let now : Node = fold after st (front lists st) in IsTidy now
    → (shown (known_on k (items_of (front lists st))) (with_producers (opened input.Tick st).producers now) (items_of (queues_again st.set now)) ≡ fold after now (queues_again st.set now)) × IsTidy (fold after now (queues_again st.set now)))
    → IsShown k input.Tick st (tick lists st)
tick_whole c k lists st is tidy set known got leads coordinates queues =
    let acts : List Act = front lists st in
    let now : Node = fold after st acts in
    let rest : List Act = queues_again st.set now in
    let w : ShowsWell k st acts = front_shown c k lists st set (ap is_passivate got) (sound_set c st is) tidy (sound_well c st is) (λ t above none. ap (λ l. shard_list l t) known) leads coordinates in
    let q : (shown (known_on k (items_of acts)) (with_producers (opened input.Tick st).producers now) (items_of rest) ≡ fold after now rest) × IsTidy (fold after now rest) = queues w.tidy in
    let both_are : (shown k (opened input.Tick st) (items_of (acts ++ rest)) ≡ fold after st (acts ++ rest)) × IsTidy (fold after st (acts ++ rest)) = (
      ap (λ n. shown k n (items_of (acts ++ rest))) (tick_opened st) ∙ (beside_then k st (fold after now rest) acts rest (opened input.Tick st).producers w.shows q.0 ∙ sym (fold-append after st acts rest)),
      subst IsTidy (sym (fold-append after st acts rest)) q.1,
    ) in
    let split : tick lists st ≡ acts ++ rest = turn_split (front_rules lists st) (queues_again st.set ∷ []) st ∙ ap (λ l. acts ++ l) (append-nil rest) in
    subst (λ l. IsShown k input.Tick st l) (sym split) (record { shown_is = both_are.0; tidy = both_are.1 })

-- what the front of a tick leaves of the producers
pub front_apart : (lists : SlotLists) (st : Node) → list_all is_apart (front lists st) ≡ true
front_apart lists st =
    let first : List Act = lead lists st in
    let led : Node = fold after st first in
    let second : List Act = of_coordinator coordinator.tick_coordinator led in
    let mid : Node = fold after led second in
    let third : List Act = of_region region.tick_region mid in
    let later : Node = fold after mid third in
    let agains : List Act = for_each after (start_again lists) (shards st.set) later in
    let last : List Act = of_entities entities.tick_entities (fold after later agains) in
    all_join is_apart first (second ++ (third ++ (agains ++ (last ++ [])))) (offices_apart first (lead_office lists st))
    (all_join is_apart second (third ++ (agains ++ (last ++ []))) (offices_apart second (office_rule coordinator.tick_coordinator led))
    (all_join is_apart third (agains ++ (last ++ [])) (region_apart (region.tick_region mid.region))
    (all_join is_apart agains (last ++ []) (agains_apart lists (shards st.set) later) (all_join is_apart last [] (entities_apart (entities.tick_entities (fold after later agains).entities)) refl))))
