-- A node: its actors side by side, and what each input gives. An input is handled whole before the next, a rule of this project.
use Rattle.std.specs.Prelude.{ℕ, ◌+◌, ◌-◌, Bool, ◌&&◌, nat_le, not, List, [], ◌∷◌, ◌++◌, map, replicate, Option, Some, None, is_none, slice_index_or, slice_set, if◌then◌else◌}
use Rattle.std.specs.List.{flat_map}
use Rattle.std.specs.Option.{option_map}
use Rattle.yard_model.specs.declared.fact.Fact.{Fact}
use Rattle.yard_model.specs.declared.fact.Fact.TheVariants as fact
use Rattle.yard_model.specs.declared.out.Item.{Item}
use Rattle.yard_model.specs.declared.out.Item.TheVariants as item
use Rattle.yard_model.specs.declared.input.Input.{Input}
use Rattle.yard_model.specs.declared.input.Input.TheVariants as input
use Rattle.yard_model.specs.declared.packet.Body.{Body}
use Rattle.yard_model.specs.declared.packet.Body.TheVariants as body
use Rattle.yard_model.specs.declared.packet.Message.{Message}
use Rattle.yard_model.specs.declared.incarnation.Incarnation.{Incarnation}
use Rattle.yard_model.specs.declared.incarnation.Stamp.{Stamp}
use Rattle.yard_model.specs.declared.incarnation.Slot.{Slot}
use Rattle.yard_model.specs.declared.incarnation.Slot.TheVariants as slot
use Rattle.yard_model.specs.declared.incarnation.Cause.TheVariants as cause
use Rattle.yard_model.specs.declared.charter.Sending.{Sending}
use Rattle.yard_model.specs.Script.{Setting}
use Rattle.yard_model.specs.Setting.{shards, producers, shard_of}
use Rattle.yard_model.specs.SlotLists.{SlotLists, shard_list, queue_list}
use Rattle.yard_model.specs.Words.{is_at, at}
use Rattle.yard_model.specs.SlotReads.{holder, epoch}
use Rattle.yard_model.specs.Turns.{in_turn, for_each, where_some}
use Rattle.yard_model.specs.Move.{Move, made, took, released, demanded, pushed, told, post, item_of}
use Rattle.yard_model.specs.Region as region
use Rattle.yard_model.specs.Region.{Region}
use Rattle.yard_model.specs.Entities as entities
use Rattle.yard_model.specs.Entities.{Entities}
use Rattle.yard_model.specs.Producer as producer
use Rattle.yard_model.specs.Producer.{Producer}
use Rattle.yard_model.specs.Coordinator as coordinator
use Rattle.yard_model.specs.Coordinator.{Coordinator}

pub record Node : Type 0 where
  pub who : Incarnation
  pub set : Setting
  pub region : Region
  pub entities : Entities
  pub producers : List (Option Producer)  -- those whose queue it holds
  pub coordinator : Option Coordinator  -- while it holds the slot

-- a node that comes up, with a behaviour of this version
abbrev pub new_node : Setting → ℕ → Incarnation → Node
new_node set version who = record {
  who = who;
  set = set;
  region = region.new_region set who;
  entities = entities.new_entities set version who;
  producers = replicate set.config.producers None;
  coordinator = None;
}

-- a move of one of the actors
pub data Act : Type 0 where
  by_region : Move → Act
  by_entities : Move → Act
  by_producer : ℕ → Move → Act
  by_coordinator : Move → Act

-- An act changes its actor alone.

abbrev pub region_part : Region → Act → Region
region_part old (by_region m) = region.region_after old m
region_part old a = old

abbrev pub entities_part : Entities → Act → Entities
entities_part old (by_entities m) = entities.entities_after old m
entities_part old a = old

-- the producer is there from when its queue is taken until it is freed
abbrev pub producer_by : Setting → Incarnation → ℕ → Option Producer → Move → Option Producer
producer_by set who p old (took s list) = Some (producer.new_producer set who p list)
producer_by set who p old (made (item.Fact (fact.Freed s n why))) = None
producer_by set who p old m = option_map (λ k. producer.producer_after k m) old

abbrev pub producers_part : Setting → Incarnation → List (Option Producer) → Act → List (Option Producer)
producers_part set who old (by_producer p m) = slice_set old (p - 1) (producer_by set who p (at old (p - 1)) m)
producers_part set who old a = old

-- the coordinator is there from when its slot is taken
abbrev pub coordinator_by : Setting → Incarnation → Option Coordinator → Move → Option Coordinator
coordinator_by set who old (took s list) = Some (coordinator.new_coordinator set who list)
coordinator_by set who old m = option_map (λ k. coordinator.coordinator_after k m) old

abbrev pub coordinator_part : Setting → Incarnation → Option Coordinator → Act → Option Coordinator
coordinator_part set who old (by_coordinator m) = coordinator_by set who old m
coordinator_part set who old a = old

abbrev pub after : Node → Act → Node
after st a = record {
  who = st.who;
  set = st.set;
  region = region_part st.region a;
  entities = entities_part st.entities a;
  producers = producers_part st.set st.who st.producers a;
  coordinator = coordinator_part st.set st.who st.coordinator a;
}

abbrev pub move_of : Act → Move
move_of (by_region m) = m
move_of (by_entities m) = m
move_of (by_producer p m) = m
move_of (by_coordinator m) = m

-- the items of acts
abbrev pub items_of : List Act → List Item
items_of acts = flat_map (λ a. item_of (move_of a)) acts

-- Rules of the node, and of one of its actors.

abbrev pub Rule : Type 0
Rule = Node → List Act

abbrev pub of_region : (Region → List Move) → Rule
of_region p st = map by_region (p st.region)

abbrev pub of_entities : (Entities → List Move) → Rule
of_entities p st = map by_entities (p st.entities)

abbrev pub of_producer : ℕ → (Producer → List Move) → Rule
of_producer p f st = where_some (λ k. map (by_producer p) (f k)) (at st.producers (p - 1))

abbrev pub of_coordinator : (Coordinator → List Move) → Rule
of_coordinator p st = where_some (λ k. map by_coordinator (p k)) st.coordinator

-- rules in turn
abbrev pub all_in_turn : List Rule → Rule
all_in_turn rules = for_each after (λ rule st. rule st) rules

-- Routing.

abbrev pub is_running : Node → ℕ → Bool
is_running st s = entities.is_running st.entities s

-- Route: where the home of the message's shard is this node, and the shard is Running, it is delivered; else it is routed away
abbrev pub route : Message → Rule
route m st =
    let s : ℕ = shard_of st.set m.entity in
    if region.is_home st.region s && is_running st s then of_entities (entities.deliver m) st else of_region (region.route_away m) st

-- Release: where the home of s is another node, or is this node and s is Running, the kept messages of s are taken out, oldest first, and each is routed
abbrev pub release : ℕ → Rule
release s st =
    if region.is_routable st.region s (is_running st s)
    then for_each after (λ m. in_turn after (λ st. by_region (released s) ∷ []) (route m)) (region.kept_of st.region.kept s) st
    else []

-- Leases (Akka 2.6, Coordination): the leases tell the list of each slot.

abbrev pub acquire_by : Slot → Incarnation → List Fact → Option Incarnation → List Move
acquire_by s who list None = let f : Fact = fact.Granted s (epoch list + 1) who in told f ∷ took s (list ++ f ∷ []) ∷ []
acquire_by s who list (Some h) = told (fact.Held s who h.node) ∷ []

-- acquire: where nobody holds the slot it is granted, in the next epoch, and its store is taken; else it is held
abbrev pub acquire : Slot → Incarnation → List Fact → List Move
acquire s who list = acquire_by s who list (holder list)

-- Start, where s isn't hosted: acquire it; where it is granted, it is Running, and its remembered entities start
abbrev pub start : SlotLists → ℕ → Rule
start lists s st =
    if entities.is_hosted st.entities s then []
    else in_turn after (λ st. map by_entities (acquire (slot.Shard s) st.who (shard_list lists s))) (of_entities (entities.start_remembered s)) st

-- Lead: where this node is the oldest of its view and doesn't hold the coordinator's slot, acquire it. Where it holds it now, each registered region that isn't in the view is terminated
abbrev pub lead : SlotLists → Rule
lead lists = in_turn after
    (λ st. if is_at st.who (region.oldest st.region) && is_none st.coordinator then map by_coordinator (acquire slot.Coordinator st.who lists.coordinator) else [])
    (λ st. of_coordinator (coordinator.terminate_lost st.region.view) st)

-- Producing.

-- route each of the numbers that f tells of producer p and entity e
abbrev pub route_numbers : ℕ → List ℕ → (Producer → List ℕ) → Rule
route_numbers p e f st = where_some (λ k. for_each after (λ n. route (producer.message_of e k n)) (f k) st) (at st.producers (p - 1))

-- Push: what was sent is at least what may be sent; each number that may be sent and wasn't before is routed
abbrev pub push : ℕ → List ℕ → Rule
push p e st = where_some (λ k. all_in_turn (of_producer p (producer.push_marks e) ∷ route_numbers p e (λ j. producer.to_push e k) ∷ []) st) (at st.producers (p - 1))

-- Send: the next of the producer's sends is queued; then Push of its pair
abbrev pub send_by : ℕ → Option Sending → Rule
send_by p None st = []
send_by p (Some x) st = all_in_turn (of_producer p (producer.queue x) ∷ push p x.entity ∷ []) st

abbrev pub send : List (List Sending) → ℕ → Rule
send sends p st = where_some (λ k. send_by p (producer.next_sending (slice_index_or sends (p - 1) []) k) st) (at st.producers (p - 1))

-- Produce, where the node doesn't hold the queue: acquire it
abbrev pub produce : SlotLists → ℕ → Rule
produce lists p st = if is_none (at st.producers (p - 1)) then map (by_producer p) (acquire (slot.Queue p) st.who (queue_list lists p)) else []

-- The tick.

-- of a shard whose home is this node and which isn't hosted: Start, then Release
abbrev pub start_again : SlotLists → ℕ → Rule
start_again lists s st = if region.is_home st.region s && not (entities.is_hosted st.entities s) then all_in_turn (start lists s ∷ release s ∷ []) st else []

-- of a pair: where some queued number isn't confirmed, what was sent is at least the first such, and that one is routed
abbrev pub send_again : ℕ → List ℕ → Rule
send_again p e = all_in_turn (of_producer p (λ k. map (pushed e) (producer.to_repeat e k)) ∷ route_numbers p e (producer.to_repeat e) ∷ [])

-- Tick: Lead; the coordinator's part; the region's part; Start for each shard, rising; the entities' part; for each queue, rising, and each entity by name, the first number that isn't confirmed again
abbrev pub tick : SlotLists → Rule
tick lists st = all_in_turn (
    lead lists
    ∷ of_coordinator coordinator.tick_coordinator
    ∷ of_region region.tick_region
    ∷ for_each after (start_again lists) (shards st.set)
    ∷ of_entities entities.tick_entities
    ∷ for_each after (λ p. for_each after (send_again p) st.set.names) (producers st.set)
    ∷ []) st

-- Packets.

-- View, where its version is greater: the region takes it; Lead; register
abbrev pub view_packet : SlotLists → ℕ → List Incarnation → Rule
view_packet lists v xs st =
    if nat_le v st.region.version then []
    else all_in_turn (of_region (region.take_view v xs) ∷ lead lists ∷ of_region region.register ∷ []) st

-- ShardHome, where it is taken: the region learns it; where the home is this node, Start; Release
abbrev pub shard_home : SlotLists → ℕ → Incarnation → Stamp → Rule
shard_home lists s h stamp st =
    if region.takes_home s h stamp st.region
    then all_in_turn (of_region (region.learn s h stamp) ∷ (λ st. if region.is_home st.region s then start lists s st else []) ∷ release s ∷ []) st
    else []

-- HostShard, where it is taken: the region learns that the home is this node; Start; post ShardStarted to the sender; Release
abbrev pub host_shard : SlotLists → ℕ → Stamp → Incarnation → Rule
host_shard lists s stamp from st =
    if region.takes_host s stamp st.region
    then all_in_turn (of_region (region.learn s st.who stamp) ∷ start lists s ∷ of_region (λ r. post r.who from (body.ShardStarted s) ∷ []) ∷ release s ∷ []) st
    else []

-- HandOff, where it is taken: where s is hosted, its entities are stopped; else post ShardStopped to the sender
abbrev pub hand_off : ℕ → Stamp → Incarnation → Rule
hand_off s stamp from st =
    if region.takes_hand_off s stamp st.region
    then (if entities.is_hosted st.entities s then of_entities (entities.hand_off s stamp from) st else by_region (post st.who from (body.ShardStopped s stamp)) ∷ [])
    else []

-- Request: Confirm; what is demanded is at least this; Push
abbrev pub request : ℕ → List ℕ → ℕ → ℕ → Rule
request p e n u = all_in_turn (of_producer p (producer.confirm e n) ∷ of_producer p (λ k. demanded e u ∷ []) ∷ push p e ∷ [])

-- Ack: Confirm; Push
abbrev pub ack : ℕ → List ℕ → ℕ → Rule
ack p e n = all_in_turn (of_producer p (producer.confirm e n) ∷ push p e ∷ [])

abbrev pub packet : SlotLists → Incarnation → Body → Rule
packet lists from (body.View v xs) = view_packet lists v xs
packet lists from body.RegisterAck = of_region (region.registered_by from)
packet lists from (body.ShardHome s h stamp) = shard_home lists s h stamp
packet lists from (body.HostShard s stamp) = host_shard lists s stamp from
packet lists from (body.BeginHandOff s stamp) = of_region (region.begin_hand_off s stamp from)
packet lists from (body.HandOff s stamp) = hand_off s stamp from
packet lists from (body.Recovered e) = of_entities (entities.recovered e)
packet lists from (body.Passivate e) = of_entities (entities.passivate e)
packet lists from (body.StopEntity e) = of_entities (entities.stop e)
packet lists from (body.Sequenced m) = route m
packet lists from (body.Request p e n u) = request p e n u
packet lists from (body.Ack p e n) = ack p e n
packet lists from (body.Resend p e f) = route_numbers p e (producer.to_resend e f)
packet lists from b = λ st. of_coordinator (coordinator.coordinate from b st.region.view) st

-- what an input gives, where the producers have these sends and the leases tell these lists
abbrev pub turn : List (List Sending) → SlotLists → Input → Rule
turn sends lists (input.Packet p) = packet lists p.from p.body
turn sends lists input.Tick = tick lists
turn sends lists input.Leave = of_region region.leave
turn sends lists (input.Rebalance n) = of_coordinator (coordinator.rebalance n)
turn sends lists (input.Produce p) = produce lists p
turn sends lists (input.Rest p) = of_producer p producer.give_back
turn sends lists (input.Send p) = send sends p
turn sends lists (input.Passivate e) = of_entities (entities.ask_to_passivate e)
turn sends lists (input.FailWrite e k) = of_entities (entities.arm e k)

-- The crash.

abbrev pub freed_stopped : Slot → List Fact → List Fact
freed_stopped s list = fact.Freed s (epoch list) cause.Stopped ∷ []

-- every slot that the node held is freed: shards rising, the coordinator, queues rising
abbrev pub crash : Node → List Fact
crash st = flat_map (λ s. where_some (λ h. freed_stopped (slot.Shard s) h.entries) (entities.hosted st.entities s)) (shards st.set)
    ++ where_some (λ k. freed_stopped slot.Coordinator k.entries) st.coordinator
    ++ flat_map (λ p. where_some (λ k. freed_stopped (slot.Queue p) k.entries) (at st.producers (p - 1))) (producers st.set)
