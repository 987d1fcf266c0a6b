-- The queries of a trace: every word of the world and of each node, read off the facts alone, by a fold of one-fact steps. A fact is an item of the node that acts by it; it may show silent moves besides; the packet that a node got, and the order that begins, show the others.
use Rattle.std.specs.Prelude.{ℕ, ◌-◌, Bool, true, false, ◌==◌, nat_lt, List, [], ◌∷◌, ◌++◌, map, find, fold, Option, Some, None, slice_index_or, if◌then◌else◌}
use Rattle.std.specs.List.{flat_map, slice_get}
use Rattle.std.specs.Option.{option_map, option_and_then}
use Rattle.yard_model.specs.declared.fact.Fact.{Fact}
use Rattle.yard_model.specs.declared.fact.Fact.TheVariants as fact
use Rattle.yard_model.specs.declared.out.Item.{Item}
use Rattle.yard_model.specs.declared.out.Item.TheVariants as item
use Rattle.yard_model.specs.declared.packet.Body.{Body}
use Rattle.yard_model.specs.declared.packet.Body.TheVariants as body
use Rattle.yard_model.specs.declared.packet.Packet.{Packet}
use Rattle.yard_model.specs.declared.charter.Line.{Line}
use Rattle.yard_model.specs.declared.charter.Order.{Order}
use Rattle.yard_model.specs.declared.charter.Order.TheVariants as order
use Rattle.yard_model.specs.declared.incarnation.Incarnation.{Incarnation}
use Rattle.yard_model.specs.declared.incarnation.Slot.{Slot}
use Rattle.yard_model.specs.declared.incarnation.Slot.TheVariants as slot
use Rattle.yard_model.specs.Setting.{producers}
use Rattle.yard_model.specs.Words.{is_at, is_among, is_below}
use Rattle.yard_model.specs.SlotReads.{holder}
use Rattle.yard_model.specs.Turns.{in_turn, where_some}
use Rattle.yard_model.specs.Move.{made, took, viewed, leaves, marked, released, handed_off, passivates, demanded, pushed, quits, acknowledged}
use Rattle.yard_model.specs.Region as region
use Rattle.yard_model.specs.Producer as producer
use Rattle.yard_model.specs.Coordinator as coordinator
use Rattle.yard_model.specs.Node.{Node, Act, Rule, by_region, by_entities, by_producer, by_coordinator, after, of_region, of_producer, of_coordinator, is_running}
use Rattle.yard_model.specs.Trace.{slot_of, list_at}
use Rattle.yard_model.specs.World.{World, world_after, node_at, active_node, with_order}

pub record Known : Type 0 where
  pub orders : List Line
  pub world : World  -- its nodes are what the queries answer
  pub views : List (List Incarnation)  -- the members at each version
  pub packet : Option Packet  -- the packet whose delivery is the last input that a fact opened

-- before the first fact
abbrev pub nothing_known : List Line → World → Known
nothing_known orders w = record { orders = orders; world = w; views = [] ∷ []; packet = None }

-- the order of a line
abbrev pub order_at : List Line → ℕ → Option Order
order_at orders n = option_map (λ (l : Line). l.order) (find (λ (l : Line). l.number == n) orders)

-- packet k, where it was posted since the number of shards last changed
abbrev pub posted : World → ℕ → Option Packet
posted w k = if nat_lt w.past k then slice_get w.wire (k - 1) else None

-- Who acts by a fact.

abbrev pub who_at : World → ℕ → Option Incarnation
who_at w n = option_map (λ (st : Node). st.who) (node_at w n)

-- the incarnation that an order tells to leave, or gives a tick
abbrev pub told_by : World → Order → Option Incarnation
told_by w (order.Leave n) = who_at w n
told_by w (order.Tick n) = who_at w n
told_by w o = None

-- the incarnation of which a fact shows something: the one that it names, the addressee of a packet that is got, the node where the entity that is armed is Active, or the holder of the slot
abbrev pub actor : Known → Fact → Option Incarnation
actor k (fact.At n) = option_and_then (told_by k.world) (order_at k.orders n)
actor k (fact.Sent j p) = Some p.from
actor k (fact.Got j) = option_map (λ (p : Packet). p.to) (posted k.world j)
actor k (fact.View x v) = Some x
actor k (fact.Granted s n x) = Some x
actor k (fact.Moving s stamp) = holder k.world.lists.coordinator
actor k (fact.Home x s h) = Some x
actor k (fact.Forget x s) = Some x
actor k (fact.Kept x m) = Some x
actor k (fact.Dropped x m) = Some x
actor k (fact.Stashed x m) = Some x
actor k (fact.Start x e) = Some x
actor k (fact.Active x e n st) = Some x
actor k (fact.Stop x e) = Some x
actor k (fact.WriteFailed x e) = Some x
actor k (fact.Armed e a) = option_map (λ (st : Node). st.who) (active_node e k.world)
actor k f = option_and_then (λ s. holder (list_at k.world.lists s)) (slot_of k.world.set f)

-- What a fact shows of its actor.

abbrev pub item_of_fact : Fact → Item
item_of_fact (fact.Sent j p) = item.Post p
item_of_fact f = item.Fact f

abbrev pub by_queue : Item → Option Slot → List Act
by_queue i (Some (slot.Queue p)) = by_producer p (made i) ∷ []
by_queue i s = []

-- the item, to each actor: one that it isn't of is left as it was
abbrev pub show_item : Fact → Rule
show_item f st = let i : Item = item_of_fact f in by_region (made i) ∷ by_entities (made i) ∷ by_coordinator (made i) ∷ by_queue i (slot_of st.set f)

-- the kept messages of a shard are taken out, where it is routable now
abbrev pub show_released : ℕ → Rule
show_released s st = if region.is_routable st.region s (is_running st s) then map (λ m. by_region (released s)) (region.kept_of st.region.kept s) else []

abbrev pub show_took : Slot → List Fact → Rule
show_took (slot.Shard s) list = in_turn after (λ st. by_entities (took (slot.Shard s) list) ∷ []) (show_released s)
show_took slot.Coordinator list = λ st. by_coordinator (took slot.Coordinator list) ∷ []
show_took (slot.Queue p) list = λ st. by_producer p (took (slot.Queue p) list) ∷ []

abbrev pub show_push : ℕ → List ℕ → Rule
show_push p e = of_producer p (producer.push_marks e)

abbrev pub is_passivate : Option Packet → Bool
is_passivate None = false
is_passivate (Some p) = is_passivate_body p.body
  where
    is_passivate_body : Body → Bool
    is_passivate_body (body.Passivate e) = true
    is_passivate_body b = false

-- StopEntity passivates where it is posted in the input of a Passivate
abbrev pub show_post : Option Packet → Body → Rule
show_post got (body.StopEntity e) st = if is_passivate got then by_entities (passivates e) ∷ [] else []
show_post got b st = []

-- what a packet shows of the node that gets it, where the rule of the packet takes effect
abbrev pub show_got : Incarnation → Body → Rule
show_got from body.RegisterAck = of_region (region.registered_by from)
show_got from (body.ShardHome s h stamp) = of_region (λ r. if region.takes_home s h stamp r then marked s stamp ∷ [] else [])
show_got from (body.HostShard s stamp) = of_region (λ r. if region.takes_host s stamp r then marked s stamp ∷ [] else [])
show_got from (body.BeginHandOff s stamp) = of_region (λ r. if is_below (region.mark r s) stamp then marked s stamp ∷ [] else [])
show_got from (body.HandOff s stamp) = λ st. if region.takes_hand_off s stamp st.region then by_entities (handed_off s stamp from) ∷ [] else []
show_got from (body.Request p e n u) = in_turn after (of_producer p (λ k. demanded e u ∷ [])) (show_push p e)
show_got from (body.Ack p e n) = show_push p e
show_got from (body.ShardStarted s) = of_coordinator (coordinator.shard_started from s)
show_got from body.GracefulShutdownReq = of_coordinator (λ k. if is_among from (coordinator.registered k) then quits from ∷ [] else [])
show_got from (body.BeginHandOffAck s stamp) = of_coordinator (λ k. flat_map (λ x. if is_among from x.awaited then acknowledged s from ∷ [] else []) (coordinator.moving_at s stamp k))
show_got from b = λ st. []

-- a tick sends the first number again that isn't confirmed
abbrev pub show_order : Option Order → Rule
show_order (Some (order.Leave n)) st = by_region leaves ∷ []
show_order (Some (order.Tick n)) st = flat_map (λ p. of_producer p (λ k. flat_map (λ e. map (pushed e) (producer.to_repeat e k)) st.set.names) st) (producers st.set)
show_order o st = []

-- the silent moves that a fact shows
abbrev pub show_silent : Known → Fact → Rule
show_silent k (fact.At n) = show_order (order_at k.orders n)
show_silent k (fact.Got j) = λ st. where_some (λ (p : Packet). show_got p.from p.body st) (posted k.world j)
show_silent k (fact.Sent j p) = show_post k.packet p.body
show_silent k (fact.View x v) = λ st. by_region (viewed (slice_index_or k.views v [])) ∷ []
show_silent k (fact.Granted s n x) = show_took s (list_at k.world.lists s ++ fact.Granted s n x ∷ [])
show_silent k (fact.Home x s h) = show_released s
show_silent k (fact.Queued p e n c) = show_push p e
show_silent k (fact.Confirmed p e n) = show_push p e
show_silent k f = λ st. []

abbrev pub show : Known → Fact → Rule
show k f = in_turn after (show_item f) (show_silent k f)

-- One more fact.

abbrev pub know_node : Known → Fact → Option Incarnation → Node → Node
know_node k f who st = if is_at st.who who then fold after st (show k f st) else st

-- the world with what a fact shows of its nodes and orders
abbrev pub know_world : Known → Fact → World
know_world k f = record k.world { nodes = map (option_map (know_node k f (actor k f))) k.world.nodes }

abbrev pub ordered_by : Known → Fact → World → World
ordered_by k (fact.At n) w = with_order (order_at k.orders n) w
ordered_by k f w = w

abbrev pub views_step : World → List (List Incarnation) → Fact → List (List Incarnation)
views_step after old (fact.Up x) = old ++ after.members ∷ []
views_step after old (fact.Gone x) = old ++ after.members ∷ []
views_step after old f = old

abbrev pub packet_step : World → Option Packet → Fact → Option Packet
packet_step w old (fact.At n) = None
packet_step w old (fact.Got j) = posted w j
packet_step w old f = old

-- State of one more fact
abbrev pub know : Known → Fact → Known
know k f = let w : World = world_after (ordered_by k f (know_world k f)) f in record {
  orders = k.orders;
  world = w;
  views = views_step w k.views f;
  packet = packet_step k.world k.packet f;
}

-- State: what the queries answer of a trace that began in this world
abbrev pub known : List Line → World → List Fact → Known
known orders w trace = fold know (nothing_known orders w) trace
