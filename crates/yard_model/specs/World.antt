-- The world: all nodes, one step after the other, as the orders of a script say. Its words, but for the nodes and what was ordered, are folds of one-fact steps over the facts.
use Rattle.std.specs.Prelude.{ℕ, zero, suc, ◌+◌, ◌-◌, ◌*◌, Bool, true, false, ◌==◌, ◌&&◌, ◌||◌, nat_lt, not, max, List, [], ◌∷◌, ◌++◌, length, map, filter, fold, sum, replicate, Option, Some, None, is_none, is_some, slice_index_or, slice_set, if◌then◌else◌}
use Rattle.std.specs.List.{list_any, slice_get}
use Rattle.yard_model.specs.declared.fact.Fact.{Fact}
use Rattle.yard_model.specs.declared.fact.Fact.TheVariants as fact
use Rattle.yard_model.specs.declared.out.Item.{Item}
use Rattle.yard_model.specs.declared.out.Item.TheVariants as item
use Rattle.yard_model.specs.declared.input.Input.{Input}
use Rattle.yard_model.specs.declared.input.Input.TheVariants as input
use Rattle.yard_model.specs.declared.input.Phase.TheVariants as phase
use Rattle.yard_model.specs.declared.packet.Body.TheVariants as body
use Rattle.yard_model.specs.declared.packet.Packet.{Packet}
use Rattle.yard_model.specs.declared.event.Command.{Command}
use Rattle.yard_model.specs.declared.incarnation.Incarnation.{Incarnation}
use Rattle.yard_model.specs.declared.charter.Line.{Line}
use Rattle.yard_model.specs.declared.charter.Order.{Order}
use Rattle.yard_model.specs.declared.charter.Order.TheVariants as order
use Rattle.yard_model.specs.declared.charter.Sending.{Sending}
use Rattle.yard_model.specs.Script.{Script, Setting, setting, sends}
use Rattle.yard_model.specs.Setting.{producers, set_shards}
use Rattle.yard_model.specs.SlotLists.{SlotLists, queue_list}
use Rattle.yard_model.specs.Words.{numbers, is_among, is_empty, at, without}
use Rattle.yard_model.specs.SlotReads.{holder, epoch, queued, confirmed, queued_in_all}
use Rattle.yard_model.specs.Entities.{is_in_phase}
use Rattle.yard_model.specs.Node.{Node, new_node, after, items_of, turn, crash}
use Rattle.yard_model.specs.Trace.{no_lists, lists_step}
use Rattle.yard_model.specs.Era.{upgrade_step, opening_of, reshaped}

-- the sends of each producer
abbrev pub all_sends : Script → List (List Sending)
all_sends c = map (sends c) (numbers 1 c.config.producers)

pub record World : Type 0 where
  pub set : Setting  -- with the number of shards in force
  pub behaviour : ℕ  -- the version of behaviours in force
  pub sends : List (List Sending)  -- of each producer, from 1
  pub limit : ℕ  -- on the numbers of packets
  pub members : List Incarnation  -- those that are up, oldest first
  pub version : ℕ  -- of the membership: how often nodes have come up or gone
  pub ups : List ℕ  -- per node: the number of its last incarnation
  pub wire : List Packet  -- what was posted, from number 1
  pub fresh : List ℕ  -- the numbers that were never delivered, rising
  pub past : ℕ  -- how many were posted before the number of shards last changed: those go to incarnations that are gone
  pub lists : SlotLists
  pub full : Bool  -- the limit was passed, and the trace stops
  pub ordered : List ℕ  -- per producer: how many of its sends were ordered so far
  pub nodes : List (Option Node)  -- per node, where it is up

-- no node is up and nothing is posted
abbrev pub world_of : Script → ℕ → ℕ → SlotLists → List ℕ → List ℕ → World
world_of c version limit lists ups ordered = record {
  set = setting c;
  behaviour = version;
  sends = all_sends c;
  limit = limit;
  members = [];
  version = 0;
  ups = ups;
  wire = [];
  fresh = [];
  past = 0;
  lists = lists;
  full = false;
  ordered = ordered;
  nodes = replicate c.config.nodes None;
}

-- What a fact changes, word by word.

abbrev pub members_step : List Incarnation → Fact → List Incarnation
members_step old (fact.Up x) = old ++ x ∷ []
members_step old (fact.Gone x) = without x old
members_step old f = old

abbrev pub version_step : ℕ → Fact → ℕ
version_step old (fact.Up x) = old + 1
version_step old (fact.Gone x) = old + 1
version_step old f = old

abbrev pub ups_step : List ℕ → Fact → List ℕ
ups_step old (fact.Up x) = slice_set old (x.node - 1) x.number
ups_step old f = old

abbrev pub wire_step : List Packet → Fact → List Packet
wire_step old (fact.Sent k p) = old ++ p ∷ []
wire_step old f = old

abbrev pub fresh_step : List ℕ → Fact → List ℕ
fresh_step old (fact.Sent k p) = old ++ k ∷ []
fresh_step old (fact.Got k) = filter (λ j. not (j == k)) old
fresh_step old f = old

abbrev pub full_step : Bool → Fact → Bool
full_step old fact.WireFull = true
full_step old f = old

abbrev pub past_step : List Packet → ℕ → Fact → ℕ
past_step wire old (fact.Reshard n k) = length wire
past_step wire old f = old

abbrev pub set_step : Setting → Fact → Setting
set_step old (fact.Reshard n k) = set_shards n old
set_step old f = old

-- an entry stands at the end of its slot's list; with another number of shards the lists begin anew
abbrev pub lists_after : Setting → SlotLists → Fact → SlotLists
lists_after set old (fact.Reshard n k) = reshaped set n k old
lists_after set old f = lists_step set old f

-- a node comes up with the settings and the version in force
abbrev pub nodes_step : Setting → ℕ → List (Option Node) → Fact → List (Option Node)
nodes_step set version old (fact.Up x) = slice_set old (x.node - 1) (Some (new_node set version x))
nodes_step set version old (fact.Gone x) = slice_set old (x.node - 1) None
nodes_step set version old f = old

abbrev pub world_after : World → Fact → World
world_after w f = record w {
  set = set_step w.set f;
  behaviour = upgrade_step w.behaviour f;
  members = members_step w.members f;
  version = version_step w.version f;
  ups = ups_step w.ups f;
  wire = wire_step w.wire f;
  fresh = fresh_step w.fresh f;
  past = past_step w.wire w.past f;
  lists = lists_after w.set w.lists f;
  full = full_step w.full f;
  nodes = nodes_step w.set w.behaviour w.nodes f;
}

-- Steps of the world give facts, and the world after them.

pub record Made : Type 0 where
  pub facts : List Fact
  pub world : World

abbrev pub Step : Type 0
Step = World → Made

abbrev pub tell : List Fact → Step
tell fs w = record { facts = fs; world = fold world_after w fs }

abbrev pub nothing : Step
nothing w = tell (fact.Nothing ∷ []) w

-- and then q, where the wire isn't full: else the trace stops
abbrev pub then_step : Made → Step → Made
then_step m q = elim m.world.full as (λ b. Made) [
  | true ↦ m
  | false ↦ let n : Made = q m.world in record { facts = m.facts ++ n.facts; world = n.world }
]

abbrev pub in_order : List Step → Step
in_order [] w = tell [] w
in_order (q ∷ qs) w = then_step (q w) (in_order qs)

-- Inputs at nodes.

-- items as facts: each post gets the next number, where k were posted before; one past the limit isn't posted
abbrev pub numbered : ℕ → ℕ → List Item → List Fact
numbered limit k [] = []
numbered limit k (item.Fact f ∷ is) = f ∷ numbered limit k is
numbered limit k (item.Post p ∷ is) = (if nat_lt k limit then fact.Sent (k + 1) p ∷ [] else []) ++ numbered limit (k + 1) is

abbrev pub count_posts : ℕ → Item → ℕ
count_posts k (item.Post p) = k + 1
count_posts k i = k

-- the facts of the items of one input, and `wirefull` where a post was past the limit
abbrev pub input_facts : World → List Item → List Fact
input_facts w is = let k : ℕ = length w.wire in numbered w.limit k is ++ (if nat_lt w.limit (fold count_posts k is) then fact.WireFull ∷ [] else [])

abbrev pub node_at : World → ℕ → Option Node
node_at w n = at w.nodes (n - 1)

abbrev pub with_node : Node → World → World
with_node st w = record w { nodes = slice_set w.nodes (st.who.node - 1) (Some st) }

-- an input at a node: its facts, and the node after its acts
abbrev pub handle : Input → Node → Step
handle i st w =
    let acts : List _ = turn w.sends w.lists i st in
    let m : Made = tell (input_facts w (items_of acts)) w in
    record { facts = m.facts; world = with_node (fold after st acts) m.world }

-- an input where there is a node, else q
abbrev pub give_or : Input → Option Node → Step → Step
give_or i None q w = q w
give_or i (Some st) q w = handle i st w

-- an input where there is a node
abbrev pub give : Input → Option Node → Step
give i st w = give_or i st (tell []) w

-- Up and crash.

-- a View to each member, oldest first, with the version and the members
abbrev pub views : Step
views w = tell (input_facts w (map (λ x. item.Post (record { from = x; to = x; body = body.View w.version w.members })) w.members)) w

-- `up`, with the number of the node's earlier incarnations plus one; views
abbrev pub come_up : ℕ → Step
come_up n w = then_step (tell (fact.Up (record { node = n; number = slice_index_or w.ups (n - 1) 0 + 1 }) ∷ []) w) views

abbrev pub up : ℕ → Step
up n w = if is_none (node_at w n) then come_up n w else nothing w

-- `gone`, and each slot that it held is freed
abbrev pub go_down_by : Option Node → Step
go_down_by None w = tell [] w
go_down_by (Some st) w = tell (fact.Gone st.who ∷ crash st) w

abbrev pub go_down : ℕ → Step
go_down n w = go_down_by (node_at w n) w

abbrev pub crash_node : ℕ → Step
crash_node n w = if is_none (node_at w n) then nothing w else then_step (go_down n w) views

-- Producing and sending.

abbrev pub queue_holder : World → ℕ → Option Incarnation
queue_holder w p = holder (queue_list w.lists p)

-- the node of an incarnation, if there is one
abbrev pub node_of : World → Option Incarnation → Option Node
node_of w None = None
node_of w (Some x) = node_at w x.node

abbrev pub is_of_node : ℕ → Option Incarnation → Bool
is_of_node n None = false
is_of_node n (Some x) = x.node == n

abbrev pub ordered_of : World → ℕ → ℕ
ordered_of w p = slice_index_or w.ordered (p - 1) 0

-- the sends of p that wait, each as an input
abbrev pub send_waiting : ℕ → ℕ → ℕ → Step
send_waiting p n zero w = tell [] w
send_waiting p n (suc k) w = then_step (give (input.Send p) (node_at w n) w) (send_waiting p n k)

abbrev pub send_all_waiting : ℕ → ℕ → Step
send_all_waiting p n w = if is_of_node n (queue_holder w p) then send_waiting p n (ordered_of w p - queued_in_all (queue_list w.lists p)) w else tell [] w

-- n isn't up, or holds the queue of p: `nothing`. Else n acquires it; where it is granted, the waiting sends are queued
abbrev pub produce : ℕ → ℕ → Step
produce p n w = if is_none (node_at w n) || is_of_node n (queue_holder w p) then nothing w else then_step (give (input.Produce p) (node_at w n) w) (send_all_waiting p n)

-- where the queue of p has a holder: Send there. Else it `waits`
abbrev pub send : ℕ → List ℕ → Command → Step
send p e c w = give_or (input.Send p) (node_of w (queue_holder w p)) (tell (fact.Waits p e c ∷ [])) w

-- Entities.

abbrev pub is_active_at : List ℕ → Option Node → Bool
is_active_at e None = false
is_active_at e (Some st) = is_in_phase phase.Active st.entities e

-- the node at which e is Active
abbrev pub active_node : List ℕ → World → Option Node
active_node e w = fold (λ found o. if is_active_at e o then o else found) None w.nodes

-- Delivery.

-- packet k as an input, where the incarnation that it is addressed to is up
abbrev pub hand_over : ℕ → Packet → Step
hand_over k p w = if nat_lt w.past k && is_among p.to w.members then give (input.Packet p) (node_at w p.to.node) w else tell [] w

abbrev pub deliver_by : ℕ → Option Packet → Step
deliver_by k None w = nothing w
deliver_by k (Some p) w = then_step (tell (fact.Got k ∷ []) w) (hand_over k p)

-- packet k isn't posted: `nothing`. Else `got k`, and it is handed over; it may be delivered again
abbrev pub deliver : ℕ → Step
deliver zero w = nothing w
deliver (suc k) w = deliver_by (suc k) (slice_get w.wire k) w

-- at most n times: deliver the lowest number past `from` that was never delivered
abbrev pub drain : ℕ → ℕ → Step
drain from zero w = tell [] w
drain from (suc n) w = elim (filter (nat_lt from) w.fresh) as (λ x. Made) [ [] ↦ tell [] w | k ∷ ks ↦ then_step (deliver k w) (drain from n) ]

abbrev pub pump : ℕ → Step
pump n w = if is_empty w.fresh then nothing w else drain 0 n w

-- Settle.

-- some send of p that was ordered isn't queued, or isn't confirmed
abbrev pub is_left : World → ℕ → Bool
is_left w p = let list : List Fact = queue_list w.lists p in nat_lt (queued_in_all list) (ordered_of w p) || list_any (λ e. nat_lt (confirmed e list) (queued e list)) w.set.names

-- while something is left: a tick at node 1, then drain
abbrev pub tick_while_left : ℕ → ℕ → ℕ → Step
tick_while_left from bound zero w = tell [] w
tick_while_left from bound (suc n) w = elim (list_any (is_left w) (producers w.set)) as (λ b. Made) [
  | false ↦ tell [] w
  | true ↦ then_step (then_step (give input.Tick (node_at w 1) w) (drain from bound)) (tick_while_left from bound n)
]

-- something is left, or a packet past `from` was never delivered
abbrev pub is_unsettled : ℕ → World → Bool
is_unsettled from w = list_any (is_left w) (producers w.set) || not (is_empty (filter (nat_lt from) w.fresh))

-- node 1 goes down; `settled`. A settle whose budget is spent before stops without
abbrev pub settle_end : ℕ → Step
settle_end from w = if is_unsettled from w then tell [] w else in_order (go_down 1 ∷ tell (fact.Settled ∷ []) ∷ []) w

-- how many commands of p were sent and aren't confirmed
abbrev pub outstanding : World → ℕ → ℕ
outstanding w p = ordered_of w p - sum (map (λ e. confirmed e (queue_list w.lists p)) w.set.names)

-- the budget: no drain of a settle makes so many deliveries, and a settle not so many ticks
abbrev pub settle_bound : World → ℕ
settle_bound w = 40 * (sum (map (outstanding w) (producers w.set)) + w.set.config.shards + w.set.config.producers + length w.set.names + 1)

-- every node goes down; node 1 comes up; drain what is posted from then on; node 1 takes every queue; drain; tick while something is left; the end
abbrev pub settle : Step
settle w =
    let from : ℕ = length w.wire in
    let bound : ℕ = settle_bound w in
    in_order (
    in_order (map go_down (numbers 1 w.set.config.nodes))
    ∷ come_up 1
    ∷ drain from bound
    ∷ in_order (map (λ p. produce p 1) (producers w.set))
    ∷ drain from bound
    ∷ tick_while_left from bound bound
    ∷ settle_end from
    ∷ []) w

-- Other shards, another version.

abbrev pub is_any_up : World → Bool
is_any_up w = list_any is_some w.nodes

-- the greatest epoch of a shard's lease so far
abbrev pub greatest_epoch : SlotLists → ℕ
greatest_epoch lists = fold (λ m l. max m (epoch l)) 0 lists.shards

-- a node is up, or there are so many shards already: `nothing`. Else `reshard`, with the greatest epoch of a shard's lease
abbrev pub reshard : ℕ → Step
reshard n w = if is_any_up w || (n == w.set.config.shards) then nothing w else tell (fact.Reshard n (greatest_epoch w.lists) ∷ []) w

-- a node is up, or version 2 is in force: `nothing`. Else `upgrade`
abbrev pub upgrade : Step
upgrade w = if is_any_up w || (w.behaviour == 2) then nothing w else tell (fact.Upgrade 2 ∷ []) w

-- Orders.

abbrev pub play : Order → Step
play (order.Up n) w = up n w
play (order.Crash n) w = crash_node n w
play (order.Leave n) w = give_or input.Leave (node_at w n) nothing w
play (order.Tick n) w = give_or input.Tick (node_at w n) nothing w
play (order.Produce p n) w = produce p n w
play (order.Rest p) w = give_or (input.Rest p) (node_of w (queue_holder w p)) nothing w
play (order.Send p e c) w = send p e c w
play (order.Passivate e) w = give_or (input.Passivate e) (active_node e w) nothing w
play (order.FailWrite e k) w = give_or (input.FailWrite e k) (active_node e w) nothing w
play (order.Deliver k) w = deliver k w
play (order.Pump n) w = pump n w
play (order.Rebalance n) w = give_or (input.Rebalance n) (node_of w (holder w.lists.coordinator)) nothing w
play order.Settle w = settle w
play (order.Reshard n) w = reshard n w
play order.Upgrade w = upgrade w
play (order.Ping p) w = nothing w

-- a send is ordered
abbrev pub with_order : Option Order → World → World
with_order (Some (order.Send p e c)) w = record w { ordered = slice_set w.ordered (p - 1) (ordered_of w p + 1) }
with_order o w = w

-- `at LINE`, and what the order gives
abbrev pub play_line : Line → Step
play_line l w = then_step (tell (fact.At l.number ∷ []) (with_order (Some l.order) w)) (play l.order)

-- a world that begins
abbrev pub new_world : Script → ℕ → World
new_world c limit = world_of c 1 limit (no_lists (setting c)) (replicate c.config.nodes 0) (replicate c.config.producers 0)

-- from the beginning, one order after the other
abbrev pub played : Script → ℕ → Made
played c limit = in_order (map play_line c.orders) (new_world c limit)

-- how many packets can be posted
abbrev pub wire_limit : ℕ
wire_limit = 1000000

-- TraceOf: the facts of a script
abbrev pub trace_of : Script → List Fact
trace_of c = (played c wire_limit).facts

-- A world of given lists.

-- the greatest number of node 1 in these entries
abbrev pub number_step : ℕ → Fact → ℕ
number_step old (fact.Granted s n x) = if x.node == 1 then max old x.number else old
number_step old (fact.Registered x) = if x.node == 1 then max old x.number else old
number_step old f = old

-- the world of given lists, in which every send is ordered and the numbers of node 1 go on past those in the lists
abbrev pub given_world : Script → ℕ → SlotLists → World
given_world c version lists = world_of c version wire_limit lists (slice_set (replicate c.config.nodes 0) 0 (fold number_step 0 (opening_of version lists))) (map length (all_sends c))

-- and its settle
abbrev pub settled_from : Script → ℕ → SlotLists → Made
settled_from c version lists = settle (given_world c version lists)
