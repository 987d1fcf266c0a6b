-- No step of the world changes how many sends were ordered.
use Rattle.std.proofs.Common.{◌≡◌, ℕ, zero, suc, ◌-◌, List, [], ◌∷◌, ◌++◌, refl, ◌∙◌}
use Rattle.std.specs.Prelude.{Bool, true, false, ◌==◌, ◌&&◌, ◌||◌, length, map, nat_lt, filter, fold, Option, Some, None, is_none, if◌then◌else◌}
use Rattle.std.specs.List.{list_any, slice_get}
use Rattle.yard_model.specs.declared.fact.Fact.{Fact}
use Rattle.yard_model.specs.declared.fact.Fact.TheVariants as fact
use Rattle.yard_model.specs.declared.input.Input.{Input}
use Rattle.yard_model.specs.declared.input.Input.TheVariants as input
use Rattle.yard_model.specs.declared.packet.Packet.{Packet}
use Rattle.yard_model.specs.declared.charter.Line.{Line}
use Rattle.yard_model.specs.declared.charter.Order.{Order}
use Rattle.yard_model.specs.declared.charter.Order.TheVariants as order
use Rattle.yard_model.specs.Node.{Node, items_of, turn, crash}
use Rattle.yard_model.specs.Setting.{producers}
use Rattle.yard_model.specs.SlotLists.{queue_list}
use Rattle.yard_model.specs.SlotReads.{holder, queued_in_all}
use Rattle.yard_model.specs.Words.{is_among, is_empty, numbers}
use Rattle.yard_model.specs.World as world
use Rattle.yard_model.specs.World.{World, Made, Step, world_after, tell, then_step, in_order, input_facts, node_at, node_of, queue_holder, is_of_node, ordered_of, active_node, with_order, is_left, is_any_up, greatest_epoch, settle_bound}
use Rattle.world_sim.proofs.SeenLaws.{view_items}

-- from one world to another
abbrev pub IsSame : World → World → Type 0
IsSame w v = v.ordered ≡ w.ordered

abbrev pub Leaves : Step → Type 0
Leaves q = (w : World) → IsSame w (q w).world

facts_leave : (fs : List Fact) (w : World) → IsSame w (fold world_after w fs)
facts_leave [] w = refl
facts_leave (f ∷ fs) w = facts_leave fs (world_after w f)

tell_leaves : (fs : List Fact) → Leaves (tell fs)
tell_leaves fs w = facts_leave fs w

then_leaves : (w : World) (m : Made) (q : Step) → IsSame w m.world → Leaves q → IsSame w (then_step m q).world
then_leaves w m q s f = by m.world.full
  where
    by : (b : Bool) → IsSame w (elim b as (λ b. Made) [ true ↦ m | false ↦ let n : Made = q m.world in record { facts = m.facts ++ n.facts; world = n.world } ]).world
    by true = s
    by false = f m.world ∙ s

if_leaves : (w : World) (b : Bool) (m n : Made) → IsSame w m.world → IsSame w n.world → IsSame w (if b then m else n).world
if_leaves w true m n s t = s
if_leaves w false m n s t = t

nothing_leaves : Leaves world.nothing
nothing_leaves w = refl

handle_leaves : (i : Input) (st : Node) → Leaves (world.handle i st)
handle_leaves i st w = facts_leave (input_facts w (items_of (turn w.sends w.lists i st))) w

or_leaves : (i : Input) (o : Option Node) (q : Step) → Leaves q → Leaves (world.give_or i o q)
or_leaves i None q s w = s w
or_leaves i (Some st) q s w = handle_leaves i st w

give_leaves : (i : Input) (o : Option Node) → Leaves (world.give i o)
give_leaves i o w = or_leaves i o (tell []) (tell_leaves []) w

over_leaves : (k : ℕ) (p : Packet) → Leaves (world.hand_over k p)
over_leaves k p w = if_leaves w (nat_lt w.past k && is_among p.to w.members) (world.give (input.Packet p) (node_at w p.to.node) w) (tell [] w) (give_leaves (input.Packet p) (node_at w p.to.node) w) refl

deliver_by_leaves : (k : ℕ) (o : Option Packet) → Leaves (world.deliver_by k o)
deliver_by_leaves k None w = refl
deliver_by_leaves k (Some p) w = then_leaves w (tell (fact.Got k ∷ []) w) (world.hand_over k p) refl (over_leaves k p)

deliver_leaves : (k : ℕ) → Leaves (world.deliver k)
deliver_leaves zero w = refl
deliver_leaves (suc k) w = deliver_by_leaves (suc k) (slice_get w.wire k) w

drain_leaves : (from n : ℕ) → Leaves (world.drain from n)
drain_leaves from zero w = refl
drain_leaves from (suc n) w = by (filter (nat_lt from) w.fresh) (drain_leaves from n)
  where
    by : (ks : List ℕ) → Leaves (world.drain from n) → IsSame w (elim ks as (λ x. Made) [ [] ↦ tell [] w | k ∷ ks ↦ then_step (world.deliver k w) (world.drain from n) ]).world
    by [] rest = refl
    by (k ∷ ks) rest = then_leaves w (world.deliver k w) (world.drain from n) (deliver_leaves k w) rest

views_leave : Leaves world.views
views_leave w = facts_leave (input_facts w (view_items w.version w.members w.members)) w

come_up_leaves : (n : ℕ) → Leaves (world.come_up n)
come_up_leaves n w = then_leaves w (tell (fact.Up _ ∷ []) w) world.views refl views_leave

down_by_leaves : (o : Option Node) → Leaves (world.go_down_by o)
down_by_leaves None w = refl
down_by_leaves (Some st) w = facts_leave (fact.Gone st.who ∷ crash st) w

go_down_leaves : (n : ℕ) → Leaves (world.go_down n)
go_down_leaves n w = down_by_leaves (node_at w n) w

waiting_leaves : (p n k : ℕ) → Leaves (world.send_waiting p n k)
waiting_leaves p n zero w = refl
waiting_leaves p n (suc k) w = then_leaves w (world.give (input.Send p) (node_at w n) w) (world.send_waiting p n k) (give_leaves (input.Send p) (node_at w n) w) (waiting_leaves p n k)

all_waiting_leave : (p n : ℕ) → Leaves (world.send_all_waiting p n)
all_waiting_leave p n w =
    let k : ℕ = ordered_of w p - queued_in_all (queue_list w.lists p) in
    if_leaves w (is_of_node n (queue_holder w p)) (world.send_waiting p n k w) (tell [] w) (waiting_leaves p n k w) refl

produce_leaves : (p n : ℕ) → Leaves (world.produce p n)
produce_leaves p n w =
    let m : Made = world.give (input.Produce p) (node_at w n) w in
    if_leaves w (is_none (node_at w n) || is_of_node n (queue_holder w p)) (world.nothing w) (then_step m (world.send_all_waiting p n)) refl
    (then_leaves w m (world.send_all_waiting p n) (give_leaves (input.Produce p) (node_at w n) w) (all_waiting_leave p n))

-- Steps in order.

abbrev AllLeave : List Step → Type 0
AllLeave [] = Unit {0}
AllLeave (q ∷ qs) = Leaves q × AllLeave qs

order_leaves : (qs : List Step) → AllLeave qs → Leaves (in_order qs)
order_leaves [] h w = refl
order_leaves (q ∷ qs) h w = then_leaves w (q w) (in_order qs) (h.0 w) (order_leaves qs h.1)

each_leaves : (f : ℕ → Step) (ns : List ℕ) → ((n : ℕ) → Leaves (f n)) → AllLeave (map f ns)
each_leaves f [] h = tt
each_leaves f (n ∷ ns) h = (h n, each_leaves f ns h)

-- Settle.

ticks_leave : (from bound n : ℕ) → Leaves (world.tick_while_left from bound n)
ticks_leave from bound zero w = refl
ticks_leave from bound (suc n) w = by (list_any (is_left w) (producers w.set)) (ticks_leave from bound n)
  where
    m : Made
    m = then_step (world.give input.Tick (node_at w 1) w) (world.drain from bound)

    by : (b : Bool) → Leaves (world.tick_while_left from bound n) → IsSame w (elim b as (λ b. Made) [ false ↦ tell [] w | true ↦ then_step m (world.tick_while_left from bound n) ]).world
    by false rest = refl
    by true rest = then_leaves w m (world.tick_while_left from bound n) (then_leaves w (world.give input.Tick (node_at w 1) w) (world.drain from bound) (give_leaves input.Tick (node_at w 1) w) (drain_leaves from bound)) rest

end_leaves : (from : ℕ) → Leaves (world.settle_end from)
end_leaves from w = if_leaves w (world.is_unsettled from w) (tell [] w) (in_order (world.go_down 1 ∷ tell (fact.Settled ∷ []) ∷ []) w) refl
    (order_leaves (world.go_down 1 ∷ tell (fact.Settled ∷ []) ∷ []) (go_down_leaves 1, (tell_leaves (fact.Settled ∷ []), tt)) w)

settle_leaves : Leaves world.settle
settle_leaves w =
    let from : ℕ = length w.wire in
    let bound : ℕ = settle_bound w in
    order_leaves (
    in_order (map world.go_down (numbers 1 w.set.config.nodes))
    ∷ world.come_up 1
    ∷ world.drain from bound
    ∷ in_order (map (λ p. world.produce p 1) (producers w.set))
    ∷ world.drain from bound
    ∷ world.tick_while_left from bound bound
    ∷ world.settle_end from
    ∷ []) (
      order_leaves (map world.go_down (numbers 1 w.set.config.nodes)) (each_leaves world.go_down (numbers 1 w.set.config.nodes) go_down_leaves),
      (
        come_up_leaves 1,
        (
          drain_leaves from bound,
          (
            order_leaves (map (λ p. world.produce p 1) (producers w.set)) (each_leaves (λ p. world.produce p 1) (producers w.set) (λ p. produce_leaves p 1)),
            (drain_leaves from bound, (ticks_leave from bound bound, (end_leaves from, tt))),
          ),
        ),
      ),
    ) w

-- Orders.

pub play_leaves : (o : Order) → Leaves (world.play o)
play_leaves (order.Up n) w = if_leaves w (is_none (node_at w n)) (world.come_up n w) (world.nothing w) (come_up_leaves n w) refl
play_leaves (order.Crash n) w = if_leaves w (is_none (node_at w n)) (world.nothing w) (then_step (world.go_down n w) world.views) refl (then_leaves w (world.go_down n w) world.views (go_down_leaves n w) views_leave)
play_leaves (order.Leave n) w = or_leaves input.Leave (node_at w n) world.nothing nothing_leaves w
play_leaves (order.Tick n) w = or_leaves input.Tick (node_at w n) world.nothing nothing_leaves w
play_leaves (order.Produce p n) w = produce_leaves p n w
play_leaves (order.Rest p) w = or_leaves (input.Rest p) (node_of w (queue_holder w p)) world.nothing nothing_leaves w
play_leaves (order.Send p e c) w = or_leaves (input.Send p) (node_of w (queue_holder w p)) (tell (fact.Waits p e c ∷ [])) (tell_leaves (fact.Waits p e c ∷ [])) w
play_leaves (order.Passivate e) w = or_leaves (input.Passivate e) (active_node e w) world.nothing nothing_leaves w
play_leaves (order.FailWrite e k) w = or_leaves (input.FailWrite e k) (active_node e w) world.nothing nothing_leaves w
play_leaves (order.Deliver k) w = deliver_leaves k w
play_leaves (order.Pump n) w = if_leaves w (is_empty w.fresh) (world.nothing w) (world.drain 0 n w) refl (drain_leaves 0 n w)
play_leaves (order.Rebalance n) w = or_leaves (input.Rebalance n) (node_of w (holder w.lists.coordinator)) world.nothing nothing_leaves w
play_leaves order.Settle w = settle_leaves w
play_leaves (order.Reshard n) w = if_leaves w (is_any_up w || (n == w.set.config.shards)) (world.nothing w) (tell (fact.Reshard n (greatest_epoch w.lists) ∷ []) w) refl refl
play_leaves order.Upgrade w = if_leaves w (is_any_up w || (w.behaviour == 2)) (world.nothing w) (tell (fact.Upgrade 2 ∷ []) w) refl refl
play_leaves (order.Ping p) w = refl

-- a line, once its order is noted
pub line_leaves : (l : Line) (w : World) → IsSame (with_order (Some l.order) w) (world.play_line l w).world
line_leaves l w =
    let v : World = with_order (Some l.order) w in
    then_leaves v (tell (fact.At l.number ∷ []) v) (world.play l.order) refl (play_leaves l.order)
