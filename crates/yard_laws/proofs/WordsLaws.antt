-- Each step of the world tells the facts that lead to its words.
use Rattle.std.proofs.Common.{◌≡◌, refl, ℕ, zero, suc, ◌+◌, ◌-◌, sym, ap, ◌∙◌}
use Rattle.std.specs.Prelude.{Bool, true, false, ◌||◌, nat_lt, List, [], ◌∷◌, ◌++◌, length, map, fold, filter, Option, Some, None, is_none, slice_index_or, if◌then◌else◌, ◌&&◌, ◌==◌}
use Rattle.std.specs.List.{slice_get, list_any}
use Rattle.std.proofs.lemmas.List.Sums.{fold-append}
use Rattle.yard_model.specs.declared.fact.Fact.{Fact}
use Rattle.yard_model.specs.declared.fact.Fact.TheVariants as fact
use Rattle.yard_model.specs.declared.input.Input.{Input}
use Rattle.yard_model.specs.declared.input.Input.TheVariants as input
use Rattle.yard_model.specs.declared.out.Item.TheVariants as item
use Rattle.yard_model.specs.declared.packet.Body.TheVariants as body
use Rattle.yard_model.specs.declared.packet.Packet.{Packet}
use Rattle.yard_model.specs.declared.event.Command.{Command}
use Rattle.yard_model.specs.declared.charter.Line.{Line}
use Rattle.yard_model.specs.declared.charter.Order.{Order}
use Rattle.yard_model.specs.declared.charter.Order.TheVariants as order
use Rattle.yard_model.specs.Script.{Script}
use Rattle.yard_model.specs.Setting.{producers}
use Rattle.yard_model.specs.SlotLists.{queue_list}
use Rattle.yard_model.specs.SlotReads.{holder, queued_in_all}
use Rattle.yard_model.specs.Words.{numbers, is_among, is_empty}
use Rattle.yard_model.specs.Node.{Node, turn, items_of, crash}
use Rattle.yard_model.specs.World as world
use Rattle.yard_model.specs.World.{World, Made, Step, world_after, new_world, played}
use Rattle.yard_laws.specs.WorldWords.{words_of, words_after, AreFolds, PlayedFolds, OrderFolds, LineFolds}

abbrev Tells : Step → Type 0
Tells q = (w : World) → AreFolds w (q w)

abbrev AllTell : List Step → Type 0
AllTell [] = Unit {0}
AllTell (q ∷ qs) = Tells q × AllTell qs

-- Steps that are put together.

tell_tells : (fs : List Fact) → Tells (world.tell fs)
tell_tells [] w = refl
tell_tells (f ∷ fs) w = tell_tells fs (world_after w f)

nothing_tells : Tells world.nothing
nothing_tells w = refl

then_tells : (w : World) (m : Made) (q : Step) → AreFolds w m → Tells q → AreFolds w (world.then_step m q)
then_tells w m q t h = at m.world.full
  where
    at : (b : Bool) → AreFolds w (elim b as (λ b. Made) [ true ↦ m | false ↦ let n : Made = q m.world in record { facts = m.facts ++ n.facts; world = n.world } ])
    at true = t
    at false = h m.world ∙ (ap (λ k. fold words_after k (q m.world).facts) t ∙ sym (fold-append words_after (words_of w) m.facts (q m.world).facts))

if_tells : (w : World) (b : Bool) (m n : Made) → AreFolds w m → AreFolds w n → AreFolds w (if b then m else n)
if_tells w true m n t u = t
if_tells w false m n t u = u

order_tells : (qs : List Step) → AllTell qs → Tells (world.in_order qs)
order_tells [] a w = refl
order_tells (q ∷ qs) a w = then_tells w (q w) (world.in_order qs) (a.0 w) (order_tells qs a.1)

map_tells : {X : Type 0} (q : X → Step) → ((x : X) → Tells (q x)) → (xs : List X) → AllTell (map q xs)
map_tells q h [] = tt
map_tells q h (x ∷ xs) = (h x, map_tells q h xs)

-- Inputs.

handle_tells : (i : Input) (st : Node) → Tells (world.handle i st)
handle_tells i st w = tell_tells (world.input_facts w (items_of (turn w.sends w.lists i st))) w

or_tells : (i : Input) (o : Option Node) (q : Step) → Tells q → Tells (world.give_or i o q)
or_tells i None q h w = h w
or_tells i (Some st) q h w = handle_tells i st w

give_tells : (i : Input) (o : Option Node) → Tells (world.give i o)
give_tells i o w = or_tells i o (world.tell []) (tell_tells []) w

-- Up and crash.

views_tell : Tells world.views
views_tell w = tell_tells (world.input_facts w (map (λ x. item.Post (record { from = x; to = x; body = body.View w.version w.members })) w.members)) w

come_up_tells : (n : ℕ) → Tells (world.come_up n)
come_up_tells n w =
    let fs : List Fact = fact.Up (record { node = n; number = slice_index_or w.ups (n - 1) 0 + 1 }) ∷ [] in
    then_tells w (world.tell fs w) world.views (tell_tells fs w) views_tell

up_tells : (n : ℕ) → Tells (world.up n)
up_tells n w = if_tells w (is_none (world.node_at w n)) (world.come_up n w) (world.nothing w) (come_up_tells n w) (nothing_tells w)

down_by_tells : (o : Option Node) → Tells (world.go_down_by o)
down_by_tells None w = refl
down_by_tells (Some st) w = tell_tells (fact.Gone st.who ∷ crash st) w

down_tells : (n : ℕ) → Tells (world.go_down n)
down_tells n w = down_by_tells (world.node_at w n) w

crash_tells : (n : ℕ) → Tells (world.crash_node n)
crash_tells n w = if_tells w (is_none (world.node_at w n)) (world.nothing w) (world.then_step (world.go_down n w) world.views) (nothing_tells w) (then_tells w (world.go_down n w) world.views (down_tells n w) views_tell)

-- Producing and sending.

waiting_tells : (p n k : ℕ) → Tells (world.send_waiting p n k)
waiting_tells p n zero w = refl
waiting_tells p n (suc k) w = then_tells w (world.give (input.Send p) (world.node_at w n) w) (world.send_waiting p n k) (give_tells (input.Send p) (world.node_at w n) w) (waiting_tells p n k)

all_waiting_tells : (p n : ℕ) → Tells (world.send_all_waiting p n)
all_waiting_tells p n w =
    let k : ℕ = world.ordered_of w p - queued_in_all (queue_list w.lists p) in
    if_tells w (world.is_of_node n (world.queue_holder w p)) (world.send_waiting p n k w) (world.tell [] w) (waiting_tells p n k w) (tell_tells [] w)

produce_tells : (p n : ℕ) → Tells (world.produce p n)
produce_tells p n w =
    let m : Made = world.give (input.Produce p) (world.node_at w n) w in
    if_tells w (is_none (world.node_at w n) || world.is_of_node n (world.queue_holder w p)) (world.nothing w) (world.then_step m (world.send_all_waiting p n)) (nothing_tells w)
    (then_tells w m (world.send_all_waiting p n) (give_tells (input.Produce p) (world.node_at w n) w) (all_waiting_tells p n))

send_tells : (p : ℕ) (e : List ℕ) (k : Command) → Tells (world.send p e k)
send_tells p e k w = or_tells (input.Send p) (world.node_of w (world.queue_holder w p)) (world.tell (fact.Waits p e k ∷ [])) (tell_tells (fact.Waits p e k ∷ [])) w

-- Delivery.

over_tells : (k : ℕ) (p : Packet) → Tells (world.hand_over k p)
over_tells k p w = if_tells w (nat_lt w.past k && is_among p.to w.members) (world.give (input.Packet p) (world.node_at w p.to.node) w) (world.tell [] w) (give_tells (input.Packet p) (world.node_at w p.to.node) w) (tell_tells [] w)

deliver_by_tells : (k : ℕ) (o : Option Packet) → Tells (world.deliver_by k o)
deliver_by_tells k None w = nothing_tells w
deliver_by_tells k (Some p) w = then_tells w (world.tell (fact.Got k ∷ []) w) (world.hand_over k p) (tell_tells (fact.Got k ∷ []) w) (over_tells k p)

deliver_tells : (k : ℕ) → Tells (world.deliver k)
deliver_tells zero w = nothing_tells w
deliver_tells (suc k) w = deliver_by_tells (suc k) (slice_get w.wire k) w

more_tells : (w : World) (q : Step) → Tells q → (ks : List ℕ) → AreFolds w (elim ks as (λ x. Made) [ [] ↦ world.tell [] w | k ∷ ks ↦ world.then_step (world.deliver k w) q ])
more_tells w q h [] = refl
more_tells w q h (k ∷ ks) = then_tells w (world.deliver k w) q (deliver_tells k w) h

drain_tells : (from n : ℕ) → Tells (world.drain from n)
drain_tells from zero w = refl
drain_tells from (suc n) w = more_tells w (world.drain from n) (drain_tells from n) (filter (nat_lt from) w.fresh)

pump_tells : (n : ℕ) → Tells (world.pump n)
pump_tells n w = if_tells w (is_empty w.fresh) (world.nothing w) (world.drain 0 n w) (nothing_tells w) (drain_tells 0 n w)

-- Settle.

tick_tells : (w : World) (from bound : ℕ) (q : Step) → Tells q → (b : Bool) → AreFolds w (elim b as (λ b. Made) [
  | false ↦ world.tell [] w
  | true ↦ world.then_step (world.then_step (world.give input.Tick (world.node_at w 1) w) (world.drain from bound)) q
])
tick_tells w from bound q h false = refl
tick_tells w from bound q h true =
    let m : Made = world.give input.Tick (world.node_at w 1) w in
    then_tells w (world.then_step m (world.drain from bound)) q (then_tells w m (world.drain from bound) (give_tells input.Tick (world.node_at w 1) w) (drain_tells from bound)) h

ticks_tell : (from bound n : ℕ) → Tells (world.tick_while_left from bound n)
ticks_tell from bound zero w = refl
ticks_tell from bound (suc n) w = tick_tells w from bound (world.tick_while_left from bound n) (ticks_tell from bound n) (list_any (world.is_left w) (producers w.set))

end_tells : (from : ℕ) → Tells (world.settle_end from)
end_tells from w =
    let qs : List Step = world.go_down 1 ∷ world.tell (fact.Settled ∷ []) ∷ [] in
    if_tells w (world.is_unsettled from w) (world.tell [] w) (world.in_order qs w) (tell_tells [] w) (order_tells qs (down_tells 1, (tell_tells (fact.Settled ∷ []), tt)) w)

settle_tells : Tells world.settle
settle_tells w =
    let from : ℕ = length w.wire in
    let bound : ℕ = world.settle_bound w in
    let downs : List Step = map world.go_down (numbers 1 w.set.config.nodes) in
    let takes : List Step = map (λ p. world.produce p 1) (producers w.set) in
    order_tells
    (world.in_order downs ∷ world.come_up 1 ∷ world.drain from bound ∷ world.in_order takes ∷ world.drain from bound ∷ world.tick_while_left from bound bound ∷ world.settle_end from ∷ []) (
      order_tells downs (map_tells world.go_down down_tells (numbers 1 w.set.config.nodes)),
      (
        come_up_tells 1,
        (
          drain_tells from bound,
          (
            order_tells takes (map_tells (λ p. world.produce p 1) (λ p. produce_tells p 1) (producers w.set)),
            (drain_tells from bound, (ticks_tell from bound bound, (end_tells from, tt))),
          ),
        ),
      ),
    )
    w

-- Orders.

play_tells : (o : Order) → Tells (world.play o)
play_tells (order.Up n) w = up_tells n w
play_tells (order.Crash n) w = crash_tells n w
play_tells (order.Leave n) w = or_tells input.Leave (world.node_at w n) world.nothing nothing_tells w
play_tells (order.Tick n) w = or_tells input.Tick (world.node_at w n) world.nothing nothing_tells w
play_tells (order.Produce p n) w = produce_tells p n w
play_tells (order.Rest p) w = or_tells (input.Rest p) (world.node_of w (world.queue_holder w p)) world.nothing nothing_tells w
play_tells (order.Send p e k) w = send_tells p e k w
play_tells (order.Passivate e) w = or_tells (input.Passivate e) (world.active_node e w) world.nothing nothing_tells w
play_tells (order.FailWrite e k) w = or_tells (input.FailWrite e k) (world.active_node e w) world.nothing nothing_tells w
play_tells (order.Deliver k) w = deliver_tells k w
play_tells (order.Pump n) w = pump_tells n w
play_tells (order.Rebalance n) w = or_tells (input.Rebalance n) (world.node_of w (holder w.lists.coordinator)) world.nothing nothing_tells w
play_tells order.Settle w = settle_tells w
play_tells (order.Reshard n) w =
    let fs : List Fact = fact.Reshard n (world.greatest_epoch w.lists) ∷ [] in
    if_tells w (world.is_any_up w || (n == w.set.config.shards)) (world.nothing w) (world.tell fs w) (nothing_tells w) (tell_tells fs w)
play_tells order.Upgrade w =
    let fs : List Fact = fact.Upgrade 2 ∷ [] in
    if_tells w (world.is_any_up w || (w.behaviour == 2)) (world.nothing w) (world.tell fs w) (nothing_tells w) (tell_tells fs w)
play_tells (order.Ping p) w = nothing_tells w

ordered_same : (o : Order) (w : World) → words_of (world.with_order (Some o) w) ≡ words_of w
ordered_same (order.Send p e k) w = refl
ordered_same o w = refl

line_tells : (l : Line) → Tells (world.play_line l)
line_tells l w =
    let v : World = world.with_order (Some l.order) w in
    let fs : List Fact = fact.At l.number ∷ [] in
    then_tells w (world.tell fs v) (world.play l.order) (tell_tells fs v ∙ ap (λ t. fold words_after t fs) (ordered_same l.order w)) (play_tells l.order)

played_tells : (c : Script) (limit : ℕ) → AreFolds (new_world c limit) (played c limit)
played_tells c limit = order_tells (map world.play_line c.orders) (map_tells world.play_line line_tells c.orders) (new_world c limit)

pub played_folds : PlayedFolds
played_folds c limit = played_tells c limit

pub order_folds : OrderFolds
order_folds o w = play_tells o w

pub line_folds : LineFolds
line_folds l w = line_tells l w
