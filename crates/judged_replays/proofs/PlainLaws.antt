-- What a world tells, where no order changes the number of shards.
use Rattle.std.proofs.Common.{◌≡◌, ℕ, zero, suc, ◌+◌, ◌-◌, refl, true, false, true≢false, sym}
use Rattle.std.specs.Prelude.{Bool, ◌&&◌, ◌||◌, nat_lt, ◌==◌, not, List, [], ◌∷◌, ◌++◌, length, map, filter, fold, Option, Some, None, is_none, slice_index_or, if◌then◌else◌}
use Rattle.std.specs.List.{list_all, list_any, slice_get}
use Rattle.yard_model.specs.declared.fact.Fact.{Fact}
use Rattle.yard_model.specs.declared.fact.Fact.TheVariants as fact
use Rattle.yard_model.specs.declared.out.Item.{Item}
use Rattle.yard_model.specs.declared.out.Item.TheVariants as item
use Rattle.yard_model.specs.declared.input.Input.{Input}
use Rattle.yard_model.specs.declared.input.Input.TheVariants as input
use Rattle.yard_model.specs.declared.packet.Body.TheVariants as body
use Rattle.yard_model.specs.declared.packet.Packet.{Packet}
use Rattle.yard_model.specs.declared.incarnation.Incarnation.{Incarnation}
use Rattle.yard_model.specs.declared.charter.Sending.{Sending}
use Rattle.yard_model.specs.declared.charter.Line.{Line}
use Rattle.yard_model.specs.declared.charter.Order.{Order}
use Rattle.yard_model.specs.declared.charter.Order.TheVariants as order
use Rattle.yard_model.specs.Node.{Node, items_of, turn, crash}
use Rattle.yard_model.specs.Setting.{producers}
use Rattle.yard_model.specs.Script.{Script}
use Rattle.yard_model.specs.SlotLists.{SlotLists, queue_list}
use Rattle.yard_model.specs.SlotReads.{holder, queued_in_all}
use Rattle.yard_model.specs.Words.{numbers, is_among, is_empty}
use Rattle.yard_model.specs.World as world
use Rattle.yard_model.specs.World.{World, Made, Step}
use Rattle.plain_laws.proofs.Booleans.{and_both, both, all_map}
use Rattle.plain_laws.proofs.Lists.{all_join}
use Rattle.actor_laws.specs.Owes.{facts_in}
use Rattle.node_laws.specs.Carried.{is_view}
use Rattle.play_laws.specs.TurnItems.{is_turn_fact, is_turn_item}
use Rattle.play_laws.proofs.Tells.{armed_items, turn_tells}
use Rattle.play_laws.proofs.Steps.{is_freed, crash_frees}
use Rattle.judge_laws.specs.Judged.{is_reshard}
use Rattle.judged_replays.specs.Replayed.{is_resharding, keeps_shards}

-- a fact that a world may tell, and that doesn't change the number of shards; an upgrade is one to version 2
abbrev pub is_of_replay : Fact → Bool
is_of_replay (fact.Reshard n k) = false
is_of_replay (fact.Resharded s n k) = false
is_of_replay (fact.SentAsk k x) = false
is_of_replay (fact.SentJob k x e) = false
is_of_replay (fact.SentDone k x e) = false
is_of_replay (fact.Given e x) = false
is_of_replay (fact.Did x e) = false
is_of_replay (fact.Upgrade v) = v == 2
is_of_replay f = true

abbrev pub AreOfReplay : List Fact → Type 0
AreOfReplay fs = list_all is_of_replay fs ≡ true

pub replay_is_plain : (f : Fact) → is_of_replay f ≡ true → not (is_reshard f) ≡ true
replay_is_plain (fact.Reshard n k) h = h
replay_is_plain f h = refl

-- What a turn tells.

told_plain : (f : Fact) → is_turn_fact f ≡ true → is_of_replay f ≡ true
told_plain (fact.Reshard n k) h = h
told_plain (fact.Resharded s n k) h = h
told_plain (fact.SentAsk k x) h = h
told_plain (fact.SentJob k x e) h = h
told_plain (fact.SentDone k x e) h = h
told_plain (fact.Given e x) h = h
told_plain (fact.Did x e) h = h
told_plain (fact.Upgrade v) h = absurd (true≢false (sym h))
told_plain f h = refl

items_plain : (is : List Item) → list_all is_turn_item is ≡ true → AreOfReplay (facts_in is)
items_plain [] h = refl
items_plain (item.Fact f ∷ is) h =
    let m : (is_turn_fact f ≡ true) × (list_all is_turn_item is ≡ true) = and_both (is_turn_fact f) (list_all is_turn_item is) h in
    both (is_of_replay f) (list_all is_of_replay (facts_in is)) (told_plain f m.0) (items_plain is m.1)
items_plain (item.Post p ∷ is) h = items_plain is (and_both (not (is_view p.body)) (list_all is_turn_item is) h).1

turn_plain : (sends : List (List Sending)) (lists : SlotLists) (i : Input) (st : Node) → AreOfReplay (facts_in (items_of (turn sends lists i st)))
turn_plain sends lists (input.FailWrite e k) st = armed_items (λ is. AreOfReplay (facts_in is)) e k st refl refl
turn_plain sends lists (input.Packet p) st = items_plain (items_of (turn sends lists (input.Packet p) st)) (turn_tells sends lists (input.Packet p) st refl)
turn_plain sends lists input.Tick st = items_plain (items_of (turn sends lists input.Tick st)) (turn_tells sends lists input.Tick st refl)
turn_plain sends lists input.Leave st = items_plain (items_of (turn sends lists input.Leave st)) (turn_tells sends lists input.Leave st refl)
turn_plain sends lists (input.Rebalance n) st = items_plain (items_of (turn sends lists (input.Rebalance n) st)) (turn_tells sends lists (input.Rebalance n) st refl)
turn_plain sends lists (input.Produce p) st = items_plain (items_of (turn sends lists (input.Produce p) st)) (turn_tells sends lists (input.Produce p) st refl)
turn_plain sends lists (input.Rest p) st = items_plain (items_of (turn sends lists (input.Rest p) st)) (turn_tells sends lists (input.Rest p) st refl)
turn_plain sends lists (input.Send p) st = items_plain (items_of (turn sends lists (input.Send p) st)) (turn_tells sends lists (input.Send p) st refl)
turn_plain sends lists (input.Passivate e) st = items_plain (items_of (turn sends lists (input.Passivate e) st)) (turn_tells sends lists (input.Passivate e) st refl)

freed_plain : (f : Fact) → is_freed f ≡ true → is_of_replay f ≡ true
freed_plain (fact.Freed s n why) h = refl
freed_plain f h = absurd (true≢false (sym h))

-- Steps.

abbrev Stays : Step → Type 0
Stays q = (w : World) → AreOfReplay (q w).facts

abbrev AllStay : List Step → Type 0
AllStay [] = Unit {0}
AllStay (q ∷ qs) = Stays q × AllStay qs

join : (fs gs : List Fact) → AreOfReplay fs → AreOfReplay gs → AreOfReplay (fs ++ gs)
join fs gs = all_join is_of_replay fs gs

-- Steps that are put together.

then_stays : (m : Made) (q : Step) → AreOfReplay m.facts → Stays q → AreOfReplay (world.then_step m q).facts
then_stays m q t h = at m.world.full
  where
    at : (b : Bool) → AreOfReplay (elim b as (λ b. Made) [ true ↦ m | false ↦ let n : Made = q m.world in record { facts = m.facts ++ n.facts; world = n.world } ]).facts
    at true = t
    at false = join m.facts (q m.world).facts t (h m.world)

if_stays : (b : Bool) (m n : Made) → AreOfReplay m.facts → AreOfReplay n.facts → AreOfReplay (if b then m else n).facts
if_stays true m n t u = t
if_stays false m n t u = u

order_stays : (qs : List Step) → AllStay qs → Stays (world.in_order qs)
order_stays [] a w = refl
order_stays (q ∷ qs) a w = then_stays (q w) (world.in_order qs) (a.0 w) (order_stays qs a.1)

map_stays : {X : Type 0} (q : X → Step) → ((x : X) → Stays (q x)) → (xs : List X) → AllStay (map q xs)
map_stays q h [] = tt
map_stays q h (x ∷ xs) = (h x, map_stays q h xs)

-- Inputs.

numbered_within : (limit k : ℕ) (is : List Item) → AreOfReplay (facts_in is) → AreOfReplay (world.numbered limit k is)
numbered_within limit k [] h = refl
numbered_within limit k (item.Fact f ∷ is) h =
    let m : (is_of_replay f ≡ true) × AreOfReplay (facts_in is) = and_both (is_of_replay f) (list_all is_of_replay (facts_in is)) h in
    both (is_of_replay f) (list_all is_of_replay (world.numbered limit k is)) m.0 (numbered_within limit k is m.1)
numbered_within limit k (item.Post p ∷ is) h = by (nat_lt k limit) (numbered_within limit (k + 1) is h)
  where
    by : (b : Bool) → AreOfReplay (world.numbered limit (k + 1) is) → AreOfReplay ((if b then fact.Sent (k + 1) p ∷ [] else []) ++ world.numbered limit (k + 1) is)
    by true rest = rest
    by false rest = rest

input_within : (w : World) (is : List Item) → AreOfReplay (facts_in is) → AreOfReplay (world.input_facts w is)
input_within w is h = join (world.numbered w.limit (length w.wire) is) (full (nat_lt w.limit (fold world.count_posts (length w.wire) is))) (numbered_within w.limit (length w.wire) is h) (last (nat_lt w.limit (fold world.count_posts (length w.wire) is)))
  where
    full : Bool → List Fact
    full b = if b then fact.WireFull ∷ [] else []

    last : (b : Bool) → AreOfReplay (full b)
    last true = refl
    last false = refl

handle_stays : (i : Input) (st : Node) → Stays (world.handle i st)
handle_stays i st w = input_within w (items_of (turn w.sends w.lists i st)) (turn_plain w.sends w.lists i st)

or_stays : (i : Input) (o : Option Node) (q : Step) → Stays q → Stays (world.give_or i o q)
or_stays i None q h w = h w
or_stays i (Some st) q h w = handle_stays i st w

give_stays : (i : Input) (o : Option Node) → Stays (world.give i o)
give_stays i o w = or_stays i o (world.tell []) (λ w. refl) w

-- Up and crash.

no_facts : (xs : List Incarnation) (f : Incarnation → Packet) → AreOfReplay (facts_in (map (λ x. item.Post (f x)) xs))
no_facts [] f = refl
no_facts (x ∷ xs) f = no_facts xs f

views_stay : Stays world.views
views_stay w = input_within w (map (λ x. item.Post (record { from = x; to = x; body = body.View w.version w.members })) w.members) (no_facts w.members (λ x. record { from = x; to = x; body = body.View w.version w.members }))

come_up_stays : (n : ℕ) → Stays (world.come_up n)
come_up_stays n w = then_stays (world.tell (fact.Up (record { node = n; number = slice_index_or w.ups (n - 1) 0 + 1 }) ∷ []) w) world.views refl views_stay

up_stays : (n : ℕ) → Stays (world.up n)
up_stays n w = if_stays (is_none (world.node_at w n)) (world.come_up n w) (world.nothing w) (come_up_stays n w) refl

down_by_stays : (o : Option Node) → Stays (world.go_down_by o)
down_by_stays None w = refl
down_by_stays (Some st) w = all_map is_freed is_of_replay freed_plain (crash st) (crash_frees st)

down_stays : (n : ℕ) → Stays (world.go_down n)
down_stays n w = down_by_stays (world.node_at w n) w

crash_stays : (n : ℕ) → Stays (world.crash_node n)
crash_stays n w = if_stays (is_none (world.node_at w n)) (world.nothing w) (world.then_step (world.go_down n w) world.views) refl (then_stays (world.go_down n w) world.views (down_stays n w) views_stay)

-- Producing and sending.

waiting_stays : (p n k : ℕ) → Stays (world.send_waiting p n k)
waiting_stays p n zero w = refl
waiting_stays p n (suc k) w = then_stays (world.give (input.Send p) (world.node_at w n) w) (world.send_waiting p n k) (give_stays (input.Send p) (world.node_at w n) w) (waiting_stays p n k)

all_waiting_stays : (p n : ℕ) → Stays (world.send_all_waiting p n)
all_waiting_stays p n w =
    let k : ℕ = world.ordered_of w p - queued_in_all (queue_list w.lists p) in
    if_stays (world.is_of_node n (world.queue_holder w p)) (world.send_waiting p n k w) (world.tell [] w) (waiting_stays p n k w) refl

produce_stays : (p n : ℕ) → Stays (world.produce p n)
produce_stays p n w =
    let m : Made = world.give (input.Produce p) (world.node_at w n) w in
    if_stays (is_none (world.node_at w n) || world.is_of_node n (world.queue_holder w p)) (world.nothing w) (world.then_step m (world.send_all_waiting p n)) refl
    (then_stays m (world.send_all_waiting p n) (give_stays (input.Produce p) (world.node_at w n) w) (all_waiting_stays p n))

-- Delivery.

over_stays : (k : ℕ) (p : Packet) → Stays (world.hand_over k p)
over_stays k p w = if_stays (nat_lt w.past k && is_among p.to w.members) (world.give (input.Packet p) (world.node_at w p.to.node) w) (world.tell [] w) (give_stays (input.Packet p) (world.node_at w p.to.node) w) refl

deliver_by_stays : (k : ℕ) (o : Option Packet) → Stays (world.deliver_by k o)
deliver_by_stays k None w = refl
deliver_by_stays k (Some p) w = then_stays (world.tell (fact.Got k ∷ []) w) (world.hand_over k p) refl (over_stays k p)

deliver_stays : (k : ℕ) → Stays (world.deliver k)
deliver_stays zero w = refl
deliver_stays (suc k) w = deliver_by_stays (suc k) (slice_get w.wire k) w

more_stays : (w : World) (q : Step) → Stays q → (ks : List ℕ) → AreOfReplay (elim ks as (λ x. Made) [ [] ↦ world.tell [] w | k ∷ ks ↦ world.then_step (world.deliver k w) q ]).facts
more_stays w q h [] = refl
more_stays w q h (k ∷ ks) = then_stays (world.deliver k w) q (deliver_stays k w) h

drain_stays : (from n : ℕ) → Stays (world.drain from n)
drain_stays from zero w = refl
drain_stays from (suc n) w = more_stays w (world.drain from n) (drain_stays from n) (filter (nat_lt from) w.fresh)

pump_stays : (n : ℕ) → Stays (world.pump n)
pump_stays n w = if_stays (is_empty w.fresh) (world.nothing w) (world.drain 0 n w) refl (drain_stays 0 n w)

-- Settle.

tick_stays : (w : World) (from bound : ℕ) (q : Step) → Stays q → (b : Bool) → AreOfReplay (elim b as (λ b. Made) [
  | false ↦ world.tell [] w
  | true ↦ world.then_step (world.then_step (world.give input.Tick (world.node_at w 1) w) (world.drain from bound)) q
]).facts
tick_stays w from bound q h false = refl
tick_stays w from bound q h true =
    let m : Made = world.give input.Tick (world.node_at w 1) w in
    then_stays (world.then_step m (world.drain from bound)) q (then_stays m (world.drain from bound) (give_stays input.Tick (world.node_at w 1) w) (drain_stays from bound)) h

ticks_stay : (from bound n : ℕ) → Stays (world.tick_while_left from bound n)
ticks_stay from bound zero w = refl
ticks_stay from bound (suc n) w = tick_stays w from bound (world.tick_while_left from bound n) (ticks_stay from bound n) (list_any (world.is_left w) (producers w.set))

end_stays : (from : ℕ) → Stays (world.settle_end from)
end_stays from w =
    let qs : List Step = world.go_down 1 ∷ world.tell (fact.Settled ∷ []) ∷ [] in
    if_stays (world.is_unsettled from w) (world.tell [] w) (world.in_order qs w) refl (order_stays qs (down_stays 1, ((λ w. refl), tt)) w)

settle_stays : Stays world.settle
settle_stays w =
    let from : ℕ = length w.wire in
    let bound : ℕ = world.settle_bound w in
    let downs : List Step = map world.go_down (numbers 1 w.set.config.nodes) in
    let takes : List Step = map (λ p. world.produce p 1) (producers w.set) in
    order_stays
    (world.in_order downs ∷ world.come_up 1 ∷ world.drain from bound ∷ world.in_order takes ∷ world.drain from bound ∷ world.tick_while_left from bound bound ∷ world.settle_end from ∷ []) (
      order_stays downs (map_stays world.go_down down_stays (numbers 1 w.set.config.nodes)),
      (
        come_up_stays 1,
        (
          drain_stays from bound,
          (
            order_stays takes (map_stays (λ p. world.produce p 1) (λ p. produce_stays p 1) (producers w.set)),
            (drain_stays from bound, (ticks_stay from bound bound, (end_stays from, tt))),
          ),
        ),
      ),
    )
    w

-- Orders.

play_stays : (o : Order) → not (is_resharding o) ≡ true → Stays (world.play o)
play_stays (order.Up n) s w = up_stays n w
play_stays (order.Crash n) s w = crash_stays n w
play_stays (order.Leave n) s w = or_stays input.Leave (world.node_at w n) world.nothing (λ w. refl) w
play_stays (order.Tick n) s w = or_stays input.Tick (world.node_at w n) world.nothing (λ w. refl) w
play_stays (order.Produce p n) s w = produce_stays p n w
play_stays (order.Rest p) s w = or_stays (input.Rest p) (world.node_of w (world.queue_holder w p)) world.nothing (λ w. refl) w
play_stays (order.Send p e k) s w = or_stays (input.Send p) (world.node_of w (world.queue_holder w p)) (world.tell (fact.Waits p e k ∷ [])) (λ w. refl) w
play_stays (order.Passivate e) s w = or_stays (input.Passivate e) (world.active_node e w) world.nothing (λ w. refl) w
play_stays (order.FailWrite e k) s w = or_stays (input.FailWrite e k) (world.active_node e w) world.nothing (λ w. refl) w
play_stays (order.Deliver k) s w = deliver_stays k w
play_stays (order.Pump n) s w = pump_stays n w
play_stays (order.Rebalance n) s w = or_stays (input.Rebalance n) (world.node_of w (holder w.lists.coordinator)) world.nothing (λ w. refl) w
play_stays order.Settle s w = settle_stays w
play_stays (order.Reshard n) s w = absurd (true≢false (sym s))
play_stays order.Upgrade s w = if_stays (world.is_any_up w || (w.behaviour == 2)) (world.nothing w) (world.tell (fact.Upgrade 2 ∷ []) w) refl refl
play_stays (order.Ping p) s w = refl

lines_stay : (ls : List Line) → list_all (λ (l : Line). not (is_resharding l.order)) ls ≡ true → AllStay (map world.play_line ls)
lines_stay [] h = tt
lines_stay (l ∷ ls) h =
    let m = and_both (not (is_resharding l.order)) (list_all (λ (k : Line). not (is_resharding k.order)) ls) h in
    ((λ w. then_stays (world.tell (fact.At l.number ∷ []) (world.with_order (Some l.order) w)) (world.play l.order) refl (play_stays l.order m.0)), lines_stay ls m.1)

-- the trace of a script in one number of shards
pub played_plain : (c : Script) (limit : ℕ) → keeps_shards c ≡ true → AreOfReplay (world.played c limit).facts
played_plain c limit h = order_stays (map world.play_line c.orders) (lines_stay c.orders h) (world.new_world c limit)
