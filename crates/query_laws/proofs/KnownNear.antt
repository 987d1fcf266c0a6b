-- The queries apart from nodes, after any order: the ticks inside a settle are told by no fact, so what the queries answer of nodes may differ from then on, until no node is up.
use Rattle.std.proofs.Common.{◌≡◌, ◌≤◌, ℕ, zero, suc, ◌+◌, ◌-◌, List, [], ◌∷◌, ◌++◌, length, map, sym, ap, ap₂, subst, ◌∙◌, refl, true, false, true≢false, arith}
use Rattle.std.specs.Prelude.{Bool, ◌==◌, ◌&&◌, ◌||◌, not, nat_le, nat_lt, filter, fold, Option, Some, None, is_none, is_some, slice_index_or, slice_set, if◌then◌else◌}
use Rattle.std.specs.List.{list_all, list_any, slice_get}
use Rattle.std.specs.Option.{option_map}
use Rattle.std.proofs.lemmas.Bool.Decides.{nat_tests}
use Rattle.std.proofs.lemmas.List.{map-set}
use Rattle.std.proofs.lemmas.List.Sums.{fold-append}
use Rattle.yard_model.specs.declared.fact.Fact.{Fact}
use Rattle.yard_model.specs.declared.fact.Fact.TheVariants as fact
use Rattle.yard_model.specs.declared.out.Item.{Item}
use Rattle.yard_model.specs.declared.out.Item.TheVariants as item
use Rattle.yard_model.specs.declared.input.Input.{Input}
use Rattle.yard_model.specs.declared.input.Input.TheVariants as input
use Rattle.yard_model.specs.declared.packet.Body.TheVariants as body
use Rattle.yard_model.specs.declared.packet.Packet.{Packet}
use Rattle.yard_model.specs.declared.charter.Line.{Line}
use Rattle.yard_model.specs.declared.charter.Order.{Order}
use Rattle.yard_model.specs.declared.charter.Order.TheVariants as order
use Rattle.yard_model.specs.declared.charter.Sending.{Sending}
use Rattle.yard_model.specs.declared.incarnation.Incarnation.{Incarnation}
use Rattle.yard_model.specs.Behaviour.{is_in}
use Rattle.yard_model.specs.Genuine.{is_producer}
use Rattle.yard_model.specs.Node.{Node, Act, new_node, after, items_of, turn, crash}
use Rattle.yard_model.specs.Queries.{Known, know, know_node, know_world, ordered_by, views_step, actor, order_at}
use Rattle.yard_model.specs.Script.{Script, Setting, is_order}
use Rattle.yard_model.specs.Setting.{producers}
use Rattle.yard_model.specs.SlotLists.{SlotLists, queue_list}
use Rattle.yard_model.specs.SlotReads.{holder, queued_in_all}
use Rattle.yard_model.specs.Words.{numbers, is_among, is_empty, at}
use Rattle.yard_model.specs.World as world
use Rattle.yard_model.specs.World.{World, Made, Step, world_after, version_step, nodes_step, tell, then_step, in_order, numbered, count_posts, input_facts, handle, give, give_or, node_at, node_of, queue_holder, is_of_node, ordered_of, active_node, is_left, settle_bound, with_order, play_line}
use Rattle.plain_laws.proofs.Booleans.{and_both, both, all_map, at_most}
use Rattle.plain_laws.proofs.Lists.{none_is_not_some, none_of}
use Rattle.node_laws.specs.Carried.{is_view}
use Rattle.node_laws.specs.Cluster.{IsMember}
use Rattle.play_laws.specs.Sound.{Sound}
use Rattle.play_laws.proofs.Handled.{Laws}
use Rattle.play_laws.proofs.Orders.{IsPlaced, Place, at_place, give_leads, deliver_leads, drain_leads, AllLead, all_lead, downs_lead, produces_lead, ticks_lead, downs_empty, first_node, producers_are, end_leads, of_placed, active_placed}
use Rattle.play_laws.proofs.Steps.{Leads, then_leads, up_leads, heard, come_up_leads, go_down_leads, crash_frees, is_freed, AreFreed, freed_still, ordered_sound}
use Rattle.play_laws.proofs.Tells.{turn_tells, turn_is_still, turn_still, armed_items}
use Rattle.play_laws.specs.TurnItems.{is_turn_fact, is_turn_item}
use Rattle.play_laws.proofs.Turned.{is_still, members_still, wire_still}
use Rattle.actor_laws.specs.Owes.{facts_in}
use Rattle.query_laws.proofs.Along.{without_nodes, IsViewOf, KnowsViews, rest_after, knows_sent}
use Rattle.query_laws.proofs.KnownItems.{no_view_of}
use Rattle.query_laws.proofs.KnownOrders.{ordered_nodes, ordered_views}
use Rattle.query_laws.proofs.KnownTurn.{Fits, nodes_on}
use Rattle.query_laws.proofs.Nodes.{same_table, length_map}
use Rattle.query_laws.proofs.Steps.{knows_more}
use Rattle.node_laws.proofs.NodeParts.{who_stays}

-- Words apart from nodes.

-- the queries' world is the machine's but for its nodes, and as many of them are up, at the same places
pub record Near (orders : List Line) (k : Known) (w : World) : Type 0 where
  pub orders_are : k.orders ≡ orders
  pub rest_is : without_nodes k.world ≡ without_nodes w
  pub shape : map is_none k.world.nodes ≡ map is_none w.nodes
  pub knows : KnowsViews k.views w

abbrev pub IsNear : Script → List Line → World → Made → Type 0
IsNear c orders w m = (trace : List Fact) → Sound c trace w → (k : Known) → Near orders k w → Near orders (fold know k m.facts) m.world

map_none : (g : Node → Node) (xs : List (Option Node)) → map is_none (map (option_map g) xs) ≡ map is_none xs
map_none g [] = refl
map_none g (None ∷ xs) = ap (λ l. true ∷ l) (map_none g xs)
map_none g (Some x ∷ xs) = ap (λ l. false ∷ l) (map_none g xs)

-- the order of a line aside
abbrev is_unordered : Fact → Bool
is_unordered (fact.At n) = false
is_unordered f = true

unordered_is : (k : Known) (f : Fact) → is_unordered f ≡ true → (v : World) → ordered_by k f v ≡ v
unordered_is k (fact.At n) h v = absurd (true≢false (sym h))
unordered_is k f h v = refl

shape_after : (v w : World) (xs ys : List (Option Node)) (f : Fact) → map is_none xs ≡ map is_none ys → map is_none (nodes_step v.set v.behaviour xs f) ≡ map is_none (nodes_step w.set w.behaviour ys f)
shape_after v w xs ys (fact.Up x) e = map-set is_none xs (x.node - 1) (Some (new_node v.set v.behaviour x)) ∙ (ap (λ l. slice_set l (x.node - 1) false) e ∙ sym (map-set is_none ys (x.node - 1) (Some (new_node w.set w.behaviour x))))
shape_after v w xs ys (fact.Gone x) e = map-set is_none xs (x.node - 1) None ∙ (ap (λ l. slice_set l (x.node - 1) true) e ∙ sym (map-set is_none ys (x.node - 1) None))
shape_after v w xs ys f e = e

near_after : (orders : List Line) (k : Known) (w : World) (f : Fact) → is_unordered f ≡ true → Near orders k w → KnowsViews (know k f).views (world_after w f) → Near orders (know k f) (world_after w f)
near_after orders k w f free n knows = record {
  orders_are = n.orders_are;
  rest_is = rest_after k w f (unordered_is k f free) n.rest_is;
  shape = ap (λ v. map is_none (world_after v f).nodes) (unordered_is k f free (know_world k f)) ∙ shape_after k.world w (map (option_map (know_node k f (actor k f))) k.world.nodes) w.nodes f (map_none (know_node k f (actor k f)) k.world.nodes ∙ n.shape);
  knows = knows;
}

version_still : (old : ℕ) (f : Fact) → is_still f ≡ true → version_step old f ≡ old
version_still old (fact.Up x) h = absurd (true≢false (sym h))
version_still old (fact.Gone x) h = absurd (true≢false (sym h))
version_still old f h = refl

seen_still : (w : World) (old : List (List Incarnation)) (f : Fact) → is_still f ≡ true → views_step w old f ≡ old
seen_still w old (fact.Up x) h = absurd (true≢false (sym h))
seen_still w old (fact.Gone x) h = absurd (true≢false (sym h))
seen_still w old f h = refl

near_still : (orders : List Line) (k : Known) (w : World) (f : Fact) → is_unordered f ≡ true → is_still f ≡ true → Near orders k w → Near orders (know k f) (world_after w f)
near_still orders k w f free still n = near_after orders k w f free n (subst (λ vs. KnowsViews vs (world_after w f)) (sym (seen_still (know k f).world k.views f still)) (record {
  count = n.knows.count ∙ ap (λ x. x + 1) (sym (version_still w.version f still));
  now = ap (λ x. slice_index_or k.views x []) (version_still w.version f still) ∙ (n.knows.now ∙ sym (members_still w.members f still));
  posted = λ j p e. n.knows.posted j p (ap (λ l. slice_get l j) (sym (wire_still w.wire f still)) ∙ e);
}))

near_sent : (orders : List Line) (k : Known) (w : World) (n : ℕ) (p : Packet) → IsViewOf k.views p.body → Near orders k w → Near orders (know k (fact.Sent n p)) (world_after w (fact.Sent n p))
near_sent orders k w n p of near = near_after orders k w (fact.Sent n p) refl near (knows_sent k.views w n p near.knows of)

-- a node comes up or is gone
near_version : (orders : List Line) (k : Known) (w : World) (f : Fact) → is_unordered f ≡ true → (know k f).views ≡ k.views ++ (know k f).world.members ∷ [] → (world_after w f).version ≡ w.version + 1 → (world_after w f).wire ≡ w.wire
    → Near orders k w → Near orders (know k f) (world_after w f)
near_version orders k w f free views version wire n = near_after orders k w f free n
    (subst (λ vs. KnowsViews vs (world_after w f)) (ap (λ (v : World). k.views ++ v.members ∷ []) (sym (rest_after k w f (unordered_is k f free) n.rest_is)) ∙ sym views) (knows_more k.views w (world_after w f) n.knows version wire))

-- Steps in turn.

none_near : (c : Script) (orders : List Line) (w : World) → IsNear c orders w (tell [] w)
none_near c orders w trace s k n = n

then_near_at : (c : Script) (orders : List Line) (w : World) (m : Made) (q : Step) → Leads c w m → IsNear c orders w m → IsNear c orders m.world (q m.world) → IsNear c orders w (then_step m q)
then_near_at c orders w m q leads f g = step m.world.full
  where
    step : (b : Bool) → IsNear c orders w (elim b as (λ b. Made) [ true ↦ m | false ↦ let n : Made = q m.world in record { facts = m.facts ++ n.facts; world = n.world } ])
    step true = f
    step false = λ trace s k n. subst (λ j. Near orders j (q m.world).world) (sym (fold-append know k m.facts (q m.world).facts)) (g (trace ++ m.facts) (leads trace s) (fold know k m.facts) (f trace s k n))

then_near : (c : Script) (orders : List Line) (w : World) (m : Made) (q : Step) → Leads c w m → IsNear c orders w m → ((v : World) → IsNear c orders v (q v)) → IsNear c orders w (then_step m q)
then_near c orders w m q leads f g = then_near_at c orders w m q leads f (g m.world)

if_near : (c : Script) (orders : List Line) (w : World) (b : Bool) (m n : Made) → (b ≡ true → IsNear c orders w m) → (b ≡ false → IsNear c orders w n) → IsNear c orders w (if b then m else n)
if_near c orders w true m n f g = f refl
if_near c orders w false m n f g = g refl

-- Inputs.

-- no view, and no fact of orders, nodes, shards or versions
abbrev is_near_item : Item → Bool
is_near_item (item.Fact f) = is_unordered f && is_still f
is_near_item (item.Post p) = not (is_view p.body)

near_item : (i : Item) → is_turn_item i ≡ true → is_near_item i ≡ true
near_item (item.Fact f) h = both (is_unordered f) (is_still f) (unordered f h) (turn_is_still f h)
  where
    unordered : (f : Fact) → is_turn_fact f ≡ true → is_unordered f ≡ true
    unordered (fact.At n) h = h
    unordered f h = refl
near_item (item.Post p) h = h

-- so are the items of a turn
near_turn : (sends : List (List Sending)) (lists : SlotLists) (given : Input) (st : Node) → list_all is_near_item (items_of (turn sends lists given st)) ≡ true
near_turn sends lists (input.FailWrite e a) st = armed_items (λ is. list_all is_near_item is ≡ true) e a st refl refl
near_turn sends lists given st = all_map is_turn_item is_near_item near_item (items_of (turn sends lists given st)) (turn_tells sends lists given st refl)

items_near : (orders : List Line) (limit : ℕ) (is : List Item) (n : ℕ) (k : Known) (w : World) → list_all is_near_item is ≡ true → Near orders k w → Near orders (fold know k (numbered limit n is)) (fold world_after w (numbered limit n is))
items_near orders limit [] n k w turn near = near
items_near orders limit (item.Fact f ∷ is) n k w turn near =
    let t : ((is_unordered f && is_still f) ≡ true) × (list_all is_near_item is ≡ true) = and_both (is_unordered f && is_still f) (list_all is_near_item is) turn in
    let q : (is_unordered f ≡ true) × (is_still f ≡ true) = and_both (is_unordered f) (is_still f) t.0 in
    items_near orders limit is n (know k f) (world_after w f) t.1 (near_still orders k w f q.0 q.1 near)
items_near orders limit (item.Post p ∷ is) n k w turn near = by (nat_lt n limit) (λ j v x. items_near orders limit is (n + 1) j v t.1 x)
  where
    t : (not (is_view p.body) ≡ true) × (list_all is_near_item is ≡ true)
    t = and_both (not (is_view p.body)) (list_all is_near_item is) turn

    more : List Fact
    more = numbered limit (n + 1) is

    by : (b : Bool) → ((j : Known) (v : World) → Near orders j v → Near orders (fold know j more) (fold world_after v more)) → let fs : List Fact = (if b then fact.Sent (n + 1) p ∷ [] else []) ++ more in Near orders (fold know k fs) (fold world_after w fs)
    by true rest = rest (know k (fact.Sent (n + 1) p)) (world_after w (fact.Sent (n + 1) p)) (near_sent orders k w (n + 1) p (no_view_of k.views p.body t.0) near)
    by false rest = rest k w near

full_near : (orders : List Line) (b : Bool) (k : Known) (w : World) → Near orders k w → let fs : List Fact = if b then fact.WireFull ∷ [] else [] in Near orders (fold know k fs) (fold world_after w fs)
full_near orders false k w n = n
full_near orders true k w n = near_still orders k w fact.WireFull refl refl n

input_near : (orders : List Line) (w : World) (is : List Item) (k : Known) → list_all is_near_item is ≡ true → Near orders k w → Near orders (fold know k (input_facts w is)) (fold world_after w (input_facts w is))
input_near orders w is k turn n =
    let fs : List Fact = numbered w.limit (length w.wire) is in
    let b : Bool = nat_lt w.limit (fold count_posts (length w.wire) is) in
    subst (λ j. Near orders j (fold world_after w (fs ++ (if b then fact.WireFull ∷ [] else [])))) (sym (fold-append know k fs (if b then fact.WireFull ∷ [] else [])))
    (subst (Near orders (fold know (fold know k fs) (if b then fact.WireFull ∷ [] else []))) (sym (fold-append world_after w fs (if b then fact.WireFull ∷ [] else [])))
    (full_near orders b (fold know k fs) (fold world_after w fs) (items_near orders w.limit is (length w.wire) k w turn n)))

-- the nodes after an input's facts
input_nodes : (w : World) (is : List Item) → list_all is_still (facts_in is) ≡ true → (fold world_after w (input_facts w is)).nodes ≡ w.nodes
input_nodes w is still =
    ap (λ (v : World). v.nodes) (fold-append world_after w fs (full b)) ∙ (last b (fold world_after w fs) ∙ nodes_on w.limit is (length w.wire) w still)
  where
    fs : List Fact
    fs = numbered w.limit (length w.wire) is

    b : Bool
    b = nat_lt w.limit (fold count_posts (length w.wire) is)

    full : Bool → List Fact
    full b = if b then fact.WireFull ∷ [] else []

    last : (b : Bool) (v : World) → (fold world_after v (full b)).nodes ≡ v.nodes
    last true v = refl
    last false v = refl

-- a node is put back where one was
back_at : (xs : List (Option Node)) (i : ℕ) (st now : Node) → at xs i ≡ Some st → map is_none (slice_set xs i (Some now)) ≡ map is_none xs
back_at [] i st now e = refl
back_at (x ∷ xs) zero st now e = ap (λ o. is_none o ∷ map is_none xs) (sym e)
back_at (x ∷ xs) (suc i) st now e = ap (λ l. is_none x ∷ l) (back_at xs i st now e)

placed_is : (a b : ℕ) → a ≡ b + 1 → a - 1 ≡ b
placed_is a b e = omega (arith, e)

handle_near : (c : Script) (orders : List Line) (w : World) (i : ℕ) (st : Node) (given : Input) → at w.nodes i ≡ Some st → IsNear c orders w (handle given st w)
handle_near c orders w i st given here trace s k n =
    let acts : List Act = turn w.sends w.lists given st in
    let done : Near orders (fold know k (input_facts w (items_of acts))) (fold world_after w (input_facts w (items_of acts))) = input_near orders w (items_of acts) k (near_turn w.sends w.lists given st) n in
    let nodes : (fold world_after w (input_facts w (items_of acts))).nodes ≡ w.nodes = input_nodes w (items_of acts) (turn_still w.sends w.lists given st) in
    let me : IsMember c trace i st = s.cluster.members i st here in
    let now : Node = fold after st acts in
    record {
      orders_are = done.orders_are;
      rest_is = done.rest_is;
      shape = done.shape ∙ (ap (map is_none) nodes ∙ (sym (back_at w.nodes i st now here) ∙ ap₂ (λ l j. map is_none (slice_set l j (Some now))) (sym nodes) (sym (placed_is now.who.node i (ap (λ (x : Incarnation). x.node) (who_stays st acts) ∙ me.node_is)))));
      knows = record { count = done.knows.count; now = done.knows.now; posted = done.knows.posted };
    }

give_or_near : (c : Script) (orders : List Line) (w : World) (given : Input) (o : Option Node) (q : Step) → IsPlaced w.nodes o → IsNear c orders w (q w) → IsNear c orders w (give_or given o q w)
give_or_near c orders w given None q placed rest = rest
give_or_near c orders w given (Some st) q placed rest = let p : Place w.nodes st = placed st refl in handle_near c orders w p.place st given p.here

give_near : (c : Script) (orders : List Line) (w : World) (given : Input) (o : Option Node) → IsPlaced w.nodes o → IsNear c orders w (give given o w)
give_near c orders w given o placed = give_or_near c orders w given o (tell []) placed (none_near c orders w)

nothing_near : (c : Script) (orders : List Line) (w : World) → IsNear c orders w (world.nothing w)
nothing_near c orders w trace s k n = near_still orders k w fact.Nothing refl refl n

-- Deliveries, producing, ticks.

deliver_near : Laws → (c : Script) (orders : List Line) (w : World) (n : ℕ) → IsNear c orders w (world.deliver n w)
deliver_near laws c orders w zero = nothing_near c orders w
deliver_near laws c orders w (suc j) = by (slice_get w.wire j)
  where
    got : Fact
    got = fact.Got (suc j)

    by : (o : Option Packet) → IsNear c orders w (world.deliver_by (suc j) o w)
    by None = nothing_near c orders w
    by (Some p) = then_near c orders w (tell (got ∷ []) w) (world.hand_over (suc j) p) (heard laws c w got refl refl) (λ trace s k n. near_still orders k w got refl refl n)
        (λ v. if_near c orders v (nat_lt v.past (suc j) && is_among p.to v.members) (give (input.Packet p) (node_at v p.to.node) v) (tell [] v) (λ e. give_near c orders v (input.Packet p) (node_at v p.to.node) (at_place v p.to.node)) (λ e. none_near c orders v))

drain_near : Laws → (c : Script) (orders : List Line) (from n : ℕ) (w : World) → IsNear c orders w (world.drain from n w)
drain_near laws c orders from zero w = none_near c orders w
drain_near laws c orders from (suc n) w = by (filter (nat_lt from) w.fresh) (drain_near laws c orders from n)
  where
    by : (ks : List ℕ) → ((v : World) → IsNear c orders v (world.drain from n v)) → IsNear c orders w (elim ks as (λ x. Made) [ [] ↦ tell [] w | k ∷ ks ↦ then_step (world.deliver k w) (world.drain from n) ])
    by [] rest = none_near c orders w
    by (k ∷ ks) rest = then_near c orders w (world.deliver k w) (world.drain from n) (deliver_leads laws c w k) (deliver_near laws c orders w k) rest

sends_near : Laws → (c : Script) (orders : List Line) (p n k : ℕ) (w : World) → is_producer c p ≡ true → IsNear c orders w (world.send_waiting p n k w)
sends_near laws c orders p n zero w producer = none_near c orders w
sends_near laws c orders p n (suc k) w producer =
    then_near c orders w (give (input.Send p) (node_at w n) w) (world.send_waiting p n k) (give_leads laws c w (input.Send p) (node_at w n) (at_place w n) (λ trace s st j e. producer) tt)
    (give_near c orders w (input.Send p) (node_at w n) (at_place w n)) (λ v. sends_near laws c orders p n k v producer)

produce_near : Laws → (c : Script) (orders : List Line) (p n : ℕ) (w : World) → is_producer c p ≡ true → IsNear c orders w (world.produce p n w)
produce_near laws c orders p n w producer =
    if_near c orders w (is_none (node_at w n) || is_of_node n (queue_holder w p)) (world.nothing w) (then_step (give (input.Produce p) (node_at w n) w) (world.send_all_waiting p n))
    (λ e. nothing_near c orders w)
    (λ e. then_near c orders w (give (input.Produce p) (node_at w n) w) (world.send_all_waiting p n) (give_leads laws c w (input.Produce p) (node_at w n) (at_place w n) (λ trace s st j e. producer) tt)
    (give_near c orders w (input.Produce p) (node_at w n) (at_place w n))
    (λ v. if_near c orders v (is_of_node n (queue_holder v p)) (world.send_waiting p n (ordered_of v p - queued_in_all (queue_list v.lists p)) v) (tell [] v) (λ e. sends_near laws c orders p n (ordered_of v p - queued_in_all (queue_list v.lists p)) v producer) (λ e. none_near c orders v)))

ticks_near : Laws → (c : Script) (orders : List Line) (from bound n : ℕ) (w : World) → IsNear c orders w (world.tick_while_left from bound n w)
ticks_near laws c orders from bound zero w = none_near c orders w
ticks_near laws c orders from bound (suc n) w = by (list_any (is_left w) (producers w.set)) (ticks_near laws c orders from bound n)
  where
    one : Made
    one = give input.Tick (node_at w 1) w

    one_leads : Leads c w one
    one_leads = give_leads laws c w input.Tick (node_at w 1) (at_place w 1) (λ trace s st j f. tt) tt

    by : (b : Bool) → ((v : World) → IsNear c orders v (world.tick_while_left from bound n v))
        → IsNear c orders w (elim b as (λ b. Made) [ false ↦ tell [] w | true ↦ then_step (then_step one (world.drain from bound)) (world.tick_while_left from bound n) ])
    by false rest = none_near c orders w
    by true rest = then_near c orders w (then_step one (world.drain from bound)) (world.tick_while_left from bound n) (then_leads c w one (world.drain from bound) one_leads (λ e. drain_leads laws c from bound one.world))
        (then_near c orders w one (world.drain from bound) one_leads (give_near c orders w input.Tick (node_at w 1) (at_place w 1)) (drain_near laws c orders from bound)) rest

-- Nodes that go down and come up.

freed_near : (orders : List Line) (fs : List Fact) (k : Known) (w : World) → AreFreed fs → Near orders k w → Near orders (fold know k fs) (fold world_after w fs)
freed_near orders [] k w freed n = n
freed_near orders (f ∷ fs) k w freed n =
    let m : (is_freed f ≡ true) × AreFreed fs = and_both (is_freed f) (list_all is_freed fs) freed in
    freed_near orders fs (know k f) (world_after w f) m.1 (near_still orders k w f (unordered f m.0) (freed_still f m.0) n)
  where
    unordered : (f : Fact) → is_freed f ≡ true → is_unordered f ≡ true
    unordered (fact.At n) h = absurd (true≢false (sym h))
    unordered f h = refl

down_near : (c : Script) (orders : List Line) (n : ℕ) (w : World) → IsNear c orders w (world.go_down n w)
down_near c orders n w = by (node_at w n)
  where
    by : (o : Option Node) → IsNear c orders w (world.go_down_by o w)
    by None = none_near c orders w
    by (Some st) = λ trace s k near. freed_near orders (crash st) (know k (fact.Gone st.who)) (world_after w (fact.Gone st.who)) (crash_frees st) (near_version orders k w (fact.Gone st.who) refl refl refl refl near)

view_posts_near : (orders : List Line) (limit v : ℕ) (xs ys : List Incarnation) (n : ℕ) (k : Known) (w : World) → IsViewOf k.views (body.View v xs) → Near orders k w
    → let fs : List Fact = numbered limit n (map (λ x. item.Post (record { from = x; to = x; body = body.View v xs })) ys) in Near orders (fold know k fs) (fold world_after w fs)
view_posts_near orders limit v xs [] n k w of near = near
view_posts_near orders limit v xs (y ∷ ys) n k w of near = by (nat_lt n limit) (λ j x o b. view_posts_near orders limit v xs ys (n + 1) j x o b)
  where
    p : Packet
    p = record { from = y; to = y; body = body.View v xs }

    more : List Fact
    more = numbered limit (n + 1) (map (λ x. item.Post (record { from = x; to = x; body = body.View v xs })) ys)

    by : (b : Bool) → ((j : Known) (x : World) → IsViewOf j.views (body.View v xs) → Near orders j x → Near orders (fold know j more) (fold world_after x more))
        → let fs : List Fact = (if b then fact.Sent (n + 1) p ∷ [] else []) ++ more in Near orders (fold know k fs) (fold world_after w fs)
    by true rest = rest (know k (fact.Sent (n + 1) p)) (world_after w (fact.Sent (n + 1) p)) of (near_sent orders k w (n + 1) p of near)
    by false rest = rest k w of near

views_near : (c : Script) (orders : List Line) (w : World) → IsNear c orders w (world.views w)
views_near c orders w trace s k n =
    let is : List Item = map (λ x. item.Post (record { from = x; to = x; body = body.View w.version w.members })) w.members in
    let fs : List Fact = numbered w.limit (length w.wire) is in
    let b : Bool = nat_lt w.limit (fold count_posts (length w.wire) is) in
    subst (λ j. Near orders j (fold world_after w (fs ++ (if b then fact.WireFull ∷ [] else [])))) (sym (fold-append know k fs (if b then fact.WireFull ∷ [] else [])))
    (subst (Near orders (fold know (fold know k fs) (if b then fact.WireFull ∷ [] else []))) (sym (fold-append world_after w fs (if b then fact.WireFull ∷ [] else [])))
    (full_near orders b (fold know k fs) (fold world_after w fs) (view_posts_near orders w.limit w.version w.members w.members (length w.wire) k w (below w.version (length k.views) n.knows.count, n.knows.now) n)))
  where
    below : (a b : ℕ) → b ≡ a + 1 → nat_lt a b ≡ true
    below a b e = grind (arith, nat_tests)

come_up_near : Laws → (c : Script) (orders : List Line) (w : World) (n : ℕ) → let x : Incarnation = record { node = n; number = slice_index_or w.ups (n - 1) 0 + 1 } in Leads c w (tell (fact.Up x ∷ []) w) → IsNear c orders w (world.come_up n w)
come_up_near laws c orders w n leads =
    let x : Incarnation = record { node = n; number = slice_index_or w.ups (n - 1) 0 + 1 } in
    then_near c orders w (tell (fact.Up x ∷ []) w) world.views leads (λ trace s k near. near_version orders k w (fact.Up x) refl refl refl refl near) (views_near c orders)

-- Lists of steps.

abbrev AllNear : Script → List Line → List Step → Type 0
AllNear c orders [] = Unit {0}
AllNear c orders (q ∷ qs) = ((w : World) → IsNear c orders w (q w)) × AllNear c orders qs

all_near : (c : Script) (orders : List Line) (qs : List Step) (w : World) → AllLead c qs → AllNear c orders qs → IsNear c orders w (in_order qs w)
all_near c orders [] w leads h = none_near c orders w
all_near c orders (q ∷ qs) w leads h = then_near c orders w (q w) (in_order qs) (leads.0 w) (h.0 w) (λ v. all_near c orders qs v leads.1 h.1)

downs_near : (c : Script) (orders : List Line) (ns : List ℕ) → AllNear c orders (map world.go_down ns)
downs_near c orders [] = tt
downs_near c orders (n ∷ ns) = ((λ w. down_near c orders n w), downs_near c orders ns)

produces_near : Laws → (c : Script) (orders : List Line) (ps : List ℕ) → list_all (is_producer c) ps ≡ true → AllNear c orders (map (λ p. world.produce p 1) ps)
produces_near laws c orders [] all = tt
produces_near laws c orders (p ∷ ps) all =
    let m : (is_producer c p ≡ true) × (list_all (is_producer c) ps ≡ true) = and_both (is_producer c p) (list_all (is_producer c) ps) all in
    ((λ w. produce_near laws c orders p 1 w m.0), produces_near laws c orders ps m.1)

-- Where no node is up.

pub all_none : (xs : List (Option Node)) → list_any is_some xs ≡ false → (j : ℕ) → at xs j ≡ None
all_none [] h j = refl
all_none (None ∷ xs) h zero = refl
all_none (None ∷ xs) h (suc j) = all_none xs h j
all_none (Some x ∷ xs) h j = absurd (true≢false h)

-- no node is up, in the machine and so in what the queries know
pub none_agrees : (orders : List Line) (k : Known) (w : World) → Near orders k w → ((j : ℕ) → at w.nodes j ≡ None) → Fits orders k w
none_agrees orders k w n none = record {
  agree = record {
    orders_are = n.orders_are;
    world_is = ap₂ (λ (v : World) (l : List (Option Node)). record v { nodes = l }) n.rest_is (same_table k.world.nodes w.nodes size (λ j. known_none k.world.nodes w.nodes j n.shape (none j) ∙ sym (none j)));
    knows = n.knows;
  };
  tidy = λ j st e. absurd (none_is_not_some st (sym (none j) ∙ e));
}
  where
    size : length k.world.nodes ≡ length w.nodes
    size = sym (length_map is_none k.world.nodes) ∙ (ap length n.shape ∙ length_map is_none w.nodes)

    known_none : (xs ys : List (Option Node)) (j : ℕ) → map is_none xs ≡ map is_none ys → at ys j ≡ None → at xs j ≡ None
    known_none xs ys j e h = of_none (at xs j) (at_map_none xs j ∙ (ap (λ l. slice_index_or l j true) e ∙ (sym (at_map_none ys j) ∙ ap is_none h)))
      where
        of_none : (o : Option Node) → is_none o ≡ true → o ≡ None
        of_none None e = refl
        of_none (Some x) e = absurd (true≢false (sym e))

        at_map_none : (xs : List (Option Node)) (j : ℕ) → is_none (at xs j) ≡ slice_index_or (map is_none xs) j true
        at_map_none [] zero = refl
        at_map_none [] (suc j) = refl
        at_map_none (x ∷ xs) zero = refl
        at_map_none (x ∷ xs) (suc j) = at_map_none xs j

-- Settling.

ending_leads : Laws → (c : Script) → AllLead c (world.go_down 1 ∷ tell (fact.Settled ∷ []) ∷ [])
ending_leads laws c = ((λ v. go_down_leads laws c v 1), ((λ v. heard laws c v fact.Settled refl refl), tt))

end_near : Laws → (c : Script) (orders : List Line) (from : ℕ) (w : World) → IsNear c orders w (world.settle_end from w)
end_near laws c orders from w =
    let qs : List Step = world.go_down 1 ∷ tell (fact.Settled ∷ []) ∷ [] in
    if_near c orders w (world.is_unsettled from w) (tell [] w) (in_order qs w) (λ e. none_near c orders w)
    (λ e. all_near c orders qs w (ending_leads laws c) ((λ v. down_near c orders 1 v), ((λ v trace s k n. near_still orders k v fact.Settled refl refl n), tt)))

settle_near : Laws → (c : Script) (orders : List Line) (w : World) → IsNear c orders w (world.settle w)
settle_near laws c orders w trace s = then_near_at c orders w m (in_order (world.come_up 1 ∷ rest)) down_leads (all_near c orders downs w (downs_lead laws c (numbers 1 w.set.config.nodes)) (downs_near c orders (numbers 1 w.set.config.nodes)))
    (then_near c orders m.world (world.come_up 1 m.world) (in_order rest) (come_up_leads laws c m.world 1 (first_node c s.script_is) first) (come_up_near laws c orders m.world 1 (up_leads laws c m.world 1 (first_node c s.script_is) first))
    (λ v. all_near c orders rest v
    (drain_leads laws c from bound, ((λ u. all_lead c produces u (produces_lead laws c 1 (producers w.set) all_are)), (drain_leads laws c from bound, (ticks_lead laws c from bound bound, (end_leads laws c from, tt))))) (
      drain_near laws c orders from bound,
      (
        (λ u. all_near c orders produces u (produces_lead laws c 1 (producers w.set) all_are) (produces_near laws c orders (producers w.set) all_are)),
        (drain_near laws c orders from bound, (ticks_near laws c orders from bound bound, (end_near laws c orders from, tt))),
      ),
    )))
    trace s
  where
    from : ℕ
    from = length w.wire

    bound : ℕ
    bound = settle_bound w

    downs : List Step
    downs = map world.go_down (numbers 1 w.set.config.nodes)

    m : Made
    m = in_order downs w

    produces : List Step
    produces = map (λ p. world.produce p 1) (producers w.set)

    rest : List Step
    rest = world.drain from bound ∷ in_order produces ∷ world.drain from bound ∷ world.tick_while_left from bound bound ∷ world.settle_end from ∷ []

    all_are : list_all (is_producer c) (producers w.set) ≡ true
    all_are = ap (λ x. list_all (is_producer c) (producers x)) s.set_is ∙ producers_are c

    first : at m.world.nodes 0 ≡ None
    first = downs_empty w.set.config.nodes w (subst (λ (x : Setting). 1 ≤ x.config.nodes) (sym s.set_is) (at_most 1 c.config.nodes (and_both (nat_le 1 1) (nat_le 1 c.config.nodes) (first_node c s.script_is)).1))
        (λ i st e. let me : IsMember c trace i st = s.cluster.members i st e in me.node_is)

    down_leads : Leads c w m
    down_leads = all_lead c downs w (downs_lead laws c (numbers 1 w.set.config.nodes))

-- Orders.

play_near : Laws → (c : Script) (orders : List Line) (o : Order) (w : World) → is_order c.config o ≡ true → IsNear c orders w (world.play o w)
play_near laws c orders (order.Up n) w fits =
    if_near c orders w (is_none (node_at w n)) (world.come_up n w) (world.nothing w) (λ e. come_up_near laws c orders w n (up_leads laws c w n fits (none_of (node_at w n) e))) (λ e. nothing_near c orders w)
play_near laws c orders (order.Crash n) w fits =
    if_near c orders w (is_none (node_at w n)) (world.nothing w) (then_step (world.go_down n w) world.views) (λ e. nothing_near c orders w)
    (λ e. then_near c orders w (world.go_down n w) world.views (go_down_leads laws c w n) (down_near c orders n w) (views_near c orders))
play_near laws c orders (order.Leave n) w fits = give_or_near c orders w input.Leave (node_at w n) world.nothing (at_place w n) (nothing_near c orders w)
play_near laws c orders (order.Tick n) w fits = give_or_near c orders w input.Tick (node_at w n) world.nothing (at_place w n) (nothing_near c orders w)
play_near laws c orders (order.Produce p n) w fits = produce_near laws c orders p n w (and_both (is_producer c p) (is_in 1 c.config.nodes n) fits).0
play_near laws c orders (order.Rest p) w fits = give_or_near c orders w (input.Rest p) (node_of w (queue_holder w p)) world.nothing (of_placed w (queue_holder w p)) (nothing_near c orders w)
play_near laws c orders (order.Send p e d) w fits =
    give_or_near c orders w (input.Send p) (node_of w (queue_holder w p)) (tell (fact.Waits p e d ∷ [])) (of_placed w (queue_holder w p)) (λ trace s k n. near_still orders k w (fact.Waits p e d) refl refl n)
play_near laws c orders (order.Passivate e) w fits = give_or_near c orders w (input.Passivate e) (active_node e w) world.nothing (active_placed e w) (nothing_near c orders w)
play_near laws c orders (order.FailWrite e a) w fits = give_or_near c orders w (input.FailWrite e a) (active_node e w) world.nothing (active_placed e w) (nothing_near c orders w)
play_near laws c orders (order.Deliver n) w fits = deliver_near laws c orders w n
play_near laws c orders (order.Pump n) w fits = if_near c orders w (is_empty w.fresh) (world.nothing w) (world.drain 0 n w) (λ e. nothing_near c orders w) (λ e. drain_near laws c orders 0 n w)
play_near laws c orders (order.Rebalance n) w fits = give_or_near c orders w (input.Rebalance n) (node_of w (holder w.lists.coordinator)) world.nothing (of_placed w (holder w.lists.coordinator)) (nothing_near c orders w)
play_near laws c orders order.Settle w fits = settle_near laws c orders w
play_near laws c orders (order.Reshard n) w fits =
    let f : Fact = fact.Reshard n (world.greatest_epoch w.lists) in
    if_near c orders w (world.is_any_up w || (n == w.set.config.shards)) (world.nothing w) (tell (f ∷ []) w) (λ e. nothing_near c orders w)
    (λ e trace s k n. near_after orders k w f refl n (record { count = n.knows.count; now = n.knows.now; posted = n.knows.posted }))
play_near laws c orders order.Upgrade w fits =
    let f : Fact = fact.Upgrade 2 in
    if_near c orders w (world.is_any_up w || (w.behaviour == 2)) (world.nothing w) (tell (f ∷ []) w) (λ e. nothing_near c orders w)
    (λ e trace s k n. near_after orders k w f refl n (record { count = n.knows.count; now = n.knows.now; posted = n.knows.posted }))
play_near laws c orders (order.Ping p) w fits = nothing_near c orders w

-- Lines.

ordered_apart : (o : Order) (v w : World) → without_nodes v ≡ without_nodes w → without_nodes (with_order (Some o) v) ≡ without_nodes (with_order (Some o) w)
ordered_apart (order.Send p e d) v w h = ap (λ x. with_order (Some (order.Send p e d)) x) h
ordered_apart o v w h = h

at_near : (orders : List Line) (k : Known) (w : World) (l : Line) → order_at orders l.number ≡ Some l.order → Near orders k w → Near orders (know k (fact.At l.number)) (world_after (with_order (Some l.order) w) (fact.At l.number))
at_near orders k w l e n = record {
  orders_are = n.orders_are;
  rest_is = ap (λ o. without_nodes (world_after (with_order o v) f)) there ∙ ap (λ x. without_nodes (world_after x f)) (ordered_apart l.order v w n.rest_is);
  shape = ap (λ o. map is_none (world_after (with_order o v) f).nodes) there ∙ (ap (map is_none) (ordered_nodes v l.order) ∙ (map_none (know_node k f (actor k f)) k.world.nodes ∙ (n.shape ∙ ap (map is_none) (sym (ordered_nodes w l.order)))));
  knows = ordered_views k.views w l.number l.order n.knows;
}
  where
    f : Fact
    f = fact.At l.number

    v : World
    v = know_world k f

    there : order_at k.orders l.number ≡ Some l.order
    there = ap (λ os. order_at os l.number) n.orders_are ∙ e

pub line_near : Laws → (c : Script) (orders : List Line) (l : Line) (w : World) → order_at orders l.number ≡ Some l.order → is_order c.config l.order ≡ true → IsNear c orders w (play_line l w)
line_near laws c orders l w e fits trace s k n = by m.world.full
  where
    f : Fact
    f = fact.At l.number

    u : World
    u = with_order (Some l.order) w

    m : Made
    m = tell (f ∷ []) u

    one : Near orders (know k f) m.world
    one = at_near orders k w l e n

    by : (b : Bool) → let x : Made = elim b as (λ b. Made) [ true ↦ m | false ↦ let n : Made = world.play l.order m.world in record { facts = m.facts ++ n.facts; world = n.world } ] in Near orders (fold know k x.facts) x.world
    by true = one
    by false = play_near laws c orders l.order m.world fits (trace ++ f ∷ []) (heard laws c u f refl refl trace (ordered_sound c trace (Some l.order) w s)) (know k f) one
