-- Orders and scripts: what each step records was queued before.
use Rattle.std.proofs.Common.{◌≡◌, ◌<◌, ◌≤◌, ℕ, zero, suc, ◌-◌, List, [], ◌∷◌, length, map, sym, ap, subst, ◌∙◌, refl, true, false, true≢false, arith}
use Rattle.std.specs.Prelude.{Bool, ◌&&◌, ◌||◌, nat_le, nat_lt, not, filter, Option, Some, None, is_none}
use Rattle.std.specs.List.{list_all, list_any, slice_get}
use Rattle.yard_model.specs.declared.charter.Line.{Line}
use Rattle.yard_model.specs.declared.charter.Order.{Order}
use Rattle.yard_model.specs.declared.charter.Order.TheVariants as order
use Rattle.yard_model.specs.declared.fact.Fact.{Fact}
use Rattle.yard_model.specs.declared.fact.Fact.TheVariants as fact
use Rattle.yard_model.specs.declared.input.Input.{Input}
use Rattle.yard_model.specs.declared.input.Input.TheVariants as input
use Rattle.yard_model.specs.declared.packet.Packet.{Packet}
use Rattle.yard_model.specs.Behaviour.{is_in, is_of_kind}
use Rattle.yard_model.specs.Genuine.{is_producer}
use Rattle.yard_model.specs.Node.{Node}
use Rattle.yard_model.specs.Script.{Script, is_order, is_upgrade, is_version}
use Rattle.yard_model.specs.Setting.{producers}
use Rattle.yard_model.specs.SlotLists.{queue_list}
use Rattle.yard_model.specs.SlotReads.{holder, queued_in_all}
use Rattle.yard_model.specs.Words.{at, is_among, is_empty, numbers}
use Rattle.yard_model.specs.World as world
use Rattle.yard_model.specs.World.{World, Made, Step, world_after, tell, then_step, in_order, give_or, give, node_at, node_of, queue_holder, is_of_node, ordered_of, active_node, settle_bound, is_left, new_world, play_line, played, with_order}
use Rattle.plain_laws.proofs.Booleans.{and_both, at_most, below}
use Rattle.node_laws.specs.Carried.{IsBrought}
use Rattle.node_laws.specs.Cluster.{IsMember}
use Rattle.play_laws.specs.Played.{is_named, is_played}
use Rattle.play_laws.specs.Sound.{IsWell}
use Rattle.play_laws.proofs.Handled.{Laws}
use Rattle.play_laws.proofs.Orders.{is_steady, IsPlaced, Place, May, active_placed, at_place, downs_empty, first_node, of_placed, producers_are, well_may}
use Rattle.play_laws.proofs.Steps.{none_leads, heard, nothing_leads, come_up_leads, go_down_leads, up_order_leads, crash_order_leads, ordered_sound}
use Rattle.queued_laws.proofs.Along.{Keeps, handle_keeps, if_keeps, quiet_keeps, then_keeps}
use Rattle.queued_laws.proofs.Quiet.{come_up_quiet, crash_quiet, down_quiet, up_quiet}

-- Inputs.

none_keeps : (c : Script) (w : World) → Keeps c w (tell [] w)
none_keeps c w = quiet_keeps c w (tell [] w) (none_leads c w) refl

nothing_keeps : Laws → (c : Script) (w : World) → Keeps c w (world.nothing w)
nothing_keeps laws c w = quiet_keeps c w (world.nothing w) (nothing_leads laws c w) refl

give_or_keeps : Laws → (c : Script) (w : World) (i : Input) (o : Option Node) (q : Step) → IsPlaced w.nodes o → May c w i → IsBrought c w.lists i → Keeps c w (q w) → Keeps c w (give_or i o q w)
give_or_keeps laws c w i None q placed may told rest = rest
give_or_keeps laws c w i (Some st) q placed may told rest = λ trace s. let p : Place w.nodes st = placed st refl in handle_keeps laws c trace w p.place st i p.here (may trace s st p.place p.here) told s

give_keeps : Laws → (c : Script) (w : World) (i : Input) (o : Option Node) → IsPlaced w.nodes o → May c w i → IsBrought c w.lists i → Keeps c w (give i o w)
give_keeps laws c w i o placed may told = give_or_keeps laws c w i o (tell []) placed may told (none_keeps c w)

-- Deliveries.

over_keeps : Laws → (c : Script) (w : World) (k : ℕ) (p : Packet) → (w.past < k → IsWell c w.lists p) → Keeps c w (world.hand_over k p w)
over_keeps laws c w k p well = if_keeps c w (nat_lt w.past k && is_among p.to w.members) (give (input.Packet p) (node_at w p.to.node) w) (tell [] w)
    (λ e.
    let one : IsWell c w.lists p = well (below w.past k (and_both (nat_lt w.past k) (is_among p.to w.members) e).0) in
    λ trace s. give_keeps laws c w (input.Packet p) (node_at w p.to.node) (at_place w p.to.node) (well_may c w p one (λ h. s.queued_are tt)) one.carried trace s) (λ e. none_keeps c w)

deliver_by_keeps : Laws → (c : Script) (w : World) (i : ℕ) (o : Option Packet) → slice_get w.wire i ≡ o → Keeps c w (world.deliver_by (suc i) o w)
deliver_by_keeps laws c w i None e = nothing_keeps laws c w
deliver_by_keeps laws c w i (Some p) e = λ trace s.
    let got : Fact = fact.Got (suc i) in
    let v : World = world_after w got in
    then_keeps c w (tell (got ∷ []) w) (world.hand_over (suc i) p) (quiet_keeps c w (tell (got ∷ []) w) (heard laws c w got refl refl) refl)
    (λ f. over_keeps laws c v (suc i) p (λ past. let well : IsWell c w.lists p = s.wire_is i p (before w.past i past) e in record { genuine = well.genuine; different = well.different; carried = well.carried })) trace s
  where
    before : (a b : ℕ) → a < suc b → a ≤ b
    before a b h = omega (arith, h)

deliver_keeps : Laws → (c : Script) (w : World) (i : ℕ) → Keeps c w (world.deliver i w)
deliver_keeps laws c w zero = nothing_keeps laws c w
deliver_keeps laws c w (suc i) = deliver_by_keeps laws c w i (slice_get w.wire i) refl

more_keeps : Laws → (c : Script) (w : World) (q : Step) → ((v : World) → Keeps c v (q v)) → (ks : List ℕ) → Keeps c w (elim ks as (λ x. Made) [ [] ↦ tell [] w | k ∷ ks ↦ then_step (world.deliver k w) q ])
more_keeps laws c w q h [] = none_keeps c w
more_keeps laws c w q h (k ∷ ks) = then_keeps c w (world.deliver k w) q (deliver_keeps laws c w k) (λ e. h (world.deliver k w).world)

drain_keeps : Laws → (c : Script) (from n : ℕ) (w : World) → Keeps c w (world.drain from n w)
drain_keeps laws c from zero w = none_keeps c w
drain_keeps laws c from (suc n) w = more_keeps laws c w (world.drain from n) (drain_keeps laws c from n) (filter (nat_lt from) w.fresh)

-- Producing and sending.

waiting_keeps : Laws → (c : Script) (p n k : ℕ) (w : World) → is_producer c p ≡ true → Keeps c w (world.send_waiting p n k w)
waiting_keeps laws c p n zero w producer = none_keeps c w
waiting_keeps laws c p n (suc k) w producer =
    let m : Made = give (input.Send p) (node_at w n) w in
    then_keeps c w m (world.send_waiting p n k) (give_keeps laws c w (input.Send p) (node_at w n) (at_place w n) (λ trace s st j e. producer) tt) (λ e. waiting_keeps laws c p n k m.world producer)

all_waiting_keeps : Laws → (c : Script) (p n : ℕ) (w : World) → is_producer c p ≡ true → Keeps c w (world.send_all_waiting p n w)
all_waiting_keeps laws c p n w producer =
    let k : ℕ = ordered_of w p - queued_in_all (queue_list w.lists p) in
    if_keeps c w (is_of_node n (queue_holder w p)) (world.send_waiting p n k w) (tell [] w) (λ e. waiting_keeps laws c p n k w producer) (λ e. none_keeps c w)

produce_keeps : Laws → (c : Script) (p n : ℕ) (w : World) → is_producer c p ≡ true → Keeps c w (world.produce p n w)
produce_keeps laws c p n w producer =
    let m : Made = give (input.Produce p) (node_at w n) w in
    if_keeps c w (is_none (node_at w n) || is_of_node n (queue_holder w p)) (world.nothing w) (then_step m (world.send_all_waiting p n)) (λ e. nothing_keeps laws c w)
    (λ e. then_keeps c w m (world.send_all_waiting p n) (give_keeps laws c w (input.Produce p) (node_at w n) (at_place w n) (λ trace s st j f. producer) tt) (λ f. all_waiting_keeps laws c p n m.world producer))

-- Settling.

abbrev AllKeep : Script → List Step → Type 0
AllKeep c [] = Unit {0}
AllKeep c (q ∷ qs) = ((w : World) → Keeps c w (q w)) × AllKeep c qs

all_keep : (c : Script) (qs : List Step) (w : World) → AllKeep c qs → Keeps c w (in_order qs w)
all_keep c [] w h = none_keeps c w
all_keep c (q ∷ qs) w h = then_keeps c w (q w) (in_order qs) (h.0 w) (λ e. all_keep c qs (q w).world h.1)

down_keeps : Laws → (c : Script) (n : ℕ) (w : World) → Keeps c w (world.go_down n w)
down_keeps laws c n w = quiet_keeps c w (world.go_down n w) (go_down_leads laws c w n) (down_quiet n w)

downs_keep : Laws → (c : Script) (ns : List ℕ) → AllKeep c (map world.go_down ns)
downs_keep laws c [] = tt
downs_keep laws c (n ∷ ns) = (down_keeps laws c n, downs_keep laws c ns)

produces_keep : Laws → (c : Script) (n : ℕ) (ps : List ℕ) → list_all (is_producer c) ps ≡ true → AllKeep c (map (λ p. world.produce p n) ps)
produces_keep laws c n [] all = tt
produces_keep laws c n (p ∷ ps) all =
    let m : (is_producer c p ≡ true) × (list_all (is_producer c) ps ≡ true) = and_both (is_producer c p) (list_all (is_producer c) ps) all in
    ((λ w. produce_keeps laws c p n w m.0), produces_keep laws c n ps m.1)

ticks_keep : Laws → (c : Script) (from bound n : ℕ) (w : World) → Keeps c w (world.tick_while_left from bound n w)
ticks_keep laws c from bound zero w = none_keeps c w
ticks_keep laws c from bound (suc n) w = by (list_any (is_left w) (producers w.set)) (λ v. ticks_keep laws c from bound n v)
  where
    m : Made
    m = then_step (give input.Tick (node_at w 1) w) (world.drain from bound)

    by : (b : Bool) → ((v : World) → Keeps c v (world.tick_while_left from bound n v)) → Keeps c w (elim b as (λ b. Made) [ false ↦ tell [] w | true ↦ then_step m (world.tick_while_left from bound n) ])
    by false rest = none_keeps c w
    by true rest = then_keeps c w m (world.tick_while_left from bound n)
        (then_keeps c w (give input.Tick (node_at w 1) w) (world.drain from bound) (give_keeps laws c w input.Tick (node_at w 1) (at_place w 1) (λ trace s st j f. tt) tt) (λ e. drain_keeps laws c from bound (give input.Tick (node_at w 1) w).world))
        (λ e. rest m.world)

end_keeps : Laws → (c : Script) (from : ℕ) (w : World) → Keeps c w (world.settle_end from w)
end_keeps laws c from w =
    let qs : List Step = world.go_down 1 ∷ tell (fact.Settled ∷ []) ∷ [] in
    if_keeps c w (world.is_unsettled from w) (tell [] w) (in_order qs w) (λ e. none_keeps c w)
    (λ e. all_keep c qs w (down_keeps laws c 1, ((λ v. quiet_keeps c v (tell (fact.Settled ∷ []) v) (heard laws c v fact.Settled refl refl) refl), tt)))

settle_keeps : Laws → (c : Script) (w : World) → Keeps c w (world.settle w)
settle_keeps laws c w trace s =
    then_keeps c w m (in_order (world.come_up 1 ∷ rest)) (all_keep c (map world.go_down (numbers 1 w.set.config.nodes)) w (downs_keep laws c (numbers 1 w.set.config.nodes)))
    (λ e. then_keeps c m.world (world.come_up 1 m.world) (in_order rest) (quiet_keeps c m.world (world.come_up 1 m.world) (come_up_leads laws c m.world 1 (first_node c s.script_is) empty) (come_up_quiet 1 m.world))
    (λ f. all_keep c rest (world.come_up 1 m.world).world (
      drain_keeps laws c from bound,
      (
        (λ v. all_keep c (map (λ p. world.produce p 1) (producers w.set)) v (produces_keep laws c 1 (producers w.set) (ap (λ x. list_all (is_producer c) (producers x)) s.set_is ∙ producers_are c))),
        (drain_keeps laws c from bound, (ticks_keep laws c from bound bound, (end_keeps laws c from, tt))),
      ),
    ))) trace s
  where
    from : ℕ
    from = length w.wire

    bound : ℕ
    bound = settle_bound w

    m : Made
    m = in_order (map world.go_down (numbers 1 w.set.config.nodes)) w

    rest : List Step
    rest = world.drain from bound ∷ in_order (map (λ p. world.produce p 1) (producers w.set)) ∷ world.drain from bound ∷ world.tick_while_left from bound bound ∷ world.settle_end from ∷ []

    empty : at m.world.nodes 0 ≡ None
    empty = downs_empty w.set.config.nodes w (subst (λ (x : _). 1 ≤ x.config.nodes) (sym s.set_is) (at_most 1 c.config.nodes (and_both (nat_le 1 1) (nat_le 1 c.config.nodes) (first_node c s.script_is)).1))
        (λ k st e. let me : IsMember c trace k st = s.cluster.members k st e in me.node_is)

-- Orders.

play_keeps : Laws → (c : Script) (o : Order) (w : World) → is_steady o ≡ true → is_order c.config o ≡ true → is_named c o ≡ true → Keeps c w (world.play o w)
play_keeps laws c (order.Up n) w steady fits named = quiet_keeps c w (world.up n w) (up_order_leads laws c w n fits) (up_quiet n w)
play_keeps laws c (order.Crash n) w steady fits named = quiet_keeps c w (world.crash_node n w) (crash_order_leads laws c w n) (crash_quiet n w)
play_keeps laws c (order.Leave n) w steady fits named = give_or_keeps laws c w input.Leave (node_at w n) world.nothing (at_place w n) (λ trace s st k e. tt) tt (nothing_keeps laws c w)
play_keeps laws c (order.Tick n) w steady fits named = give_or_keeps laws c w input.Tick (node_at w n) world.nothing (at_place w n) (λ trace s st k e. tt) tt (nothing_keeps laws c w)
play_keeps laws c (order.Produce p n) w steady fits named = produce_keeps laws c p n w (and_both (is_producer c p) (is_in 1 c.config.nodes n) fits).0
play_keeps laws c (order.Rest p) w steady fits named = give_or_keeps laws c w (input.Rest p) (node_of w (queue_holder w p)) world.nothing (of_placed w (queue_holder w p)) (λ trace s st k e. fits) tt (nothing_keeps laws c w)
play_keeps laws c (order.Send p e k) w steady fits named =
    give_or_keeps laws c w (input.Send p) (node_of w (queue_holder w p)) (tell (fact.Waits p e k ∷ [])) (of_placed w (queue_holder w p)) (λ trace s st j f. (and_both (is_producer c p) (is_of_kind c.config.kind k) fits).0) tt
    (quiet_keeps c w (tell (fact.Waits p e k ∷ []) w) (heard laws c w (fact.Waits p e k) refl refl) refl)
play_keeps laws c (order.Passivate e) w steady fits named = give_or_keeps laws c w (input.Passivate e) (active_node e w) world.nothing (active_placed e w) (λ trace s st k f. named) tt (nothing_keeps laws c w)
play_keeps laws c (order.FailWrite e k) w steady fits named = give_or_keeps laws c w (input.FailWrite e k) (active_node e w) world.nothing (active_placed e w) (λ trace s st j f. named) tt (nothing_keeps laws c w)
play_keeps laws c (order.Deliver k) w steady fits named = deliver_keeps laws c w k
play_keeps laws c (order.Pump n) w steady fits named = if_keeps c w (is_empty w.fresh) (world.nothing w) (world.drain 0 n w) (λ e. nothing_keeps laws c w) (λ e. drain_keeps laws c 0 n w)
play_keeps laws c (order.Rebalance n) w steady fits named =
    give_or_keeps laws c w (input.Rebalance n) (node_of w (holder w.lists.coordinator)) world.nothing (of_placed w (holder w.lists.coordinator)) (λ trace s st k e. tt) tt (nothing_keeps laws c w)
play_keeps laws c order.Settle w steady fits named = settle_keeps laws c w
play_keeps laws c (order.Reshard n) w steady fits named = absurd (true≢false (sym steady))
play_keeps laws c order.Upgrade w steady fits named = absurd (true≢false (sym steady))
play_keeps laws c (order.Ping p) w steady fits named = nothing_keeps laws c w

-- Scripts.

pub line_keeps : Laws → (c : Script) (l : Line) (w : World) → is_steady l.order ≡ true → is_played c l.order ≡ true → Keeps c w (play_line l w)
line_keeps laws c l w steady h trace s =
    let v : World = with_order (Some l.order) w in
    let m : Made = tell (fact.At l.number ∷ []) v in
    let fits : (is_order c.config l.order && is_named c l.order) ≡ true = (and_both (is_order c.config l.order && is_named c l.order) (not (is_upgrade l.order) || is_version c 2) h).0 in
    let n : (is_order c.config l.order ≡ true) × (is_named c l.order ≡ true) = and_both (is_order c.config l.order) (is_named c l.order) fits in
    then_keeps c v m (world.play l.order) (quiet_keeps c v m (heard laws c v (fact.At l.number) refl refl) refl) (λ k. play_keeps laws c l.order m.world steady n.0 n.1) trace
    (ordered_sound c trace (Some l.order) w s)
