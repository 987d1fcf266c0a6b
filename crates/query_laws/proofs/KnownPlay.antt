-- The queries after any number of a script's orders.
use Rattle.std.proofs.Common.{◌≡◌, ℕ, zero, suc, List, [], ◌∷◌, ◌++◌, map, sym, ap, subst, ◌∙◌, refl, true, false, true≢false}
use Rattle.std.specs.Prelude.{Bool, ◌==◌, ◌&&◌, ◌||◌, not, fold, take, Some, None, is_none, if◌then◌else◌}
use Rattle.std.specs.List.{list_all, slice_get}
use Rattle.std.proofs.lemmas.List.Sums.{fold-append}
use Rattle.yard_model.specs.declared.fact.Fact.{Fact}
use Rattle.yard_model.specs.declared.fact.Fact.TheVariants as fact
use Rattle.yard_model.specs.declared.input.Input.TheVariants as input
use Rattle.yard_model.specs.declared.packet.Packet.{Packet}
use Rattle.yard_model.specs.declared.charter.Line.{Line}
use Rattle.yard_model.specs.declared.charter.Order.{Order}
use Rattle.yard_model.specs.declared.charter.Order.TheVariants as order
use Rattle.yard_model.specs.Behaviour.{is_in, is_of_kind}
use Rattle.yard_model.specs.Era.{Era, era_step, first_era}
use Rattle.yard_model.specs.Genuine.{is_producer}
use Rattle.yard_model.specs.Queries.{Known, know, nothing_known, known, order_at}
use Rattle.yard_model.specs.Script.{Script, is_order, is_upgrade, is_version}
use Rattle.yard_model.specs.SlotReads.{holder}
use Rattle.yard_model.specs.Words.{at, is_empty}
use Rattle.yard_model.specs.World as world
use Rattle.yard_model.specs.World.{World, Made, Step, world_after, tell, then_step, in_order, is_any_up, node_at, node_of, queue_holder, active_node, with_order, new_world, play_line}
use Rattle.plain_laws.proofs.Booleans.{and_both, get_replicate, of_not}
use Rattle.plain_laws.proofs.Lists.{none_is_not_some, all_take, none_of}
use Rattle.node_laws.specs.NodeTurns.{CrashStands}
use Rattle.play_laws.specs.Played.{is_named, is_played, LineLeadsOn, PlayedIsSound}
use Rattle.play_laws.specs.Sound.{Sound, LeadsOn}
use Rattle.play_laws.proofs.Lines.{lines_still, orders_played}
use Rattle.play_laws.proofs.Orders.{of_placed, active_placed}
use Rattle.play_laws.proofs.Steps.{up_leads, go_down_leads}
use Rattle.settle_laws.specs.Settles.{AreSettled, SettlesLeaveNone}
use Rattle.query_laws.specs.Known.{OrdersAreKnown}
use Rattle.query_laws.proofs.Along.{KnowsViews}
use Rattle.query_laws.proofs.KnownNear.{Near, all_none, none_agrees, line_near}
use Rattle.query_laws.proofs.KnownOrders.{give_or_knows, silent_knows, fail_knows, produce_knows, waits_knows, AllListed, all_listed, listed_take, line_knows, given_line}
use Rattle.query_laws.proofs.KnownSteps.{Knows, Any, NoPacket, then_knows, if_knows, nothing_knows, views_knows, come_up_knows, go_down_knows, drain_knows, deliver_knows}
use Rattle.query_laws.proofs.KnownTurn.{Shows, Fits}
use Rattle.query_laws.proofs.Steps.{agree_still, nobody_acts, still_known}

abbrev is_settle : Order → Bool
is_settle order.Settle = true
is_settle o = false

-- Orders after which nothing is asked of the packet that was got last.

up_order_knows : Shows → (c : Script) (orders : List Line) (w : World) (n : ℕ) → is_in 1 c.config.nodes n ≡ true → Knows Any c orders w (world.up n w)
up_order_knows shows c orders w n fits = if_knows Any c orders w (is_none (node_at w n)) (world.come_up n w) (world.nothing w)
    (λ e. come_up_knows shows c orders w n (up_leads shows.laws c w n fits (none_of (node_at w n) e))) (λ e. nothing_knows Any (λ k p. tt) c orders w)

crash_knows : Shows → CrashStands → (c : Script) (orders : List Line) (w : World) (n : ℕ) → Knows Any c orders w (world.crash_node n w)
crash_knows shows crashes c orders w n =
    let m : Made = world.go_down n w in
    if_knows Any c orders w (is_none (node_at w n)) (world.nothing w) (then_step m world.views) (λ e. nothing_knows Any (λ k p. tt) c orders w)
    (λ e. then_knows Any c orders w m world.views (go_down_leads shows.laws c w n) (go_down_knows crashes c orders w n) (λ f. views_knows c orders m.world))

-- another number of shards, while no node is up
reshard_knows : (c : Script) (orders : List Line) (w : World) (n : ℕ) → Knows Any c orders w (world.reshard n w)
reshard_knows c orders w n = by (is_any_up w) refl
  where
    f : Fact
    f = fact.Reshard n (world.greatest_epoch w.lists)

    told : is_any_up w ≡ false → Knows Any c orders w (tell (f ∷ []) w)
    told up trace s k fit any full = (
      record {
        agree = agree_still orders k w f fit.agree (still_known k f (λ j x h. absurd (none_is_not_some x (sym (all_none w.nodes up j) ∙ (ap (λ (v : World). at v.nodes j) (sym fit.agree.world_is) ∙ h))))) refl
            (record { count = fit.agree.knows.count; now = fit.agree.knows.now; posted = fit.agree.knows.posted });
        tidy = fit.tidy;
      },
      tt,
    )

    by : (b : Bool) → is_any_up w ≡ b → Knows Any c orders w (if b || (n == w.set.config.shards) then world.nothing w else tell (f ∷ []) w)
    by true up = nothing_knows Any (λ k p. tt) c orders w
    by false up = if_knows Any c orders w (n == w.set.config.shards) (world.nothing w) (tell (f ∷ []) w) (λ e. nothing_knows Any (λ k p. tt) c orders w) (λ e. told up)

upgrade_knows : (c : Script) (orders : List Line) (w : World) → Knows Any c orders w (world.upgrade w)
upgrade_knows c orders w =
    let f : Fact = fact.Upgrade 2 in
    if_knows Any c orders w (world.is_any_up w || (w.behaviour == 2)) (world.nothing w) (tell (f ∷ []) w) (λ e. nothing_knows Any (λ k p. tt) c orders w)
    (λ e trace s k fit any full.
    (record { agree = agree_still orders k w f fit.agree (nobody_acts k f refl) refl (record { count = fit.agree.knows.count; now = fit.agree.knows.now; posted = fit.agree.knows.posted }); tidy = fit.tidy }, tt))

pump_knows : Shows → (c : Script) (orders : List Line) (w : World) (n : ℕ) → w.full ≡ false → Knows Any c orders w (world.pump n w)
pump_knows shows c orders w n going = if_knows Any c orders w (is_empty w.fresh) (world.nothing w) (world.drain 0 n w) (λ e. nothing_knows Any (λ k p. tt) c orders w) (λ e. drain_knows shows c orders 0 n w going)

-- A line.

line_is_known : Shows → CrashStands → (c : Script) (orders : List Line) (number : ℕ) (o : Order) (w : World) → let l : Line = record { number = number; order = o } in order_at orders number ≡ Some o → is_order c.config o ≡ true → is_named c o ≡ true → is_settle o ≡ false → w.full ≡ false → Knows Any c orders w (play_line l w)
line_is_known shows crashes c orders number (order.Up n) w e fits named short going =
    let l : Line = record { number = number; order = order.Up n } in line_knows Any c orders w l (λ k p. tt) shows.laws e refl going (up_order_knows shows c orders (world_after w (fact.At number)) n fits)
line_is_known shows crashes c orders number (order.Crash n) w e fits named short going =
    let l : Line = record { number = number; order = order.Crash n } in line_knows Any c orders w l (λ k p. tt) shows.laws e refl going (crash_knows shows crashes c orders (world_after w (fact.At number)) n)
line_is_known shows crashes c orders number (order.Leave n) w e fits named short going =
    let l : Line = record { number = number; order = order.Leave n } in
    given_line shows c orders w l n input.Leave e (λ v. refl) (λ v. refl) (λ v. refl) (λ st. refl) refl (λ views. tt) refl (λ v trace s st k h. tt) going
line_is_known shows crashes c orders number (order.Tick n) w e fits named short going =
    let l : Line = record { number = number; order = order.Tick n } in
    given_line shows c orders w l n input.Tick e (λ v. refl) (λ v. refl) (λ v. refl) (λ st. refl) refl (λ views. tt) refl (λ v trace s st k h. tt) going
line_is_known shows crashes c orders number (order.Produce p n) w e fits named short going =
    let l : Line = record { number = number; order = order.Produce p n } in
    line_knows NoPacket c orders w l (λ k p. p) shows.laws e refl going (produce_knows shows c orders p n (world_after w (fact.At number)) (and_both (is_producer c p) (is_in 1 c.config.nodes n) fits).0)
line_is_known shows crashes c orders number (order.Rest p) w e fits named short going =
    let l : Line = record { number = number; order = order.Rest p } in let v : World = world_after w (fact.At number) in
    line_knows NoPacket c orders w l (λ k p. p) shows.laws e refl going
    (give_or_knows shows c orders v (input.Rest p) (node_of v (queue_holder v p)) world.nothing (of_placed v (queue_holder v p)) (λ trace s st k h. fits) refl (λ st. refl) refl (λ views. tt) (silent_knows c orders v))
line_is_known shows crashes c orders number (order.Send p x d) w e fits named short going =
    let l : Line = record { number = number; order = order.Send p x d } in let v : World = world_after (with_order (Some (order.Send p x d)) w) (fact.At number) in
    line_knows NoPacket c orders w l (λ k p. p) shows.laws e refl going
    (give_or_knows shows c orders v (input.Send p) (node_of v (queue_holder v p)) (tell (fact.Waits p x d ∷ [])) (of_placed v (queue_holder v p)) (λ trace s st k h. (and_both (is_producer c p) (is_of_kind c.config.kind d) fits).0) refl (λ st. refl) refl (λ views. tt)
    (waits_knows c orders v p x d))
line_is_known shows crashes c orders number (order.Passivate x) w e fits named short going =
    let l : Line = record { number = number; order = order.Passivate x } in let v : World = world_after w (fact.At number) in
    line_knows NoPacket c orders w l (λ k p. p) shows.laws e refl going
    (give_or_knows shows c orders v (input.Passivate x) (active_node x v) world.nothing (active_placed x v) (λ trace s st k h. named) refl (λ st. refl) refl (λ views. tt) (silent_knows c orders v))
line_is_known shows crashes c orders number (order.FailWrite x a) w e fits named short going =
    let l : Line = record { number = number; order = order.FailWrite x a } in line_knows NoPacket c orders w l (λ k p. p) shows.laws e refl going (fail_knows shows c orders (world_after w (fact.At number)) x a named)
line_is_known shows crashes c orders number (order.Deliver k) w e fits named short going =
    let l : Line = record { number = number; order = order.Deliver k } in line_knows Any c orders w l (λ k p. tt) shows.laws e refl going (deliver_knows shows c orders (world_after w (fact.At number)) k going)
line_is_known shows crashes c orders number (order.Pump n) w e fits named short going =
    let l : Line = record { number = number; order = order.Pump n } in line_knows Any c orders w l (λ k p. tt) shows.laws e refl going (pump_knows shows c orders (world_after w (fact.At number)) n going)
line_is_known shows crashes c orders number (order.Rebalance n) w e fits named short going =
    let l : Line = record { number = number; order = order.Rebalance n } in let v : World = world_after w (fact.At number) in
    line_knows NoPacket c orders w l (λ k p. p) shows.laws e refl going
    (give_or_knows shows c orders v (input.Rebalance n) (node_of v (holder v.lists.coordinator)) world.nothing (of_placed v (holder v.lists.coordinator)) (λ trace s st k h. tt) refl (λ st. refl) refl (λ views. tt) (silent_knows c orders v))
line_is_known shows crashes c orders number order.Settle w e fits named short going = absurd (true≢false short)
line_is_known shows crashes c orders number (order.Reshard n) w e fits named short going =
    let l : Line = record { number = number; order = order.Reshard n } in line_knows Any c orders w l (λ k p. tt) shows.laws e refl going (reshard_knows c orders (world_after w (fact.At number)) n)
line_is_known shows crashes c orders number order.Upgrade w e fits named short going =
    let l : Line = record { number = number; order = order.Upgrade } in line_knows Any c orders w l (λ k p. tt) shows.laws e refl going (upgrade_knows c orders (world_after w (fact.At number)))
line_is_known shows crashes c orders number (order.Ping p) w e fits named short going =
    let l : Line = record { number = number; order = order.Ping p } in line_knows Any c orders w l (λ k p. tt) shows.laws e refl going (nothing_knows Any (λ k p. tt) c orders (world_after w (fact.At number)))

-- Scripts.

-- whether the facts still tell the words of nodes after these lines, where they did before: the ticks inside a settle are told by no fact, so after it they do once no node is up
abbrev are_told : List Line → World → Bool → Bool
are_told [] w b = b
are_told (l ∷ ls) w b = let v : World = (play_line l w).world in are_told ls v (not (is_any_up v) || (b && not (is_settle l.order)))

-- after a settle no node is up, so they always do
any_told : (a b : Bool) → (b ≡ false → a ≡ false) → (not a || (true && b)) ≡ true
any_told a true h = by a
  where
    by : (x : Bool) → (not x || true) ≡ true
    by true = refl
    by false = refl
any_told a false h = ap (λ x. not x || false) (h refl)

settled_none : (o : Order) (P : Type 0) → (o ≡ order.Settle → P) → not (is_settle o) ≡ false → P
settled_none order.Settle P h e = h refl
settled_none o P h e = absurd (true≢false e)

all_told : (ls : List Line) (w : World) → AreSettled ls w → are_told ls w true ≡ true
all_told [] w s = refl
all_told (l ∷ ls) w s =
    let v : World = (play_line l w).world in
    subst (λ b. are_told ls v b ≡ true) (sym (any_told (is_any_up v) (not (is_settle l.order)) (settled_none l.order (is_any_up v ≡ false) s.1))) (all_told ls v s.2)

-- what the queries answer after these steps: all but the nodes; these, where the facts tell them
abbrev Ends : List Line → Known → Made → Bool → Type 0
Ends orders k m b = Near orders (fold know k m.facts) m.world × (m.world.full ≡ false → b ≡ true → Fits orders (fold know k m.facts) m.world)

then_ends : (orders : List Line) (k : Known) (m : Made) (q : Step) (b : Bool) → Near orders (fold know k m.facts) m.world → (m.world.full ≡ false → Ends orders (fold know k m.facts) (q m.world) b) → Ends orders k (then_step m q) b
then_ends orders k m q b near rest = by m.world.full refl
  where
    next : Made
    next = q m.world

    by : (f : Bool) → m.world.full ≡ f → Ends orders k (elim f as (λ b. Made) [ true ↦ m | false ↦ let n : Made = q m.world in record { facts = m.facts ++ n.facts; world = n.world } ]) b
    by true e = (near, λ full told. absurd (true≢false (sym e ∙ full)))
    by false e = subst (λ j. Near orders j next.world × (next.world.full ≡ false → b ≡ true → Fits orders j next.world)) (sym (fold-append know k m.facts next.facts)) (rest e)

lines_end : Shows → CrashStands → LineLeadsOn → (orders ls : List Line) (w : World) (era : Era) (k : Known) (b : Bool) → AllListed orders ls → list_all (λ (l : Line). is_played era.script l.order) ls ≡ true
    → w.full ≡ false → Sound era.script era.trace w → Near orders k w → (b ≡ true → Fits orders k w) → Ends orders k (in_order (map play_line ls) w) (are_told ls w b)
lines_end shows crashes leads orders [] w era k b listed fits going s near fit = (near, λ full told. fit told)
lines_end shows crashes leads orders (l ∷ ls) w era k b listed fits going s near fit =
    then_ends orders k m (in_order (map play_line ls)) (are_told (l ∷ ls) w b) one
    (λ e. lines_end shows crashes leads orders ls m.world (fold era_step era m.facts) (fold know k m.facts) (not (is_any_up m.world) || (b && not (is_settle l.order))) listed.1 (lines_still ls m.facts era parts.1) e on.sound one (told (is_any_up m.world) refl e))
  where
    m : Made
    m = play_line l w

    parts : (is_played era.script l.order ≡ true) × (list_all (λ (l : Line). is_played era.script l.order) ls ≡ true)
    parts = and_both (is_played era.script l.order) (list_all (λ (l : Line). is_played era.script l.order) ls) fits

    ours : (is_order era.script.config l.order ≡ true) × (is_named era.script l.order ≡ true)
    ours = and_both (is_order era.script.config l.order) (is_named era.script l.order)
        (and_both (is_order era.script.config l.order && is_named era.script l.order) (not (is_upgrade l.order) || is_version era.script 2) parts.0).0

    on : LeadsOn era m
    on = leads l w era parts.0 s

    one : Near orders (fold know k m.facts) m.world
    one = line_near shows.laws era.script orders l w listed.0 ours.0 era.trace s k near

    told : (a : Bool) → is_any_up m.world ≡ a → m.world.full ≡ false → (not a || (b && not (is_settle l.order))) ≡ true → Fits orders (fold know k m.facts) m.world
    told false up e h = none_agrees orders (fold know k m.facts) m.world one (all_none m.world.nodes up)
    told true up e h =
        let t : (b ≡ true) × (not (is_settle l.order) ≡ true) = and_both b (not (is_settle l.order)) h in
        (line_is_known shows crashes era.script orders l.number l.order w listed.0 ours.0 ours.1 (of_not (is_settle l.order) t.1) going era.trace s k (fit t.0) tt e).0

pub orders_are_known : Shows → CrashStands → LineLeadsOn → PlayedIsSound → SettlesLeaveNone → OrdersAreKnown
orders_are_known shows crashes leads sound settles c limit n script different =
    (done.0.rest_is, λ full. let fit : Fits c.orders (known c.orders first m.facts) m.world = done.1 full (all_told (take n c.orders) first (settles c limit n script full)) in fit.agree.world_is)
  where
    first : World
    first = new_world c limit

    m : Made
    m = in_order (map play_line (take n c.orders)) first

    k : Known
    k = nothing_known c.orders first

    begins : LeadsOn (first_era c) (in_order [] first)
    begins = sound c limit 0 script

    no_packets : List Packet
    no_packets = []

    none_got : (j : ℕ) → slice_get no_packets j ≡ None
    none_got zero = refl
    none_got (suc j) = refl

    views : KnowsViews k.views first
    views = record { count = refl; now = refl; posted = λ j p e. absurd (none_is_not_some p (sym (none_got j) ∙ e)) }

    start : Fits c.orders k first
    start = record { agree = record { orders_are = refl; world_is = refl; knows = views }; tidy = λ j st e. absurd (none_is_not_some st (sym (get_replicate c.config.nodes j None) ∙ e)) }

    done : Ends c.orders k m (are_told (take n c.orders) first true)
    done = lines_end shows crashes leads c.orders (take n c.orders) first (first_era c) k true (listed_take c.orders n c.orders (all_listed [] c.orders different)) (all_take (λ (l : Line). is_played c l.order) n c.orders (orders_played c script))
        refl begins.sound (record { orders_are = refl; rest_is = refl; shape = refl; knows = views }) (λ h. start)
