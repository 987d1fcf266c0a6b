-- While something is left: a tick, and a drain; three times at most.
use Rattle.std.proofs.Common.{◌≡◌, ◌<◌, ◌≤◌, ℕ, zero, suc, ◌+◌, ◌*◌, List, [], ◌∷◌, sym, ap, subst, ◌∙◌, refl, true, false, arith}
use Rattle.std.specs.Prelude.{Bool, ◌||◌, not, nat_lt, Some, is_none}
use Rattle.std.specs.List.{list_any}
use Rattle.yard_model.specs.declared.input.Input.TheVariants as input
use Rattle.yard_model.specs.Node.{tick}
use Rattle.yard_model.specs.Producer.{Producer}
use Rattle.yard_model.specs.Script.{Script}
use Rattle.yard_model.specs.Setting.{producers}
use Rattle.yard_model.specs.SlotLists.{queue_list}
use Rattle.yard_model.specs.SlotReads.{queued, confirmed, queued_in_all}
use Rattle.yard_model.specs.World.{World, Made, Step, give, node_at, ordered_of, is_left, drain, tick_while_left, then_step, tell}
use Rattle.actor_laws.proofs.EntitiesMoves.{some_of}
use Rattle.settle_laws.specs.Alone.{Base, Alone, node_with, confirmed_by, queued_by, producer_at, Each, Stands, none_later, load, Goes, More}
use Rattle.settle_laws.specs.Lonely.{IsLonely, deliveries_in, Comes, Outcome}
use Rattle.settle_laws.specs.Steps.{AllQueued, DeliveryFalls, TickCosts, Ticked, all_outs, is_left_at}
use Rattle.settle_laws.proofs.Drains.{Drained, drains}
use Rattle.settle_laws.proofs.One.{Rests, queue_is, comes_leads, comes_also, comes_none, then_comes}
use Rattle.settle_laws.proofs.Records.{le_then}
use Rattle.settle_laws.proofs.Settling.{queued_onward, Levels, levels, never_left}

-- One tick.

abbrev pub tick_cost : Base → Alone → ℕ
tick_cost b z = 6 * b.set.config.shards + 6 * all_outs b z (producers b.set)

-- each queue of the script is held
abbrev pub AllHeld : Base → Alone → Type 0
AllHeld b z = Each (λ p. (0 < p) × (is_none (producer_at z.producers p) ≡ false)) (producers b.set)

-- the queues tell how many of the sends that were ordered are queued: all
abbrev pub AllOrdered : Base → World → Type 0
AllOrdered b w = Each (λ p. queued_in_all (queue_list w.lists p) ≡ ordered_of w p) (producers b.set)

abbrev pub AfterTick : Base → Alone → Alone → World → Type 0
AfterTick b z to v = Ticked b z to × More b z to

pub ticks_once : Rests → TickCosts → (c : Script) (b : Base) (from done : ℕ) (w : World) (z : Alone) → IsLonely c b from done w z → Stands b none_later z → z.wire ≡ [] → Outcome c b from done w z (tick_cost b z) (AfterTick b z) (give input.Tick (node_at w 1) w)
ticks_once laws ticks c b from done w z l s empty =
    subst (λ o. Outcome c b from done w z (tick_cost b z) (AfterTick b z) (give input.Tick o w)) (sym l.is_by.is_up)
    (comes_leads laws c b from done w z (tick_cost b z) (λ to. Ticked b z to × More b z to) (AfterTick b z) input.Tick l tt refl
    (let g : Goes b none_later (tick_cost b z) (Ticked b z) z (tick w.lists (node_with b z)) = ticks b z w.lists s empty in
    record { to = g.to; node_is = g.node_is; wire_is = g.wire_is; stands = g.stands; costs = g.costs; hosts_on = g.more.hosts_on; entered = g.entered; also_is = (g.also_is, g.more) })
    (λ to v lonely h lists. h))

-- A tick and its drain.

pub record Round (b : Base) (z to : Alone) (v : World) : Type 0 where
  pub all_queued : AllQueued b to
  pub empty : to.wire ≡ []
  pub held : AllHeld b to
  pub levels_are : Levels b z to

held_on : (b : Base) (z to : Alone) → ((p : ℕ) → is_none (producer_at z.producers p) ≡ false → is_none (producer_at to.producers p) ≡ false) → AllHeld b z → AllHeld b to
held_on b z to f = along (producers b.set)
  where
    along : (ps : List ℕ) → Each (λ p. (0 < p) × (is_none (producer_at z.producers p) ≡ false)) ps → Each (λ p. (0 < p) × (is_none (producer_at to.producers p) ≡ false)) ps
    along [] h = tt
    along (p ∷ ps) h = ((h.0.0, f p h.0.1), along ps h.1)

abbrev pub round : ℕ → ℕ → Step
round from bound w = then_step (give input.Tick (node_at w 1) w) (drain from bound)

pub rounds : Rests → DeliveryFalls → TickCosts → (c : Script) (b : Base) (from bound done : ℕ) (w : World) (z : Alone) → IsLonely c b from done w z → Stands b none_later z → AllQueued b z → AllHeld b z → z.wire ≡ [] → load b z + tick_cost b z ≤ bound
    → Outcome c b from done w z (tick_cost b z + 0) (Round b z) (round from bound w)
rounds laws falls ticks c b from bound done w z l s all held empty fits =
    then_comes c b from done w z (tick_cost b z) 0 (AfterTick b z) (Round b z) (give input.Tick (node_at w 1) w) (drain from bound) (ticks_once laws ticks c b from done w z l s empty)
    (λ x. let all1 : AllQueued b x.to = λ p e above. x.also_is.1.queued_on p e ∙ all p e above in
    let m : Made = give input.Tick (node_at w 1) w in
    comes_also c b from (done + deliveries_in m.facts) m.world x.to 0 0 (Drained b x.to) (Round b z) (drain from bound m.world) (omega arith)
    (λ y. record {
      all_queued = queued_onward b x.to y.to y.also_is.0 all1;
      empty = y.also_is.1;
      held = held_on b x.to y.to y.also_is.0.holds_on (held_on b z x.to x.also_is.1.holds_on held);
      levels_are = levels b z x.to y.to x.also_is.1 x.also_is.0 y.stands y.also_is.1 y.also_is.0;
    })
    (drains laws falls c b from bound (done + deliveries_in m.facts) m.world x.to x.lonely x.stands all1 (under (deliveries_in m.facts) (load b x.to) (load b z + tick_cost b z) bound x.counted fits)))
  where
    under : (d x y n : ℕ) → d + x ≤ y → y ≤ n → x ≤ n
    under d x y n h k = omega (arith, h, k)

-- What is left.

pub left_is : (c : Script) (b : Base) (from done : ℕ) (w : World) (z : Alone) → IsLonely c b from done w z → AllHeld b z → AllOrdered b w → list_any (is_left w) (producers w.set) ≡ is_left_at (node_with b z)
left_is c b from done w z l held ordered = ap (λ x. list_any (is_left w) (producers x)) (l.known.set_is ∙ sym l.base_is) ∙ along (producers b.set) held ordered
  where
    not_less : (n m : ℕ) → n ≡ m → nat_lt n m ≡ false
    not_less n m e = grind (arith, e)

    one : (p : ℕ) → 0 < p → is_none (producer_at z.producers p) ≡ false → queued_in_all (queue_list w.lists p) ≡ ordered_of w p
        → is_left w p ≡ list_any (λ e. nat_lt (confirmed_by e (producer_at z.producers p)) (queued_by e (producer_at z.producers p))) b.set.names
    one p above some all =
        let k : (k : Producer) × (producer_at z.producers p ≡ Some k) = some_of (producer_at z.producers p) (ap not some) in
        ap (λ t. t || list_any (λ e. nat_lt (confirmed e (queue_list w.lists p)) (queued e (queue_list w.lists p))) w.set.names) (not_less (queued_in_all (queue_list w.lists p)) (ordered_of w p) all)
        ∙ (ap (λ x. list_any (λ e. nat_lt (confirmed e (queue_list w.lists p)) (queued e (queue_list w.lists p))) x.names) (l.known.set_is ∙ sym l.base_is)
        ∙ (ap (λ q. list_any (λ e. nat_lt (confirmed e q) (queued e q)) b.set.names) (queue_is c w (node_with b z) l.known l.is_by.is_up p k.0 above k.1)
        ∙ sym (ap (λ o. list_any (λ e. nat_lt (confirmed_by e o) (queued_by e o)) b.set.names) k.1)))

    along : (ps : List ℕ) → Each (λ p. (0 < p) × (is_none (producer_at z.producers p) ≡ false)) ps → Each (λ p. queued_in_all (queue_list w.lists p) ≡ ordered_of w p) ps
        → list_any (is_left w) ps ≡ list_any (λ p. list_any (λ e. nat_lt (confirmed_by e (producer_at z.producers p)) (queued_by e (producer_at z.producers p))) b.set.names) ps
    along [] h o = refl
    along (p ∷ ps) h o = ap (λ t. t || list_any (is_left w) ps) (one p h.0.0 h.0.1 o.0) ∙ ap (λ t. list_any (λ e. nat_lt (confirmed_by e (producer_at z.producers p)) (queued_by e (producer_at z.producers p))) b.set.names || t) (along ps h.1 o.1)

-- The loop.

pub record Ended (b : Base) (to : Alone) (v : World) : Type 0 where
  pub all_queued : AllQueued b to
  pub held : AllHeld b to
  pub empty : to.wire ≡ []
  pub none_left : is_left_at (node_with b to) ≡ false

-- what is queued says how many of the sends are
abbrev pub Tells : Script → Base → ℕ → Type 0
Tells c b from = (done : ℕ) (w : World) (z : Alone) → IsLonely c b from done w z → AllQueued b z → AllHeld b z → AllOrdered b w

pub ended : (c : Script) (b : Base) (from bound n done : ℕ) (w : World) (z : Alone) → Tells c b from → IsLonely c b from done w z → Stands b none_later z → AllQueued b z → AllHeld b z → z.wire ≡ [] → is_left_at (node_with b z) ≡ false → Outcome c b from done w z 0 (Ended b) (tick_while_left from bound n w)
ended c b from bound zero done w z tells l s all held empty none = comes_none c b from done w z (Ended b) l s (record { all_queued = all; held = held; empty = empty; none_left = none })
ended c b from bound (suc n) done w z tells l s all held empty none =
    subst (λ t. Outcome c b from done w z 0 (Ended b) (elim t as (λ b. Made) [ false ↦ tell [] w | true ↦ then_step (round from bound w) (tick_while_left from bound n) ])) (sym (left_is c b from done w z l held (tells done w z l all held) ∙ none))
    (comes_none c b from done w z (Ended b) l s (record { all_queued = all; held = held; empty = empty; none_left = none }))

abbrev pub Rest : Script → Base → ℕ → ℕ → ℕ → ℕ → World → Alone → ℕ → Type 0
Rest c b from bound n done w z more = (x : Comes c b from done w z (tick_cost b z + 0) (Round b z) (round from bound w)) → Outcome c b from (done + deliveries_in (round from bound w).facts) (round from bound w).world x.to more (Ended b) (tick_while_left from bound n (round from bound w).world)

pub turns_once : Rests → DeliveryFalls → TickCosts → (c : Script) (b : Base) (from bound n more done : ℕ) (w : World) (z : Alone) → Tells c b from → IsLonely c b from done w z → Stands b none_later z → AllQueued b z → AllHeld b z → z.wire ≡ [] → load b z + tick_cost b z ≤ bound
    → Rest c b from bound n done w z more → Outcome c b from done w z (tick_cost b z + 0 + more) (Ended b) (tick_while_left from bound (suc n) w)
turns_once laws falls ticks c b from bound n more done w z tells l s all held empty fits rest =
    subst (λ t. Outcome c b from done w z (tick_cost b z + 0 + more) (Ended b) (elim t as (λ b. Made) [ false ↦ tell [] w | true ↦ then_step (round from bound w) (tick_while_left from bound n) ])) (sym (left_is c b from done w z l held (tells done w z l all held))) (by (is_left_at (node_with b z)) refl)
  where
    by : (t : Bool) → is_left_at (node_with b z) ≡ t → Outcome c b from done w z (tick_cost b z + 0 + more) (Ended b) (elim t as (λ b. Made) [ false ↦ tell [] w | true ↦ then_step (round from bound w) (tick_while_left from bound n) ])
    by false none = comes_also c b from done w z 0 (tick_cost b z + 0 + more) (Ended b) (Ended b) (tell [] w) (least (tick_cost b z + 0 + more)) (λ x. x.also_is)
        (comes_none c b from done w z (Ended b) l s (record { all_queued = all; held = held; empty = empty; none_left = none }))
      where
        least : (n : ℕ) → 0 ≤ n
        least n = omega arith
    by true some = then_comes c b from done w z (tick_cost b z + 0) more (Round b z) (Ended b) (round from bound w) (tick_while_left from bound n) (rounds laws falls ticks c b from bound done w z l s all held empty fits) rest

-- what three rounds cost
abbrev pub rounds_cost : Base → ℕ → ℕ → ℕ
rounds_cost b outs n = n * (6 * b.set.config.shards + 6 * outs)

fits_of : (s o outs l bound n : ℕ) → o ≤ outs → l + suc n * (6 * s + 6 * outs) ≤ bound → l + (6 * s + 6 * o) ≤ bound
fits_of s o outs l bound n less fits = by (6 * s + 6 * outs) (n * (6 * s + 6 * outs)) (suc n * (6 * s + 6 * outs)) (times n (6 * s + 6 * outs)) fits (grow s o outs less)
  where
    times : (n t : ℕ) → suc n * t ≡ t + n * t
    times n t = grind arith

    grow : (s o outs : ℕ) → o ≤ outs → 6 * s + 6 * o ≤ 6 * s + 6 * outs
    grow s o outs h = omega (arith, h)

    by : (t x y : ℕ) → y ≡ t + x → l + y ≤ bound → 6 * s + 6 * o ≤ t → l + (6 * s + 6 * o) ≤ bound
    by t x y e h g = omega (arith, e, h, g)

next_fits : (s o outs l d x bound n : ℕ) → o ≤ outs → d + x ≤ l + (6 * s + 6 * o + 0) → l + suc n * (6 * s + 6 * outs) ≤ bound → x + n * (6 * s + 6 * outs) ≤ bound
next_fits s o outs l d x bound n less counted fits = by (6 * s + 6 * outs) (n * (6 * s + 6 * outs)) (suc n * (6 * s + 6 * outs)) (times n (6 * s + 6 * outs)) fits (grow s o outs less)
  where
    times : (n t : ℕ) → suc n * t ≡ t + n * t
    times n t = grind arith

    grow : (s o outs : ℕ) → o ≤ outs → 6 * s + 6 * o ≤ 6 * s + 6 * outs
    grow s o outs h = omega (arith, h)

    by : (t x2 y : ℕ) → y ≡ t + x2 → l + y ≤ bound → 6 * s + 6 * o ≤ t → x + x2 ≤ bound
    by t x2 y e h g = omega (arith, e, h, g, counted)

costs_of : (s o outs n : ℕ) → o ≤ outs → 6 * s + 6 * o + 0 + n * (6 * s + 6 * outs) ≤ suc n * (6 * s + 6 * outs)
costs_of s o outs n less = by (6 * s + 6 * outs) (n * (6 * s + 6 * outs)) (suc n * (6 * s + 6 * outs)) (times n (6 * s + 6 * outs)) (grow s o outs less)
  where
    times : (n t : ℕ) → suc n * t ≡ t + n * t
    times n t = grind arith

    grow : (s o outs : ℕ) → o ≤ outs → 6 * s + 6 * o ≤ 6 * s + 6 * outs
    grow s o outs h = omega (arith, h)

    by : (t x y : ℕ) → y ≡ t + x → 6 * s + 6 * o ≤ t → 6 * s + 6 * o + 0 + x ≤ y
    by t x y e g = omega (arith, e, g)

-- a round, and then what so many rounds more lead to
pub turns_then : Rests → DeliveryFalls → TickCosts → (c : Script) (b : Base) (from bound n outs left done : ℕ) (w : World) (z : Alone) → Tells c b from → IsLonely c b from done w z → Stands b none_later z → AllQueued b z → AllHeld b z → z.wire ≡ []
    → all_outs b z (producers b.set) ≤ outs → load b z + rounds_cost b outs (suc left) ≤ bound
    → ((done : ℕ) (w : World) (to : Alone) → IsLonely c b from done w to → Stands b none_later to → Round b z to w → all_outs b to (producers b.set) ≤ outs → load b to + rounds_cost b outs left ≤ bound → Outcome c b from done w to (rounds_cost b outs left) (Ended b) (tick_while_left from bound n w))
    → Outcome c b from done w z (rounds_cost b outs (suc left)) (Ended b) (tick_while_left from bound (suc n) w)
turns_then laws falls ticks c b from bound n outs left done w z tells l s all held empty few fits rest =
    comes_also c b from done w z (tick_cost b z + 0 + rounds_cost b outs left) (rounds_cost b outs (suc left)) (Ended b) (Ended b) (tick_while_left from bound (suc n) w) (costs_of b.set.config.shards (all_outs b z (producers b.set)) outs left few) (λ x. x.also_is)
    (turns_once laws falls ticks c b from bound n (rounds_cost b outs left) done w z tells l s all held empty (fits_of b.set.config.shards (all_outs b z (producers b.set)) outs (load b z) bound left few fits)
    (λ x. rest (done + deliveries_in (round from bound w).facts) (round from bound w).world x.to x.lonely x.stands x.also_is (le_then (all_outs b x.to (producers b.set)) (all_outs b z (producers b.set)) outs x.also_is.levels_are.outs_fall few)
    (next_fits b.set.config.shards (all_outs b z (producers b.set)) outs (load b z) (deliveries_in (round from bound w).facts) (load b x.to) bound left few x.counted fits)))

-- three rounds at most
pub loops : Rests → DeliveryFalls → TickCosts → (c : Script) (b : Base) (from bound n outs done : ℕ) (w : World) (z : Alone) → Tells c b from → IsLonely c b from done w z → Stands b none_later z → AllQueued b z → AllHeld b z → z.wire ≡ []
    → all_outs b z (producers b.set) ≤ outs → load b z + rounds_cost b outs 3 ≤ bound → Outcome c b from done w z (rounds_cost b outs 3) (Ended b) (tick_while_left from bound (suc (suc (suc n))) w)
loops laws falls ticks c b from bound n outs done w z tells l s all held empty few fits =
    turns_then laws falls ticks c b from bound (suc (suc n)) outs 2 done w z tells l s all held empty few fits
    (λ done1 w1 z1 l1 s1 r1 few1 fits1. turns_then laws falls ticks c b from bound (suc n) outs 1 done1 w1 z1 tells l1 s1 r1.all_queued r1.held r1.empty few1 fits1
    (λ done2 w2 z2 l2 s2 r2 few2 fits2. turns_then laws falls ticks c b from bound n outs 0 done2 w2 z2 tells l2 s2 r2.all_queued r2.held r2.empty few2 fits2
    (λ done3 w3 z3 l3 s3 r3 few3 fits3. comes_also c b from done3 w3 z3 0 (rounds_cost b outs 0) (Ended b) (Ended b) (tick_while_left from bound n w3) (least (rounds_cost b outs 0)) (λ x. x.also_is)
    (ended c b from bound n done3 w3 z3 tells l3 s3 r3.all_queued r3.held r3.empty (never_left b z3 (r3.levels_are.to_end (r2.levels_are.to_active r1.levels_are.to_home)))))))
  where
    least : (n : ℕ) → 0 ≤ n
    least n = omega arith
