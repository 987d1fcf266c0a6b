-- A drain of a world whose only node is up by itself.
use Rattle.std.proofs.Common.{◌≡◌, ◌<◌, ◌≤◌, ◌⊎◌, inl, inr, ℕ, zero, suc, ◌+◌, List, [], ◌∷◌, length, sym, ap, subst, ◌∙◌, refl, true, arith}
use Rattle.std.specs.List.{list_all}
use Rattle.yard_model.specs.declared.fact.Fact.TheVariants as fact
use Rattle.yard_model.specs.declared.input.Input.TheVariants as input
use Rattle.yard_model.specs.declared.packet.Packet.{Packet}
use Rattle.yard_model.specs.Genuine.{is_genuine_packet}
use Rattle.yard_model.specs.Node.{Act, items_of, turn}
use Rattle.yard_model.specs.Script.{Script}
use Rattle.yard_model.specs.World.{World, Made, world_after, handle, deliver, drain, then_step, tell}
use Rattle.plain_laws.proofs.Booleans.{and_both}
use Rattle.node_laws.specs.NodeTurns.{MayTake}
use Rattle.node_laws.specs.Traces.{recorded}
use Rattle.settle_laws.specs.Alone.{Base, Alone, node_with, Each, IsOwn, Stands, none_later, load}
use Rattle.settle_laws.specs.Lonely.{ArePosted, IsBy, Known, IsLonely, deliveries_in, IsLonger, IsFull, Outcome}
use Rattle.settle_laws.specs.Steps.{Onward, AllQueued, Taken, DeliveryFalls}
use Rattle.actor_laws.specs.Owes.{facts_in}
use Rattle.settle_laws.proofs.Longer.{facts_longer}
use Rattle.settle_laws.proofs.Loads.{load_least}
use Rattle.settle_laws.proofs.Lonely.{got_by, handed, deliver_is, nothing_waits, first_waits}
use Rattle.settle_laws.proofs.One.{Rests, Raw, raw_input, may_packet, then_comes, comes_also, comes_none}
use Rattle.settle_laws.proofs.Settling.{taken_onward, onward_both, onward_none, queued_onward}

-- One delivery.

abbrev pub Falls : Base → Alone → Alone → World → Type 0
Falls b z to v = Onward b z to × (load b to + 1 ≤ load b z)

pub delivers : Rests → DeliveryFalls → (c : Script) (b : Base) (from done : ℕ) (w : World) (z : Alone) (k : ℕ) (ks : List ℕ) (p : Packet) (ps : List Packet) (l : IsLonely c b from done w z) → Stands b none_later z → AllQueued b z → l.is_by.waiting ≡ k ∷ ks → z.wire ≡ p ∷ ps
    → Outcome c b from done w z 0 (Falls b z) (deliver k w)
delivers laws falls c b from done w z k ks p ps l s all numbers_are wire_are = subst (Outcome c b from done w z 0 (Falls b z)) (sym (deliver_is b.who from done w (node_with b z) k ks p ps first numbers_are own.1)) (by (raw_input laws c b from (done + 1) w1 z1 t.to (input.Packet p) lonely1 may refl t.node_is t.wire_is t.more.hosts_on t.entered))
  where
    acts : List Act
    acts = turn w.sends w.lists (input.Packet p) (node_with b z)

    t : Taken b z p ps acts
    t = falls b z w.lists p ps s all l.agrees wire_are

    own : IsOwn b z.hosted z.cells p
    own = (subst (Each (IsOwn b z.hosted z.cells)) wire_are s.posted).0

    genuine : (is_genuine_packet c p ≡ true) × (list_all (is_genuine_packet c) ps ≡ true)
    genuine = and_both (is_genuine_packet c p) (list_all (is_genuine_packet c) ps) (subst (λ x. list_all (is_genuine_packet c) x ≡ true) wire_are l.genuine)

    w1 : World
    w1 = world_after w (fact.Got k)

    z1 : Alone
    z1 = record z { wire = ps }

    first : IsBy b.who from done w (node_with b z) (p ∷ ps)
    first = record { node_is = l.is_by.node_is; is_up = l.is_by.is_up; others = l.is_by.others; who_is = l.is_by.who_is; members_are = l.is_by.members_are; not_full = l.is_by.not_full; past_is = l.is_by.past_is; wire_is = l.is_by.wire_is ∙ ap (λ x. from + done + length x) wire_are; waiting = l.is_by.waiting; waiting_is = l.is_by.waiting_is; rising = l.is_by.rising; posted = subst (ArePosted w.wire l.is_by.waiting) wire_are l.is_by.posted }

    known1 : Known c w1
    known1 = record { trace = l.known.trace; script_is = l.known.script_is; set_is = l.known.set_is; sends_are = l.known.sends_are; lists_are = l.known.lists_are; cluster = l.known.cluster }

    lonely1 : IsLonely c b from (done + 1) w1 z1
    lonely1 = record { is_by = got_by b.who from done w (node_with b z) k ks p ps first numbers_are; base_is = l.base_is; ordered_is = l.ordered_is; known = known1; genuine = genuine.1; agrees = l.agrees }

    may : MayTake c (recorded c l.known.trace) (node_with b z) (input.Packet p)
    may = may_packet c b w z l.known l.base_is l.is_by.is_up l.agrees s all p genuine.0 own

    mm : Made
    mm = handle (input.Packet p) (node_with b z) w1

    by : IsFull w.limit (from + (done + 1)) (length t.to.wire) mm ⊎ Raw c b from (done + 1) w1 acts t.to mm → Outcome c b from done w z 0 (Falls b z) (handed w k p (node_with b z))
    by (inl f) = inl (record {
      full = f.full;
      counted = less (deliveries_in mm.facts) (length t.to.wire) (load b t.to) (load b z) f.counted (load_least b t.to) t.falls;
      unsettled = f.unsettled;
      over = past w.limit from done (length t.to.wire) (load b t.to) (load b z) f.over (load_least b t.to) t.falls;
    })
      where
        less : (d a x y : ℕ) → d ≤ a → a ≤ x → x + 1 ≤ y → suc d ≤ y + 0
        less d a x y h g j = omega (arith, h, g, j)

        past : (m f d a x y : ℕ) → m < f + (d + 1) + a → a ≤ x → x + 1 ≤ y → m < f + d + (y + 0)
        past m f d a x y h g j = omega (arith, h, g, j)
    by (inr r) = inr (record {
      to = t.to;
      lonely = subst (λ n. IsLonely c b from n mm.world t.to) (one_more done (deliveries_in mm.facts) r.none_got) r.lonely;
      stands = t.stands;
      counted = counts (deliveries_in mm.facts) (load b t.to) (load b z) r.none_got t.falls;
      unsettled = r.unsettled;
      limit_is = r.limit_is;
      ordered_is = r.ordered_is;
      longer = subst (IsLonger w.lists) (sym r.lists_are) (facts_longer w1.set (facts_in (items_of acts)) w1.lists);
      also_is = (taken_onward b z p ps acts t, t.falls);
    })
      where
        one_more : (d n : ℕ) → n ≡ 0 → d + 1 ≡ d + suc n
        one_more d n e = omega (arith, e)

        counts : (d x y : ℕ) → d ≡ 0 → x + 1 ≤ y → suc d + x ≤ y + 0
        counts d x y e h = omega (arith, e, h)

-- A drain.

abbrev pub Drained : Base → Alone → Alone → World → Type 0
Drained b z to v = Onward b z to × (to.wire ≡ [])

-- with a budget of its load all that waits is delivered
pub drains : Rests → DeliveryFalls → (c : Script) (b : Base) (from n done : ℕ) (w : World) (z : Alone) → IsLonely c b from done w z → Stands b none_later z → AllQueued b z → load b z ≤ n → Outcome c b from done w z 0 (Drained b z) (drain from n w)
drains laws falls c b from zero done w z l s all less = comes_none c b from done w z (Drained b z) l s (onward_none b z, by z.wire refl)
  where
    by : (x : List Packet) → z.wire ≡ x → z.wire ≡ []
    by [] e = e
    by (p ∷ ps) e = absurd (none (length z.wire) (length ps) (load b z) (ap length e) (load_least b z) less)
      where
        none : (n m x : ℕ) → n ≡ suc m → n ≤ x → x ≤ 0 → ⊥
        none n m x e h g = omega (arith, e, h, g)
drains laws falls c b from (suc n) done w z l s all less = subst (λ ns. Outcome c b from done w z 0 (Drained b z) (elim ns as (λ x. Made) [ [] ↦ tell [] w | k ∷ ks ↦ then_step (deliver k w) (drain from n) ])) (sym l.is_by.waiting_is) (by l.is_by.waiting refl (λ done w z l s all less. drains laws falls c b from n done w z l s all less))
  where
    by : (ks : List ℕ) → l.is_by.waiting ≡ ks → ((done : ℕ) (w : World) (z : Alone) → IsLonely c b from done w z → Stands b none_later z → AllQueued b z → load b z ≤ n → Outcome c b from done w z 0 (Drained b z) (drain from n w))
        → Outcome c b from done w z 0 (Drained b z) (elim ks as (λ x. Made) [ [] ↦ tell [] w | k ∷ ks ↦ then_step (deliver k w) (drain from n) ])
    by [] e rest = comes_none c b from done w z (Drained b z) l s (onward_none b z, nothing_waits w.wire z.wire (subst (λ ks. ArePosted w.wire ks z.wire) e l.is_by.posted))
    by (k ∷ ks) e rest =
        let f : (p : Packet) × ((ps : List Packet) × (z.wire ≡ p ∷ ps)) = first_waits w.wire k ks z.wire (subst (λ ns. ArePosted w.wire ns z.wire) e l.is_by.posted) in
        then_comes c b from done w z 0 0 (Falls b z) (Drained b z) (deliver k w) (drain from n) (delivers laws falls c b from done w z k ks f.0 f.1.0 l s all e f.1.1)
        (λ x. comes_also c b from (done + deliveries_in (deliver k w).facts) (deliver k w).world x.to 0 0 (Drained b x.to) (Drained b z) (drain from n (deliver k w).world) (omega arith)
        (λ y. (onward_both b z x.to y.to x.also_is.0 y.also_is.0, y.also_is.1))
        (rest (done + deliveries_in (deliver k w).facts) (deliver k w).world x.to x.lonely x.stands (queued_onward b z x.to x.also_is.0 all) (lower (load b x.to) (load b z) n x.also_is.1 less)))
      where
        lower : (x y n : ℕ) → x + 1 ≤ y → y ≤ suc n → x ≤ n
        lower x y n h k = omega (arith, h, k)
