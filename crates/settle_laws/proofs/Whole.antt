-- From a world in which no node is up: node 1 comes up, takes every queue, and settles.
use Rattle.std.proofs.Common.{◌≡◌, ◌<◌, ◌≤◌, inl, inr, ℕ, zero, suc, ◌+◌, ◌-◌, ◌*◌, List, [], ◌∷◌, length, map, sym, ap, subst, ◌∙◌, refl, true, false, arith}
use Rattle.std.specs.Prelude.{Bool, nat_lt, nat_le, take, sum_by, None, is_none, slice_index_or}
use Rattle.std.specs.List.{list_all}
use Rattle.yard_model.specs.Genuine.{is_producer}
use Rattle.yard_model.specs.Script.{Script, setting, count_to, sends}
use Rattle.yard_model.specs.Setting.{producers}
use Rattle.yard_model.specs.SlotLists.{queue_list}
use Rattle.yard_model.specs.SlotReads.{confirmed, queued_in_all}
use Rattle.yard_model.specs.Words.{numbers}
use Rattle.yard_model.specs.World as world
use Rattle.yard_model.specs.World.{World, Made, Step, come_up, drain, ordered_of, settle_end, tick_while_left, in_order, then_step}
use Rattle.std.proofs.lemmas.Bool.Decides.{nat_tests}
use Rattle.plain_laws.proofs.Booleans.{and_both, both, below, not_below, get_replicate}
use Rattle.play_laws.proofs.Orders.{producers_are}
use Rattle.settle_laws.specs.Alone.{Base, Alone, queued_by, confirmed_by, producer_at, Each, load}
use Rattle.settle_laws.specs.Begun.{beginning, Begins}
use Rattle.settle_laws.specs.Lonely.{deliveries_in}
use Rattle.settle_laws.specs.Steps.{Onward, AllQueued, DeliveryFalls, TickCosts, out_by, outs_at, all_outs}
use Rattle.settle_laws.proofs.Again.{sum_same}
use Rattle.settle_laws.proofs.Begin.{node_begins}
use Rattle.settle_laws.proofs.Beginning.{IsEmpty, base_of, IsBegun, ComesUp, can_begin, comes_up, drain_begins}
use Rattle.settle_laws.proofs.Counts.{queue_reads, as_many}
use Rattle.settle_laws.proofs.Drains.{Drained, drains}
use Rattle.settle_laws.proofs.Ending.{Final, ends, final_outcome, final_goes}
use Rattle.settle_laws.proofs.Loop.{AllHeld, Ended, Tells, rounds_cost, loops}
use Rattle.settle_laws.proofs.One.{Rests}
use Rattle.settle_laws.proofs.Producing.{Waits, TakenAll, takes_all, known_queue, queued_reads}
use Rattle.settle_laws.proofs.Records.{le_then}
use Rattle.settle_laws.proofs.Settling.{queued_onward}

-- what is queued was ordered, and what was ordered is the script's
pub record IsOrdered (c : Script) (w : World) : Type 0 where
  pub queued_ordered : (p : ℕ) → is_producer c p ≡ true → queued_in_all (queue_list w.lists p) ≤ ordered_of w p
  pub ordered_sent : (p : ℕ) → is_producer c p ≡ true → ordered_of w p ≤ length (sends c p)
  pub beyond : (p : ℕ) (e : List ℕ) → c.config.producers < p → count_to e (take (ordered_of w p) (sends c p)) ≡ 0

-- what is outstanding of a producer
abbrev pub out_of : Script → World → ℕ → ℕ
out_of c w p = ordered_of w p - sum_by (λ e. confirmed e (queue_list w.lists p)) (setting c).names

abbrev pub outs_of : Script → World → ℕ
outs_of c w = sum_by (out_of c w) (producers (setting c))

abbrev pub most_of : Script → World → ℕ
most_of c w = 24 * outs_of c w + 18 * c.config.shards + length (setting c).names + 3

-- producers within a script
pub producer_in : (c : Script) (p : ℕ) → 1 ≤ p → p < 1 + c.config.producers → is_producer c p ≡ true
producer_in c p low high = both (nat_le 1 p) (nat_le p c.config.producers) (is_least 1 p low) (is_least p c.config.producers (within p c.config.producers high))
  where
    is_least : (a m : ℕ) → a ≤ m → nat_le a m ≡ true
    is_least a m h = grind (arith, nat_tests, h)

    within : (p n : ℕ) → p < 1 + n → p ≤ n
    within p n h = omega (arith, h)

-- the budget is more than three
pub three_less : (n : ℕ) → 3 ≤ n → (k : ℕ) × (n ≡ suc (suc (suc k)))
three_less zero h = absurd (no h)
  where
    no : 3 ≤ 0 → ⊥
    no h = omega (arith, h)
three_less (suc zero) h = absurd (no h)
  where
    no : 3 ≤ 1 → ⊥
    no h = omega (arith, h)
three_less (suc (suc zero)) h = absurd (no h)
  where
    no : 3 ≤ 2 → ⊥
    no h = omega (arith, h)
three_less (suc (suc (suc k))) h = (k, refl)

final_more : (c : Script) (b : Base) (w : World) (before n more : ℕ) (m : Made) → n ≤ more → Final c b w before n m → Final c b w before more m
final_more c b w before n more m less (inl f) = inl (record { full = f.full; counted = le_then (deliveries_in m.facts) n more f.counted less; unsettled = f.unsettled; over = past w.limit before n more f.over less })
  where
    past : (m f x n : ℕ) → m < f + x → x ≤ n → m < f + n
    past m f x n h k = omega (arith, h, k)
final_more c b w before n more m less (inr e) = inr (record { not_full = e.not_full; counted = le_then (deliveries_in m.facts) n more e.counted less; front = e.front; ends = e.ends; once = e.once; pairs = e.pairs; all_queued = e.all_queued; lawful_is = e.lawful_is; none_up = e.none_up; unheld = e.unheld; longer = e.longer })

-- what is queued says how many of the sends are
tells_all : Rests → (c : Script) (w : World) (from : ℕ) → IsOrdered c w → Tells c (base_of c w) from
tells_all laws c w from o done v z l all held = along (producers (setting c)) (producers_are c) held
  where
    one : (p : ℕ) → is_producer c p ≡ true → 0 < p → is_none (producer_at z.producers p) ≡ false → queued_in_all (queue_list v.lists p) ≡ ordered_of v p
    one p is above some =
        let same : ordered_of v p ≡ ordered_of w p = ap (λ ls. slice_index_or ls (p - 1) 0) l.ordered_is in
        as_many (sends c p) (queued_in_all (queue_list v.lists p)) (ordered_of w p) (queue_reads laws.sendings c p (queue_list v.lists p) (known_queue c v l.known p is)).within (o.ordered_sent p is)
        (λ f. sym (queued_reads laws c (base_of c w) from done v z l p is some f) ∙ all p f above) ∙ sym same

    along : (ps : List ℕ) → list_all (is_producer c) ps ≡ true → Each (λ p. (0 < p) × (is_none (producer_at z.producers p) ≡ false)) ps → Each (λ p. queued_in_all (queue_list v.lists p) ≡ ordered_of v p) ps
    along [] is h = tt
    along (p ∷ ps) is h =
        let m : (is_producer c p ≡ true) × (list_all (is_producer c) ps ≡ true) = and_both (is_producer c p) (list_all (is_producer c) ps) is in
        (one p m.0 h.0.0 h.0.1, along ps m.1 h.1)

abbrev pub after_up : Script → ℕ → ℕ → List Step
after_up c from bound = drain from bound ∷ in_order (map (λ p. world.produce p 1) (producers (setting c))) ∷ drain from bound ∷ tick_while_left from bound bound ∷ settle_end from ∷ []

-- once it has begun
begun_settles : Rests → DeliveryFalls → TickCosts → (c : Script) (w w3 : World) (from k : ℕ) (e : IsEmpty c w) → IsOrdered c w → most_of c w ≤ suc (suc (suc k)) → IsBegun c (base_of c w) from w3
    → Final c (base_of c w) w3 (from + 3) (24 * outs_of c w + 18 * c.config.shards + length (setting c).names) (in_order (in_order (map (λ p. world.produce p 1) (producers (setting c))) ∷ drain from (suc (suc (suc k))) ∷ tick_while_left from (suc (suc (suc k))) (suc (suc (suc k))) ∷ settle_end from ∷ []) w3)
begun_settles laws falls ticks c w w3 from k e o fits begun =
    final_more c b w3 (from + 3) (load b (beginning b) + (6 * outs + (0 + (rounds_cost b outs 3 + 0)))) (24 * outs + 18 * c.config.shards + length (setting c).names) _ (whole (load b (beginning b)) outs c.config.shards (length (setting c).names) begins.loads)
    (final_outcome c b from 3 w3 (beginning b) (6 * outs) (0 + (rounds_cost b outs 3 + 0)) (TakenAll b (beginning b) 1 n outs) taking (in_order (drain from bound ∷ tick_while_left from bound bound ∷ settle_end from ∷ []))
    (takes_all laws c b from (ordered_of w) (out_of c w) n 1 3 w3 (beginning b) begun.0 begins.stands (omega arith) (swap n) waits)
    (λ x.
    let all1 : AllQueued b x.to = queued_all x.to x.also_is.all_queued x.also_is.beside_are in
    let less1 : load b x.to ≤ bound = under (deliveries_in taking.facts) (load b x.to) (load b (beginning b)) outs c.config.shards (length (setting c).names) bound x.counted begins.loads fits in
    final_outcome c b from (3 + deliveries_in taking.facts) taking.world x.to 0 (rounds_cost b outs 3 + 0) (Drained b x.to) (drain from bound taking.world) (in_order (tick_while_left from bound bound ∷ settle_end from ∷ []))
    (drains laws falls c b from bound (3 + deliveries_in taking.facts) taking.world x.to x.lonely x.stands all1 less1)
    (λ y.
    let v : World = (drain from bound taking.world).world in
    let d : ℕ = 3 + deliveries_in taking.facts + deliveries_in (drain from bound taking.world).facts in
    final_outcome c b from d v y.to (rounds_cost b outs 3) 0 (Ended b) (tick_while_left from bound bound v) (in_order (settle_end from ∷ []))
    (loops laws falls ticks c b from bound k outs d v y.to tells y.lonely y.stands (queued_onward b x.to y.to y.also_is.0 all1) (held_on x.to y.to y.also_is.0 x.also_is.held_are) y.also_is.1
    (le_then (all_outs b y.to (producers b.set)) (all_outs b x.to (producers b.set)) outs (outs_fall x.to y.to y.also_is.0) x.also_is.outs_on)
    (rest_fits (deliveries_in taking.facts) (load b x.to) (deliveries_in (drain from bound taking.world).facts) (load b y.to) (load b (beginning b)) outs c.config.shards (length (setting c).names) bound x.counted y.counted begins.loads fits))
    (λ t. ends laws c b from (d + deliveries_in (tick_while_left from bound bound v).facts) (tick_while_left from bound bound v).world t.to (load b t.to + 0) t.lonely t.stands t.also_is
    (tells (d + deliveries_in (tick_while_left from bound bound v).facts) (tick_while_left from bound bound v).world t.to t.lonely t.also_is.all_queued t.also_is.held)))))
  where
    b : Base
    b = base_of c w

    n : ℕ
    n = c.config.producers

    outs : ℕ
    outs = outs_of c w

    bound : ℕ
    bound = suc (suc (suc k))

    taking : Made
    taking = in_order (map (λ p. world.produce p 1) (numbers 1 n)) w3

    begins : Begins b
    begins = node_begins c b (can_begin laws c w e)

    tells : Tells c b from
    tells = tells_all laws c w from o

    swap : (n : ℕ) → 1 + n ≤ n + 1
    swap n = omega arith

    whole : (l o s m : ℕ) → l ≤ m → l + (6 * o + (0 + (3 * (6 * s + 6 * o) + 0))) ≤ 24 * o + 18 * s + m
    whole l o s m h = omega (arith, h)

    under : (d x l o s m n : ℕ) → d + x ≤ l + 6 * o → l ≤ m → 24 * o + 18 * s + m + 3 ≤ n → x ≤ n
    under d x l o s m n h g f = omega (arith, h, g, f)

    rest_fits : (d x g y l o s m n : ℕ) → d + x ≤ l + 6 * o → g + y ≤ x + 0 → l ≤ m → 24 * o + 18 * s + m + 3 ≤ n → y + 3 * (6 * s + 6 * o) ≤ n
    rest_fits d x g y l o s m n h i j f = omega (arith, h, i, j, f)

    waits : (p : ℕ) → 1 ≤ p → p < 1 + n → Waits c b w3 (beginning b) p (ordered_of w p) (out_of c w p)
    waits p low high = record {
      none = get_replicate n (p - 1) None;
      ordered_is = ap (λ ls. slice_index_or ls (p - 1) 0) begun.0.ordered_is;
      made = λ f. refl;
      enough = o.ordered_sent p is;
      queued_ordered = subst (λ l. queued_in_all l ≤ ordered_of w p) (sym list) (o.queued_ordered p is);
      outstanding = subst (λ l. ordered_of w p ≤ sum_by (λ f. confirmed f l) (setting c).names + out_of c w p) (sym list) (most (ordered_of w p) (sum_by (λ f. confirmed f (queue_list w.lists p)) (setting c).names));
    }
      where
        is : is_producer c p ≡ true
        is = producer_in c p low high

        list : queue_list w3.lists p ≡ queue_list w.lists p
        list = ap (λ ls. slice_index_or ls (p - 1) []) begun.1

        most : (o s : ℕ) → o ≤ s + (o - s)
        most o s = omega arith

    queued_all : (to : Alone) → ((p : ℕ) (f : List ℕ) → 1 ≤ p → p < 1 + n → queued_by f (producer_at to.producers p) ≡ b.made p f) → ((r : ℕ) → 0 < r → (1 ≤ r → 1 + n ≤ r) → producer_at to.producers r ≡ producer_at (beginning b).producers r) → AllQueued b to
    queued_all to all beside p f above = by (nat_lt n p) refl
      where
        first : (p : ℕ) → 0 < p → 1 ≤ p
        first p h = omega (arith, h)

        inside_end : (n p : ℕ) → p ≤ n → p < 1 + n
        inside_end n p h = omega (arith, h)

        past : (n p : ℕ) → n < p → 1 + n ≤ p
        past n p h = omega (arith, h)

        by : (t : Bool) → nat_lt n p ≡ t → queued_by f (producer_at to.producers p) ≡ b.made p f
        by true h = ap (queued_by f) (beside p above (λ g. past n p (below n p h)) ∙ get_replicate n (p - 1) None) ∙ sym (o.beyond p f (below n p h))
        by false h = all p f (first p above) (inside_end n p (not_below n p h))

    held_on : (x y : Alone) → Onward b x y → AllHeld b x → AllHeld b y
    held_on x y on = along (producers b.set)
      where
        along : (ps : List ℕ) → Each (λ p. (0 < p) × (is_none (producer_at x.producers p) ≡ false)) ps → Each (λ p. (0 < p) × (is_none (producer_at y.producers p) ≡ false)) ps
        along [] h = tt
        along (p ∷ ps) h = ((h.0.0, on.holds_on p h.0.1), along ps h.1)

    outs_fall : (x y : Alone) → Onward b x y → all_outs b y (producers b.set) ≤ all_outs b x (producers b.set)
    outs_fall x y on = sum_same (λ p. outs_at x p b.set.names) (λ p. outs_at y p b.set.names) (producers b.set) (λ p. sum_same (λ f. out_by f (producer_at x.producers p)) (λ f. out_by f (producer_at y.producers p)) b.set.names
        (λ f. less_out (queued_by f (producer_at y.producers p)) (confirmed_by f (producer_at y.producers p)) (queued_by f (producer_at x.producers p)) (confirmed_by f (producer_at x.producers p)) (on.queued_on p f) (on.confirmed_on p f)))
      where
        less_out : (q c r d : ℕ) → q ≡ r → d ≤ c → q - c ≤ r - d
        less_out q c r d e h = omega (arith, e, h)

-- and whole
pub empty_settles : Rests → DeliveryFalls → TickCosts → (c : Script) (w : World) (bound : ℕ) → IsEmpty c w → IsOrdered c w → most_of c w ≤ bound
    → Final c (base_of c w) w (length w.wire) (most_of c w) (in_order (come_up 1 ∷ after_up c (length w.wire) bound) w)
empty_settles laws falls ticks c w bound e o fits = subst (λ n. Final c b w from (most_of c w) (in_order (come_up 1 ∷ after_up c from n) w)) (sym three.1) (by three.0 (subst (λ n. most_of c w ≤ n) three.1 fits))
  where
    b : Base
    b = base_of c w

    from : ℕ
    from = length w.wire

    three : (k : ℕ) × (bound ≡ suc (suc (suc k)))
    three = three_less bound (least (24 * outs_of c w + 18 * c.config.shards + length (setting c).names) bound fits)
      where
        least : (x n : ℕ) → x + 3 ≤ n → 3 ≤ n
        least x n h = omega (arith, h)

    by : (k : ℕ) → most_of c w ≤ suc (suc (suc k)) → Final c b w from (most_of c w) (in_order (come_up 1 ∷ after_up c from (suc (suc (suc k)))) w)
    by k fits = final_goes (ComesUp c w) c b w from 1 0 (most_of c w) (most_of c w) (come_up 1 w) (in_order (after_up c from bound3)) (comes_up laws c w e) (one rest_n) (none (most_of c w)) (λ y. y.so_far.is_by.not_full)
        (λ y.
        let v : World = (come_up 1 w).world in
        final_goes (IsBegun c b from) c b v (from + 0) 3 3 rest_n (most_of c w) (drain from bound3 v) (in_order rest) (drain_begins laws c w v from k e y.so_far.is_by y.so_far.known y.so_far.lists_are y.ordered_is) (three_of rest_n) (turned rest_n) (λ t. t.so_far.0.is_by.not_full)
        (λ t. subst (λ f. Final c b (drain from bound3 v).world f rest_n (in_order rest (drain from bound3 v).world)) (plus_none from) (begun_settles laws falls ticks c w (drain from bound3 v).world from k e o fits t.so_far)))
      where
        bound3 : ℕ
        bound3 = suc (suc (suc k))

        rest : List Step
        rest = in_order (map (λ p. world.produce p 1) (producers (setting c))) ∷ drain from bound3 ∷ tick_while_left from bound3 bound3 ∷ settle_end from ∷ []

        rest_n : ℕ
        rest_n = 24 * outs_of c w + 18 * c.config.shards + length (setting c).names

        one : (n : ℕ) → 1 ≤ n + 3
        one n = omega arith

        none : (n : ℕ) → 0 + n ≤ n
        none n = omega arith

        three_of : (n : ℕ) → 3 ≤ n + 3
        three_of n = omega arith

        turned : (n : ℕ) → 3 + n ≤ n + 3
        turned n = omega arith

        plus_none : (f : ℕ) → f + 3 ≡ f + 0 + 3
        plus_none f = omega arith
