-- How a settling ends: node 1 goes down, and `settled` is told.
use Rattle.std.proofs.Common.{suc, ◌-◌, ap₂, ◌≡◌, ◌<◌, ◌≤◌, ◌⊎◌, inl, inr, ℕ, ◌+◌, List, [], ◌∷◌, ◌++◌, sym, ap, subst, ◌∙◌, refl, true, false, true≢false, arith}
use Rattle.std.specs.Prelude.{Bool, ◌||◌, not, nat_lt, filter, fold, Option, Some, None, is_none, is_some, slice_index_or, slice_set, if◌then◌else◌}
use Rattle.std.specs.List.{list_all, list_any}
use Rattle.std.proofs.lemmas.List.{append-nil, append_assoc}
use Rattle.yard_model.specs.declared.fact.Fact.{Fact}
use Rattle.yard_model.specs.declared.fact.Fact.TheVariants as fact
use Rattle.yard_model.specs.declared.incarnation.Incarnation.{Incarnation}
use Rattle.yard_model.specs.declared.incarnation.Slot.{Slot}
use Rattle.yard_model.specs.Genuine.{is_slot_of}
use Rattle.yard_model.specs.Lawful.{lawful}
use Rattle.yard_model.specs.Node.{Node, crash}
use Rattle.yard_model.specs.Producer.{Producer}
use Rattle.yard_model.specs.Safe.{one_live}
use Rattle.yard_model.specs.Script.{Script, setting}
use Rattle.yard_model.specs.Setting.{producers, shard_of}
use Rattle.yard_model.specs.SlotLists.{SlotLists, shard_list, queue_list}
use Rattle.yard_model.specs.SlotReads.{holder, journal, position, queued, confirmed, queued_in_all}
use Rattle.yard_model.specs.Trace.{lists_step, list_at, lists_of}
use Rattle.yard_model.specs.Words.{at, is_empty}
use Rattle.yard_model.specs.World.{World, Made, Step, ordered_of, is_any_up, world_after, full_step, go_down, go_down_by, is_unsettled, settle_end, in_order, then_step, tell}
use Rattle.plain_laws.proofs.Booleans.{and_both}
use Rattle.plain_laws.proofs.Lists.{none_is_not_some, placed_at, placed_beside, by_place, inside}
use Rattle.yard_laws.proofs.SafetyLaws.{guarded_is_safe_now}
use Rattle.actor_laws.proofs.EntitiesMoves.{some_of}
use Rattle.node_laws.specs.Cluster.{IsCluster, IsHeldBy}
use Rattle.play_laws.proofs.Handled.{lists_on}
use Rattle.play_laws.proofs.Orders.{nodes_freed}
use Rattle.play_laws.proofs.Steps.{is_freed, AreFreed, freed_still, crash_frees}
use Rattle.play_laws.proofs.Turned.{is_still, set_still, lists_still}
use Rattle.settle_laws.specs.Alone.{Base, Alone, node_with, queued_by, confirmed_by, producer_at, Each, Stands, none_later, load}
use Rattle.settle_laws.specs.Lonely.{ArePosted, IsLonely, is_got, deliveries_in, is_settled_fact, IsLonger, IsFull, Comes, Outcome}
use Rattle.settle_laws.specs.Settles.{IsUnheld}
use Rattle.settle_laws.specs.Steps.{IsSettledPair}
use Rattle.settle_laws.proofs.Beginning.{Early, Goes}
use Rattle.settle_laws.proofs.Longer.{SameReads, freed_same, facts_longer, longer_both}
use Rattle.settle_laws.proofs.Lonely.{none_waits}
use Rattle.settle_laws.proofs.Loop.{AllOrdered, Ended, left_is}
use Rattle.settle_laws.proofs.One.{Rests, queue_is, recorded_is, then_stops, then_goes, none_both, none_counted, deliveries_both}
use Rattle.settle_laws.proofs.Settling.{settled_pairs}

-- The end.

-- in these lists the pair is settled
abbrev pub IsSettledIn : Script → Base → SlotLists → ℕ → List ℕ → Type 0
IsSettledIn c b lists p e = (queued e (queue_list lists p) ≡ b.made p e) × (position p (journal e (shard_list lists (shard_of (setting c) e))) ≡ b.made p e) × (confirmed e (queue_list lists p) ≡ b.made p e)

pub record Ends (c : Script) (b : Base) (w : World) (n : ℕ) (m : Made) : Type 0 where
  pub not_full : m.world.full ≡ false
  pub counted : deliveries_in m.facts ≤ n
  pub front : List Fact
  pub ends : m.facts ≡ front ++ fact.Settled ∷ []
  pub once : list_any is_settled_fact front ≡ false
  pub pairs : Each (λ p. Each (IsSettledIn c b m.world.lists p) b.set.names) (producers b.set)
  pub all_queued : Each (λ p. queued_in_all (queue_list m.world.lists p) ≡ slice_index_or b.ordered (p - 1) 0) (producers b.set)
  pub lawful_is : lawful c m.world.lists ≡ true
  pub none_up : is_any_up m.world ≡ false
  pub unheld : IsUnheld c m.world.lists
  pub longer : IsLonger w.lists m.world.lists

abbrev pub Final : Script → Base → World → ℕ → ℕ → Made → Type 0
Final c b w before n m = IsFull w.limit before n m ⊎ Ends c b w n m

-- Slots that are freed, as the world tells it.

record Freed (w v : World) (fs : List Fact) : Type 0 where
  lists_are : v.lists ≡ fold (lists_step w.set) w.lists fs
  full_is : v.full ≡ w.full

freed_full : (old : Bool) (f : Fact) → is_freed f ≡ true → full_step old f ≡ old
freed_full old (fact.Freed s n why) h = refl
freed_full old f h = absurd (true≢false (sym h))

freed_world : (fs : List Fact) (w : World) → AreFreed fs → Freed w (fold world_after w fs) fs
freed_world [] w h = record { lists_are = refl; full_is = refl }
freed_world (f ∷ fs) w h =
    let m : (is_freed f ≡ true) × AreFreed fs = and_both (is_freed f) (list_all is_freed fs) h in
    let still : is_still f ≡ true = freed_still f m.0 in
    let r : Freed (world_after w f) (fold world_after (world_after w f) fs) fs = freed_world fs (world_after w f) m.1 in
    record { lists_are = r.lists_are ∙ ap₂ (λ x l. fold (lists_step x) l fs) (set_still w.set f still) (lists_still w.set w.lists f still); full_is = r.full_is ∙ freed_full w.full f m.0 }

none_freed : (q : Fact → Bool) → ((f : Fact) → is_freed f ≡ true → q f ≡ false) → (fs : List Fact) → AreFreed fs → list_any q fs ≡ false
none_freed q none [] h = refl
none_freed q none (f ∷ fs) h =
    let m : (is_freed f ≡ true) × AreFreed fs = and_both (is_freed f) (list_all is_freed fs) h in
    ap (λ t. t || list_any q fs) (none f m.0) ∙ none_freed q none fs m.1

not_got : (f : Fact) → is_freed f ≡ true → is_got f ≡ false
not_got (fact.Freed s n why) h = refl
not_got f h = absurd (true≢false (sym h))

not_settled : (f : Fact) → is_freed f ≡ true → is_settled_fact f ≡ false
not_settled (fact.Freed s n why) h = refl
not_settled f h = absurd (true≢false (sym h))

-- where there is none at any place, none is up
nobody_up : (xs : List (Option Node)) → ((k : ℕ) (y : Node) → at xs k ≡ Some y → ⊥) → list_any is_some xs ≡ false
nobody_up [] h = refl
nobody_up (None ∷ xs) h = nobody_up xs (λ k y e. h (suc k) y e)
nobody_up (Some x ∷ xs) h = absurd (h 0 x refl)

-- Node 1 goes down.

pub ends : Rests → (c : Script) (b : Base) (from done : ℕ) (w : World) (z : Alone) (n : ℕ) → IsLonely c b from done w z → Stands b none_later z → Ended b z w → AllOrdered b w → Final c b w (from + done) n (in_order (settle_end from ∷ []) w)
ends laws c b from done w z n l s e ordered = subst (Final c b w (from + done) n) (sym steps_are) (inr (record {
  not_full = freed.full_is ∙ l.is_by.not_full;
  counted = least (deliveries_in (front ++ fact.Settled ∷ [])) n (deliveries_both front (fact.Settled ∷ []) ∙ ap (λ k. k + 0) (none_counted is_got front (none_freed is_got not_got (crash st) (crash_frees st))));
  front = front;
  ends = refl;
  once = none_freed is_settled_fact not_settled (crash st) (crash_frees st);
  pairs = along (producers b.set) e.held (settled_pairs b z s e.all_queued e.none_left);
  all_queued = in_order_all (producers b.set) ordered;
  lawful_is = ap (lawful c) lists_end ∙ (and_both (list_all (one_live c trace) (setting c).names) (lawful c (lists_of (setting c) trace)) (guarded_is_safe_now c trace cluster.guarded_are)).1;
  none_up = ap (list_any is_some) nodes_end ∙ nobody_up (slice_set w.nodes 0 None) nobody;
  unheld = λ t there. by_holder t there (holder (list_at v.lists t)) refl;
  longer = subst (IsLonger w.lists) (sym freed.lists_are) (facts_longer w.set (crash st) w.lists);
}))
  where
    st : Node
    st = node_with b z

    front : List Fact
    front = fact.Gone st.who ∷ crash st

    w1 : World
    w1 = world_after w (fact.Gone st.who)

    v : World
    v = fold world_after w1 (crash st)

    freed : Freed w1 v (crash st)
    freed = freed_world (crash st) w1 (crash_frees st)

    least : (d n : ℕ) → d ≡ 0 → d ≤ n
    least d n e = omega (arith, e)

    trace : List Fact
    trace = l.known.trace ++ front

    cluster : IsCluster c trace (slice_set w.nodes 0 None)
    cluster = laws.loses c l.known.trace w.nodes 0 st l.known.cluster l.is_by.is_up

    lists_end : v.lists ≡ lists_of (setting c) trace
    lists_end = freed.lists_are ∙ (ap₂ (λ x y. fold (lists_step x) y (crash st)) l.known.set_is l.known.lists_are ∙ lists_on c l.known.trace front)

    nobody : (k : ℕ) (y : Node) → at (slice_set w.nodes 0 None) k ≡ Some y → ⊥
    nobody k y here = by_place ⊥ k 0
        (λ same. none_is_not_some y (sym (placed_at w.nodes 0 None (inside w.nodes 0 st l.is_by.is_up)) ∙ (ap (at (slice_set w.nodes 0 None)) (sym same) ∙ here)))
        (λ other. other (l.is_by.others k y (sym (placed_beside w.nodes 0 k None other) ∙ here)))

    nodes_end : v.nodes ≡ slice_set w.nodes 0 None
    nodes_end = nodes_freed (crash st) w1 (crash_frees st) ∙ ap (λ n. slice_set w.nodes (n - 1) None) (l.is_by.node_is)

    by_holder : (t : Slot) → is_slot_of c t ≡ true → (o : Option Incarnation) → holder (list_at v.lists t) ≡ o → holder (list_at v.lists t) ≡ None
    by_holder t there None h = h
    by_holder t there (Some x) h =
        let k : IsHeldBy (slice_set w.nodes 0 None) t x = cluster.held t x there (ap (λ y. holder (list_at y t)) (sym lists_end) ∙ h) in
        absurd (nobody k.place k.st k.here)

    reads : SameReads w.lists v.lists
    reads = subst (SameReads w.lists) (sym freed.lists_are) (freed_same w.set (crash st) w.lists (crash_frees st))

    one : (p : ℕ) (f : List ℕ) → 0 < p → is_none (producer_at z.producers p) ≡ false → IsSettledPair b z p f → IsSettledIn c b v.lists p f
    one p f above held h =
        let k : (k : Producer) × (producer_at z.producers p ≡ Some k) = some_of (producer_at z.producers p) (ap not held) in
        let list : queue_list w.lists p ≡ k.0.entries = queue_is c w st l.known l.is_by.is_up p k.0 above k.1 in (
          reads.queued_are p f ∙ (ap (queued f) list ∙ (sym (ap (queued_by f) k.1) ∙ h.0)),
          ap (position p) (reads.journals_are (shard_of (setting c) f) f) ∙ (sym (recorded_is c b w z l.known l.is_by.is_up l.agrees p f ∙ ap (λ x. position p (journal f (shard_list w.lists (shard_of x f)))) l.base_is) ∙ h.1),
          reads.confirmed_are p f ∙ (ap (confirmed f) list ∙ (sym (ap (confirmed_by f) k.1) ∙ h.2)),
        )

    names : (p : ℕ) (es : List (List ℕ)) → 0 < p → is_none (producer_at z.producers p) ≡ false → Each (IsSettledPair b z p) es → Each (IsSettledIn c b v.lists p) es
    names p [] above held h = tt
    names p (f ∷ fs) above held h = (one p f above held h.0, names p fs above held h.1)

    along : (ps : List ℕ) → Each (λ p. (0 < p) × (is_none (producer_at z.producers p) ≡ false)) ps → Each (λ p. Each (IsSettledPair b z p) b.set.names) ps → Each (λ p. Each (IsSettledIn c b v.lists p) b.set.names) ps
    along [] a h = tt
    along (p ∷ ps) a h = (names p b.set.names a.0.0 a.0.1 h.0, along ps a.1 h.1)

    in_order_all : (ps : List ℕ) → Each (λ p. queued_in_all (queue_list w.lists p) ≡ ordered_of w p) ps → Each (λ p. queued_in_all (queue_list v.lists p) ≡ slice_index_or b.ordered (p - 1) 0) ps
    in_order_all [] h = tt
    in_order_all (p ∷ ps) h = (reads.in_all p ∙ (h.0 ∙ ap (λ ls. slice_index_or ls (p - 1) 0) l.ordered_is), in_order_all ps h.1)

    settled_it : is_unsettled from w ≡ false
    settled_it = ap (λ t. t || not (is_empty (filter (nat_lt from) w.fresh))) (left_is c b from done w z l e.held ordered ∙ e.none_left)
        ∙ ap (λ ks. not (is_empty ks)) (l.is_by.waiting_is ∙ none_waits w.wire l.is_by.waiting (subst (ArePosted w.wire l.is_by.waiting) e.empty l.is_by.posted))

    tells : Step
    tells = tell (fact.Settled ∷ [])

    downs : Made
    downs = tell front w

    tell_it : then_step (tells v) (in_order []) ≡ record { facts = fact.Settled ∷ []; world = world_after v fact.Settled }
    tell_it = then_goes (tells v) (in_order []) (freed.full_is ∙ l.is_by.not_full)

    down_it : in_order (go_down 1 ∷ tells ∷ []) w ≡ record { facts = front ++ fact.Settled ∷ []; world = world_after v fact.Settled }
    down_it = ap (λ o. then_step (go_down_by o w) (in_order (tells ∷ []))) l.is_by.is_up ∙ (then_goes downs (in_order (tells ∷ [])) (freed.full_is ∙ l.is_by.not_full) ∙ ap (λ (m : Made). record { facts = front ++ m.facts; world = m.world }) tell_it)

    steps_are : in_order (settle_end from ∷ []) w ≡ record { facts = front ++ fact.Settled ∷ []; world = world_after v fact.Settled }
    steps_are = ap (λ t. then_step (if t then tell [] w else in_order (go_down 1 ∷ tells ∷ []) w) (in_order [])) settled_it
        ∙ (ap (λ m. then_step m (in_order [])) down_it ∙ (then_goes (record { facts = front ++ fact.Settled ∷ []; world = world_after v fact.Settled }) (in_order []) (freed.full_is ∙ l.is_by.not_full) ∙ ap (λ fs. record { facts = fs; world = world_after v fact.Settled }) (append-nil (front ++ fact.Settled ∷ []))))

-- Steps before it.

pub final_outcome : (c : Script) (b : Base) (from done : ℕ) (w : World) (z : Alone) (cost more : ℕ) (also : Alone → World → Type 0) (m : Made) (q : Step) → Outcome c b from done w z cost also m
    → ((x : Comes c b from done w z cost also m) → Final c b m.world (from + (done + deliveries_in m.facts)) (load b x.to + more) (q m.world)) → Final c b w (from + done) (load b z + (cost + more)) (then_step m q)
final_outcome c b from done w z cost more also m q (inl f) rest = inl (subst (IsFull w.limit (from + done) (load b z + (cost + more))) (sym (then_stops m q f.full)) (record { full = f.full; counted = up (deliveries_in m.facts) (load b z) cost more f.counted; unsettled = f.unsettled; over = past w.limit (from + done) (load b z) cost more f.over }))
  where
    up : (d x a n : ℕ) → d ≤ x + a → d ≤ x + (a + n)
    up d x a n h = omega (arith, h)

    past : (m f x a n : ℕ) → m < f + (x + a) → m < f + (x + (a + n))
    past m f x a n h = omega (arith, h)
final_outcome c b from done w z cost more also m q (inr x) rest = by (rest x)
  where
    n : Made
    n = q m.world

    both : (t d e x y a k : ℕ) → t ≡ d + e → d + y ≤ x + a → e ≤ y + k → t ≤ x + (a + k)
    both t d e x y a k g h j = omega (arith, g, h, j)

    past : (m v f g d x y a k : ℕ) → v ≡ m → v < f + (g + d) + (y + k) → d + y ≤ x + a → m < f + g + (x + (a + k))
    past m v f g d x y a k e h j = omega (arith, e, h, j)

    by : Final c b m.world (from + (done + deliveries_in m.facts)) (load b x.to + more) n → Final c b w (from + done) (load b z + (cost + more)) (then_step m q)
    by (inl f) = inl (subst (IsFull w.limit (from + done) (load b z + (cost + more))) (sym (then_goes m q x.lonely.is_by.not_full)) (record {
      full = f.full;
      counted = both (deliveries_in (m.facts ++ n.facts)) (deliveries_in m.facts) (deliveries_in n.facts) (load b z) (load b x.to) cost more (deliveries_both m.facts n.facts) x.counted f.counted;
      unsettled = none_both is_settled_fact m.facts n.facts x.unsettled f.unsettled;
      over = past w.limit m.world.limit from done (deliveries_in m.facts) (load b z) (load b x.to) cost more x.limit_is f.over x.counted;
    }))
    by (inr e) = inr (subst (Ends c b w (load b z + (cost + more))) (sym (then_goes m q x.lonely.is_by.not_full)) (record {
      not_full = e.not_full;
      counted = both (deliveries_in (m.facts ++ n.facts)) (deliveries_in m.facts) (deliveries_in n.facts) (load b z) (load b x.to) cost more (deliveries_both m.facts n.facts) x.counted e.counted;
      front = m.facts ++ e.front;
      ends = ap (λ fs. m.facts ++ fs) e.ends ∙ sym (append_assoc m.facts e.front (fact.Settled ∷ []));
      once = none_both is_settled_fact m.facts e.front x.unsettled e.once;
      pairs = e.pairs;
      all_queued = e.all_queued;
      lawful_is = e.lawful_is;
      none_up = e.none_up;
      unheld = e.unheld;
      longer = longer_both w.lists m.world.lists n.world.lists x.longer e.longer;
    }))

pub final_goes : (P : World → Type 0) (c : Script) (b : Base) (w : World) (before most j n total : ℕ) (m : Made) (q : Step) → Goes P w before most j m → most ≤ total → j + n ≤ total → ((y : Early P w j m) → m.world.full ≡ false)
    → ((y : Early P w j m) → Final c b m.world (before + j) n (q m.world)) → Final c b w before total (then_step m q)
final_goes P c b w before most j n total m q (inl f) less fits fresh rest = inl (subst (IsFull w.limit before total) (sym (then_stops m q f.full)) (record { full = f.full; counted = up (deliveries_in m.facts) most total f.counted less; unsettled = f.unsettled; over = past w.limit before most total f.over less }))
  where
    up : (d x n : ℕ) → d ≤ x → x ≤ n → d ≤ n
    up d x n h k = omega (arith, h, k)

    past : (m f x n : ℕ) → m < f + x → x ≤ n → m < f + n
    past m f x n h k = omega (arith, h, k)
final_goes P c b w before most j n total m q (inr y) less fits fresh rest = by (rest y)
  where
    r : Made
    r = q m.world

    both : (t d e j n k : ℕ) → t ≡ d + e → d ≡ j → e ≤ n → j + n ≤ k → t ≤ k
    both t d e j n k g h i f = omega (arith, g, h, i, f)

    past : (m v f j n k : ℕ) → v ≡ m → v < f + j + n → j + n ≤ k → m < f + k
    past m v f j n k e h i = omega (arith, e, h, i)

    by : Final c b m.world (before + j) n r → Final c b w before total (then_step m q)
    by (inl f) = inl (subst (IsFull w.limit before total) (sym (then_goes m q (fresh y))) (record {
      full = f.full;
      counted = both (deliveries_in (m.facts ++ r.facts)) (deliveries_in m.facts) (deliveries_in r.facts) j n total (deliveries_both m.facts r.facts) y.counted f.counted fits;
      unsettled = none_both is_settled_fact m.facts r.facts y.unsettled f.unsettled;
      over = past w.limit m.world.limit before j n total y.limit_is f.over fits;
    }))
    by (inr e) = inr (subst (Ends c b w total) (sym (then_goes m q (fresh y))) (record {
      not_full = e.not_full;
      counted = both (deliveries_in (m.facts ++ r.facts)) (deliveries_in m.facts) (deliveries_in r.facts) j n total (deliveries_both m.facts r.facts) y.counted e.counted fits;
      front = m.facts ++ e.front;
      ends = ap (λ fs. m.facts ++ fs) e.ends ∙ sym (append_assoc m.facts e.front (fact.Settled ∷ []));
      once = none_both is_settled_fact m.facts e.front y.unsettled e.once;
      pairs = e.pairs;
      all_queued = e.all_queued;
      lawful_is = e.lawful_is;
      none_up = e.none_up;
      unheld = e.unheld;
      longer = longer_both w.lists m.world.lists r.world.lists y.longer e.longer;
    }))
