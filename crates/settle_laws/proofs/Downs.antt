-- Every node goes down: what is posted and read stays.
use Rattle.std.proofs.Common.{ap₂, ◌≡◌, ◌<◌, ◌≤◌, ℕ, zero, suc, ◌+◌, ◌-◌, List, [], ◌∷◌, ◌++◌, length, map, sym, ap, subst, ◌∙◌, refl, true, false, true≢false, arith}
use Rattle.std.specs.Prelude.{Bool, ◌||◌, nat_le, nat_lt, cond, filter, take, sum_by, Option, Some, None, slice_index_or}
use Rattle.std.specs.List.{list_all, list_any}
use Rattle.std.proofs.lemmas.List.Sums.{sum_by-cons}
use Rattle.yard_model.specs.declared.fact.Fact.{Fact}
use Rattle.yard_model.specs.declared.fact.Fact.TheVariants as fact
use Rattle.yard_model.specs.declared.incarnation.Incarnation.{Incarnation}
use Rattle.yard_model.specs.Genuine.{is_producer}
use Rattle.yard_model.specs.Node.{Node, crash}
use Rattle.yard_model.specs.Safe.{live_at}
use Rattle.yard_model.specs.Script.{Script, Setting, setting, count_to, sends}
use Rattle.yard_model.specs.Setting.{producers, shard_of}
use Rattle.yard_model.specs.SlotLists.{SlotLists, shard_list, queue_list}
use Rattle.yard_model.specs.SlotReads.{journal, position, queued, confirmed, queued_in_all}
use Rattle.yard_model.specs.Words.{at, numbers, is_among}
use Rattle.yard_model.specs.World.{World, Made, world_after, go_down, go_down_by, node_at, ordered_of, in_order, tell}
use Rattle.plain_laws.proofs.Booleans.{and_both, at_most, below, not_below}
use Rattle.plain_laws.proofs.Lists.{none_is_not_some, inside}
use Rattle.plain_laws.proofs.Members.{itself_is}
use Rattle.node_laws.specs.Members.{IsThere}
use Rattle.node_laws.specs.Cluster.{IsMember}
use Rattle.play_laws.specs.Sound.{Sound}
use Rattle.play_laws.proofs.Handled.{Laws}
use Rattle.play_laws.proofs.Orders.{downs_lead, all_lead, down_empties, downs_stay}
use Rattle.play_laws.proofs.Steps.{is_freed, AreFreed, crash_frees, go_down_leads}
use Rattle.settle_laws.specs.Lonely.{Known, is_got, is_settled_fact, IsLonger}
use Rattle.settle_laws.proofs.Beginning.{next_one}
use Rattle.settle_laws.proofs.Counts.{SendingsSame, queue_reads, count_more}
use Rattle.settle_laws.proofs.Longer.{SameReads, freed_same, longer_none, longer_both, facts_longer}
use Rattle.settle_laws.proofs.One.{then_goes, none_both, none_counted}
use Rattle.settle_laws.proofs.Producing.{known_queue, queues_long}
use Rattle.settle_laws.proofs.Records.{le_then}
use Rattle.settle_laws.proofs.Tops.{Downs, downs}
use Rattle.settle_laws.proofs.Whole.{IsOrdered, out_of, producer_in}

pub record Same (w : World) (m : Made) : Type 0 where
  pub wire_is : m.world.wire ≡ w.wire
  pub fresh_is : m.world.fresh ≡ w.fresh
  pub past_is : m.world.past ≡ w.past
  pub full_is : m.world.full ≡ w.full
  pub limit_is : m.world.limit ≡ w.limit
  pub ordered_is : m.world.ordered ≡ w.ordered
  pub reads : SameReads w.lists m.world.lists
  pub longer : IsLonger w.lists m.world.lists
  pub none_got : list_any is_got m.facts ≡ false
  pub unsettled : list_any is_settled_fact m.facts ≡ false

same_read : (a b d : SlotLists) → SameReads a b → SameReads b d → SameReads a d
same_read a b d f g = record { queued_are = λ p e. g.queued_are p e ∙ f.queued_are p e; confirmed_are = λ p e. g.confirmed_are p e ∙ f.confirmed_are p e; in_all = λ p. g.in_all p ∙ f.in_all p; journals_are = λ s e. g.journals_are s e ∙ f.journals_are s e }

same_none : (w : World) → Same w (tell [] w)
same_none w = record { wire_is = refl; fresh_is = refl; past_is = refl; full_is = refl; limit_is = refl; ordered_is = refl; reads = record { queued_are = λ p e. refl; confirmed_are = λ p e. refl; in_all = λ p. refl; journals_are = λ s e. refl }; longer = longer_none w.lists; none_got = refl; unsettled = refl }

same_then : (w : World) (m n : Made) → Same w m → Same m.world n → Same w (record { facts = m.facts ++ n.facts; world = n.world })
same_then w m n a b = record {
  wire_is = b.wire_is ∙ a.wire_is;
  fresh_is = b.fresh_is ∙ a.fresh_is;
  past_is = b.past_is ∙ a.past_is;
  full_is = b.full_is ∙ a.full_is;
  limit_is = b.limit_is ∙ a.limit_is;
  ordered_is = b.ordered_is ∙ a.ordered_is;
  reads = same_read w.lists m.world.lists n.world.lists a.reads b.reads;
  longer = longer_both w.lists m.world.lists n.world.lists a.longer b.longer;
  none_got = none_both is_got m.facts n.facts a.none_got b.none_got;
  unsettled = none_both is_settled_fact m.facts n.facts a.unsettled b.unsettled;
}

one_freed : (w : World) (f : Fact) → is_freed f ≡ true → Same w (tell (f ∷ []) w)
one_freed w (fact.Freed s n why) h = record { wire_is = refl; fresh_is = refl; past_is = refl; full_is = refl; limit_is = refl; ordered_is = refl; reads = freed_same w.set (fact.Freed s n why ∷ []) w.lists refl; longer = facts_longer w.set (fact.Freed s n why ∷ []) w.lists; none_got = refl; unsettled = refl }
one_freed w f h = absurd (true≢false (sym h))

all_freed : (fs : List Fact) (w : World) → AreFreed fs → Same w (tell fs w)
all_freed [] w h = same_none w
all_freed (f ∷ fs) w h =
    let m : (is_freed f ≡ true) × AreFreed fs = and_both (is_freed f) (list_all is_freed fs) h in
    same_then w (tell (f ∷ []) w) (tell fs (world_after w f)) (one_freed w f m.0) (all_freed fs (world_after w f) m.1)

down_same : (n : ℕ) (w : World) → Same w (go_down n w)
down_same n w = by (node_at w n)
  where
    by : (o : Option Node) → Same w (go_down_by o w)
    by None = same_none w
    by (Some st) = let a : Same (world_after w (fact.Gone st.who)) (tell (crash st) (world_after w (fact.Gone st.who))) = all_freed (crash st) (world_after w (fact.Gone st.who)) (crash_frees st) in
        record { wire_is = a.wire_is; fresh_is = a.fresh_is; past_is = a.past_is; full_is = a.full_is; limit_is = a.limit_is; ordered_is = a.ordered_is; reads = a.reads; longer = a.longer; none_got = a.none_got; unsettled = a.unsettled }

pub downs_same : (ns : List ℕ) (w : World) → w.full ≡ false → Same w (in_order (map go_down ns) w)
downs_same [] w full = same_none w
downs_same (n ∷ ns) w full =
    let a : Same w (go_down n w) = down_same n w in
    let open1 : (go_down n w).world.full ≡ false = a.full_is ∙ full in
    subst (Same w) (sym (then_goes (go_down n w) (in_order (map go_down ns)) open1)) (same_then w (go_down n w) (in_order (map go_down ns) (go_down n w).world) a (downs_same ns (go_down n w).world open1))

-- No node is up then.

downs_clear : Laws → (c : Script) (trace : List Fact) (n a : ℕ) (w : World) → Sound c trace w → w.full ≡ false → 0 < a → (k : ℕ) → a ≤ k + 1 → k + 1 < a + n → at (in_order (map go_down (numbers a n)) w).world.nodes k ≡ None
downs_clear laws c trace zero a w s full above k low high = absurd (none a (k + 1) low high)
  where
    none : (a r : ℕ) → a ≤ r → r < a + 0 → ⊥
    none a r h k = omega (arith, h, k)
downs_clear laws c trace (suc n) a w s full above k low high =
    let m : Made = go_down a w in
    let open1 : m.world.full ≡ false = (down_same a w).full_is ∙ full in
    subst (λ (r : Made). at r.world.nodes k ≡ None) (sym (then_goes m (in_order (map go_down (numbers (a + 1) n))) open1))
    (by m.world (nat_lt a (k + 1)) refl (down_empties a w (λ k st e. let me : IsMember c trace k st = s.cluster.members k st e in me.node_is))
    (λ later. downs_clear laws c (trace ++ m.facts) n (a + 1) m.world (go_down_leads laws c w a trace s) open1 (positive a) k later (shift a n (k + 1) high)))
  where
    positive : (a : ℕ) → 0 < a + 1
    positive a = omega arith

    shift : (a n r : ℕ) → r < a + suc n → r < a + 1 + n
    shift a n r h = omega (arith, h)

    next : (a r : ℕ) → a < r → a + 1 ≤ r
    next a r h = omega (arith, h)

    same : (a k : ℕ) → a ≤ k + 1 → k + 1 ≤ a → 0 < a → a - 1 ≡ k
    same a k h g f = omega (arith, h, g, f)

    by : (v : World) (t : Bool) → nat_lt a (k + 1) ≡ t → at v.nodes (a - 1) ≡ None → (a + 1 ≤ k + 1 → at (in_order (map go_down (numbers (a + 1) n)) v).world.nodes k ≡ None) → at (in_order (map go_down (numbers (a + 1) n)) v).world.nodes k ≡ None
    by v true e here rest = rest (next a (k + 1) (below a (k + 1) e))
    by v false e here rest = downs_stay (numbers (a + 1) n) k v (ap (at v.nodes) (sym (same a k low (not_below a (k + 1) e) above)) ∙ here)

-- The numbers that wait, and what is queued.

pub record Counted (c : Script) (w : World) : Type 0 where
  pub fresh_are : list_all (λ k. nat_le k (length w.wire)) w.fresh ≡ true
  pub past_is : w.past ≤ length w.wire
  pub ordered : IsOrdered c w

none_past : (n : ℕ) (ks : List ℕ) → list_all (λ k. nat_le k n) ks ≡ true → filter (nat_lt n) ks ≡ []
none_past n [] h = refl
none_past n (k ∷ ks) h =
    let m : (nat_le k n ≡ true) × (list_all (λ k. nat_le k n) ks ≡ true) = and_both (nat_le k n) (list_all (λ k. nat_le k n) ks) h in
    by (nat_lt n k) (not_less n k m.0) (none_past n ks m.1)
  where
    not_less : (n k : ℕ) → nat_le k n ≡ true → nat_lt n k ≡ false
    not_less n k h = of_least n k (at_most k n h)
      where
        of_least : (n k : ℕ) → k ≤ n → nat_lt n k ≡ false
        of_least n k h = grind (arith, h)

    by : (t : Bool) → t ≡ false → filter (nat_lt n) ks ≡ [] → (cond t (k ∷ filter (nat_lt n) ks) (filter (nat_lt n) ks)) ≡ []
    by true e h = absurd (true≢false e)
    by false e h = h

same_outs : (c : Script) (w v : World) → v.ordered ≡ w.ordered → SameReads w.lists v.lists → (ps : List ℕ) → sum_by (out_of c v) ps ≡ sum_by (out_of c w) ps
same_outs c w v ordered reads [] = refl
same_outs c w v ordered reads (p ∷ ps) = sum_by-cons (out_of c v) p ps ∙ (ap₂ (λ a b. a + b) (ap₂ (λ o s. o - s) (ap (λ l. slice_index_or l (p - 1) 0) ordered) (same_sums (setting c).names)) (same_outs c w v ordered reads ps) ∙ sym (sum_by-cons (out_of c w) p ps))
  where
    same_sums : (es : List (List ℕ)) → sum_by (λ e. confirmed e (queue_list v.lists p)) es ≡ sum_by (λ e. confirmed e (queue_list w.lists p)) es
    same_sums [] = refl
    same_sums (e ∷ es) = sum_by-cons (λ e. confirmed e (queue_list v.lists p)) e es ∙ (ap₂ (λ a b. a + b) (reads.confirmed_are p e) (same_sums es) ∙ sym (sum_by-cons (λ e. confirmed e (queue_list w.lists p)) e es))

pub sound_downs : Laws → SendingsSame → (c : Script) (trace : List Fact) (w : World) → Sound c trace w → w.full ≡ false → Counted c w → Downs c w (downs w)
sound_downs laws sendings c trace w s full k = record {
  empty = record {
    known = known;
    behaviour_is = next.behaviour_is;
    admitted = next.admitted;
    none_up = none;
    nodes_there = next.nodes_there;
    members_are = no_members v.members refl;
    not_full = same.full_is ∙ full;
    past_is = subst (λ n. n ≤ length v.wire) (sym same.past_is) (subst (λ l. w.past ≤ length l) (sym same.wire_is) k.past_is);
    fresh_is = ap₂ (λ l ks. filter (nat_lt (length l)) ks) same.wire_is same.fresh_is ∙ none_past (length w.wire) w.fresh k.fresh_are;
    quiet = λ e. not_live e (is_among (next_one v) (live_at e known.trace)) refl;
    recorded_made = recorded;
  };
  ordered = ordered1;
  wire_is = same.wire_is;
  limit_is = same.limit_is;
  ordered_is = same.ordered_is;
  outs_are = same_outs c w v same.ordered_is same.reads (producers (setting c));
  none_got = none_counted is_got m.facts same.none_got;
  unsettled = same.unsettled;
  longer = same.longer;
}
  where
    m : Made
    m = downs w

    v : World
    v = m.world

    same : Same w m
    same = downs_same (numbers 1 w.set.config.nodes) w full

    next : Sound c (trace ++ m.facts) v
    next = all_lead c (map go_down (numbers 1 w.set.config.nodes)) w (downs_lead laws c (numbers 1 w.set.config.nodes)) trace s

    known : Known c v
    known = record { trace = trace ++ m.facts; script_is = next.script_is; set_is = next.set_is; sends_are = next.sends_are; lists_are = next.lists_are; cluster = next.cluster }

    none : (j : ℕ) (st : Node) → at v.nodes j ≡ Some st → ⊥
    none j st e = by (nat_lt j (length v.nodes)) refl
      where
        inside_nodes : (n l : ℕ) (j : ℕ) → l ≡ n → j < l → j + 1 < 1 + n
        inside_nodes n l j e h = omega (arith, e, h)

        first : (j : ℕ) → 1 ≤ j + 1
        first j = omega arith

        by : (t : Bool) → nat_lt j (length v.nodes) ≡ t → ⊥
        by true h = none_is_not_some st (sym (downs_clear laws c trace w.set.config.nodes 1 w s full (omega arith) j (first j) (inside_nodes w.set.config.nodes (length v.nodes) j (next.nodes_there ∙ sym (ap (λ (x : Setting). x.config.nodes) s.set_is)) (below j (length v.nodes) h))) ∙ e)
        by false h = never (length v.nodes) j (not_below j (length v.nodes) h) (inside v.nodes j st e)
          where
            never : (l j : ℕ) → l ≤ j → j < l → ⊥
            never l j h g = omega (arith, h, g)

    no_members : (xs : List Incarnation) → v.members ≡ xs → v.members ≡ []
    no_members [] e = e
    no_members (x ∷ xs) e = let t : IsThere v x = next.members_are x (ap (is_among x) e ∙ ap (λ t. t || is_among x xs) (itself_is x x refl)) in absurd (none (x.node - 1) t.node t.is_up)

    not_live : (e : List ℕ) (t : Bool) → is_among (next_one v) (live_at e known.trace) ≡ t → is_among (next_one v) (live_at e known.trace) ≡ false
    not_live e false h = h
    not_live e true h = absurd (past (slice_index_or v.ups 0 0) (next.numbered_are e (next_one v) h))
      where
        past : (a : ℕ) → a + 1 ≤ a → ⊥
        past a h = omega (arith, h)

    ordered1 : IsOrdered c v
    ordered1 = record {
      queued_ordered = λ p is. subst (λ n. n ≤ ordered_of v p) (sym (same.reads.in_all p)) (subst (λ l. queued_in_all (queue_list w.lists p) ≤ slice_index_or l (p - 1) 0) (sym same.ordered_is) (k.ordered.queued_ordered p is));
      ordered_sent = λ p is. subst (λ l. slice_index_or l (p - 1) 0 ≤ length (sends c p)) (sym same.ordered_is) (k.ordered.ordered_sent p is);
      beyond = λ p e past. ap (λ l. count_to e (take (slice_index_or l (p - 1) 0) (sends c p))) same.ordered_is ∙ k.ordered.beyond p e past;
    }

    recorded : (p : ℕ) (e : List ℕ) → 0 < p → position p (journal e (shard_list v.lists (shard_of (setting c) e))) ≤ count_to e (take (ordered_of v p) (sends c p))
    recorded p e above = le_then (position p (journal e (shard_list v.lists (shard_of (setting c) e)))) (queued e (queue_list v.lists p)) (count_to e (take (ordered_of v p) (sends c p))) (next.queued_are tt p e) (by (nat_lt c.config.producers p) refl)
      where
        low : (p : ℕ) → 0 < p → 1 ≤ p
        low p h = omega (arith, h)

        high : (n p : ℕ) → p ≤ n → p < 1 + n
        high n p h = omega (arith, h)

        outside : (ls : List (List Fact)) (i : ℕ) → length ls ≤ i → slice_index_or ls i [] ≡ []
        outside [] i h = refl
        outside (l ∷ ls) zero h = absurd (no (length ls) h)
          where
            no : (n : ℕ) → suc n ≤ 0 → ⊥
            no n h = omega (arith, h)
        outside (l ∷ ls) (suc i) h = outside ls i (less (length ls) i h)
          where
            less : (n i : ℕ) → suc n ≤ suc i → n ≤ i
            less n i h = omega (arith, h)

        by : (t : Bool) → nat_lt c.config.producers p ≡ t → queued e (queue_list v.lists p) ≤ count_to e (take (ordered_of v p) (sends c p))
        by true h = subst (λ l. queued e l ≤ count_to e (take (ordered_of v p) (sends c p))) (sym (outside v.lists.queues (p - 1) (less c.config.producers (length v.lists.queues) p (queues_long c v known) (below c.config.producers p h)))) (least (count_to e (take (ordered_of v p) (sends c p))))
          where
            least : (n : ℕ) → 0 ≤ n
            least n = omega arith

            less : (n l p : ℕ) → l ≡ n → n < p → l ≤ p - 1
            less n l p e h = omega (arith, e, h)
        by false h =
            let is : is_producer c p ≡ true = producer_in c p (low p above) (high c.config.producers p (not_below c.config.producers p h)) in
            subst (λ n. n ≤ count_to e (take (ordered_of v p) (sends c p))) (sym ((queue_reads sendings c p (queue_list v.lists p) (known_queue c v known p is)).first_are e)) (count_more e (sends c p) (queued_in_all (queue_list v.lists p)) (ordered_of v p) (ordered1.queued_ordered p is))
