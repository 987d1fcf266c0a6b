-- The settling of a world: every node goes down, and then it goes on from there. And of given lists.
use Rattle.std.proofs.Common.{ap₂, ◌≡◌, ◌<◌, ◌≤◌, inl, inr, ℕ, zero, suc, ◌+◌, ◌-◌, ◌*◌, List, [], ◌∷◌, ◌++◌, length, map, sym, ap, subst, ◌∙◌, refl, true, false, true≢false, arith}
use Rattle.std.specs.Prelude.{Bool, ◌==◌, ◌&&◌, ◌||◌, nat_lt, filter, take, sum, sum_by, Some, None, slice_index_or, replicate}
use Rattle.std.specs.List.{list_all, list_any, flat_map}
use Rattle.std.proofs.lemmas.List.{length-replicate, append_assoc}
use Rattle.std.proofs.lemmas.List.Sums.{sum-map, sum_by-cons}
use Rattle.std.proofs.lemmas.List.FromFn.{get_or-map-range_with_len}
use Rattle.yard_model.specs.declared.charter.Sending.{Sending}
use Rattle.yard_model.specs.declared.fact.Fact.TheVariants as fact
use Rattle.yard_model.specs.declared.incarnation.Slot.TheVariants as slot
use Rattle.yard_model.specs.Era.{opening_of}
use Rattle.yard_model.specs.Genuine.{is_producer}
use Rattle.yard_model.specs.Lawful.{own, lawful}
use Rattle.yard_model.specs.Node.{Node}
use Rattle.yard_model.specs.Script.{Script, Setting, IsScript, is_name, is_version, setting, count_to, sends, plan}
use Rattle.yard_model.specs.Setting.{producers, shard_of}
use Rattle.yard_model.specs.Settled.{is_settled_pair, settled}
use Rattle.yard_model.specs.SlotLists.{SlotLists, shard_list, queue_list}
use Rattle.yard_model.specs.SlotReads.{holder, journal, position, queued, confirmed, queued_in_all}
use Rattle.yard_model.specs.Trace.{list_at}
use Rattle.yard_model.specs.Words.{at, numbers, is_among}
use Rattle.yard_model.specs.World as world
use Rattle.yard_model.specs.World.{World, Made, Step, come_up, drain, go_down, ordered_of, outstanding, settle, settle_bound, settle_end, tick_while_left, in_order, then_step, tell, given_world, settled_from, all_sends, wire_limit}
use Rattle.plain_laws.proofs.Booleans.{and_both, both, below, not_below, number_itself, get_replicate}
use Rattle.plain_laws.proofs.Lists.{none_is_not_some, by_place}
use Rattle.plain_laws.proofs.Names.{name_itself}
use Rattle.era_laws.specs.Openings.{OpeningGivesLists, OpeningIsQuiet, EraOpens}
use Rattle.yard_laws.proofs.Guarding.{guarded_opens}
use Rattle.yard_laws.proofs.Owns.{producer_above, producer_within}
use Rattle.node_laws.specs.Cluster.{ClusterBegins}
use Rattle.play_laws.proofs.Handled.{lawful_lists}
use Rattle.play_laws.proofs.Orders.{producers_are}
use Rattle.settle_laws.specs.Alone.{Base, Each}
use Rattle.settle_laws.specs.Lonely.{Known, deliveries_in, is_settled_fact, IsLonger}
use Rattle.settle_laws.specs.Settles.{ordered_sends, outstanding_in_all, most_deliveries, IsUnheld, EndsSettled, Settles, StoresSettle}
use Rattle.settle_laws.specs.Steps.{DeliveryFalls, TickCosts}
use Rattle.settle_laws.proofs.Beginning.{IsEmpty, base_of, next_one}
use Rattle.settle_laws.proofs.Counts.{JournalReads, journal_reads, queue_reads}
use Rattle.settle_laws.proofs.Ending.{IsSettledIn, Final}
use Rattle.settle_laws.proofs.Longer.{longer_none, longer_both}
use Rattle.settle_laws.proofs.One.{Rests, then_goes, none_both, deliveries_both}
use Rattle.settle_laws.proofs.Producing.{known_queue}
use Rattle.settle_laws.proofs.Records.{le_itself}
use Rattle.settle_laws.proofs.Sent.{sent_to, is_to}
use Rattle.settle_laws.proofs.Whole.{IsOrdered, out_of, outs_of, most_of, after_up, producer_in, empty_settles}

-- Numbers.

same_sum : (f g : ℕ → ℕ) → ((p : ℕ) → f p ≡ g p) → (xs : List ℕ) → sum_by f xs ≡ sum_by g xs
same_sum f g h [] = refl
same_sum f g h (x ∷ xs) = sum_by-cons f x xs ∙ (ap₂ (λ a b. a + b) (h x) (same_sum f g h xs) ∙ sym (sum_by-cons g x xs))

pub most_is : (c : Script) (w : World) → w.set ≡ setting c → most_deliveries w ≡ most_of c w
most_is c w set_is = ap (λ (x : Setting). 24 * sum (map (λ p. ordered_of w p - sum (map (λ e. confirmed e (queue_list w.lists p)) x.names)) (producers x)) + 18 * x.config.shards + length x.names + 3) set_is
    ∙ ap (λ n. 24 * n + 18 * c.config.shards + length (setting c).names + 3) (sum-map (λ p. ordered_of w p - sum (map (λ e. confirmed e (queue_list w.lists p)) (setting c).names)) (producers (setting c))
    ∙ same_sum (λ p. ordered_of w p - sum (map (λ e. confirmed e (queue_list w.lists p)) (setting c).names)) (out_of c w) (λ p. ap (λ n. ordered_of w p - n) (sum-map (λ e. confirmed e (queue_list w.lists p)) (setting c).names)) (producers (setting c)))

-- the budget has room for them
pub most_within : (w : World) → most_deliveries w ≤ settle_bound w
most_within w = fits (outstanding_in_all w) w.set.config.shards w.set.config.producers (length w.set.names)
  where
    fits : (o s p n : ℕ) → 24 * o + 18 * s + n + 3 ≤ 40 * (o + s + p + n + 1)
    fits o s p n = omega arith

-- Pairs.

pub sends_of : (c : Script) (f : ℕ → List Sending) (p : ℕ) → is_producer c p ≡ true → slice_index_or (map f (producers (setting c))) (p - 1) [] ≡ f p
sends_of c f p is =
    let low : 0 < p = producer_above c p is in
    let high : p ≤ c.config.producers = producer_within c p is in
    get_or-map-range_with_len f 1 c.config.producers (p - 1) p [] (omega (arith, low, high)) (omega (arith, low))

-- where each pair is settled, all are
pub all_settled : (c : Script) (b : Base) (all : List (List Sending)) (lists : SlotLists) → b.set ≡ setting c → ((p : ℕ) (e : List ℕ) → is_producer c p ≡ true → b.made p e ≡ count_to e (slice_index_or all (p - 1) [])) → Each (λ p. Each (IsSettledIn c b lists p) (setting c).names) (producers (setting c))
    → settled c all lists ≡ true
all_settled c b all lists base made h = along (producers (setting c)) (producers_are c) h
  where
    one : (p : ℕ) (e : List ℕ) → is_producer c p ≡ true → IsSettledIn c b lists p e → is_settled_pair c all lists p e ≡ true
    one p e is k =
        let n : ℕ = count_to e (slice_index_or all (p - 1) []) in
        both ((queued e (queue_list lists p) == n) && (position p (journal e (shard_list lists (shard_of (setting c) e))) == n)) (confirmed e (queue_list lists p) == n)
        (both (queued e (queue_list lists p) == n) (position p (journal e (shard_list lists (shard_of (setting c) e))) == n) (number_itself _ n (k.0 ∙ made p e is)) (number_itself _ n (k.1 ∙ made p e is)))
        (number_itself _ n (k.2 ∙ made p e is))

    names : (p : ℕ) (es : List (List ℕ)) → is_producer c p ≡ true → Each (IsSettledIn c b lists p) es → list_all (is_settled_pair c all lists p) es ≡ true
    names p [] is h = refl
    names p (e ∷ es) is h = both (is_settled_pair c all lists p e) (list_all (is_settled_pair c all lists p) es) (one p e is h.0) (names p es is h.1)

    along : (ps : List ℕ) → list_all (is_producer c) ps ≡ true → Each (λ p. Each (IsSettledIn c b lists p) (setting c).names) ps → list_all (λ p. list_all (is_settled_pair c all lists p) (setting c).names) ps ≡ true
    along [] is h = refl
    along (p ∷ ps) is h =
        let m : (is_producer c p ≡ true) × (list_all (is_producer c) ps ≡ true) = and_both (is_producer c p) (list_all (is_producer c) ps) is in
        both (list_all (is_settled_pair c all lists p) (setting c).names) (list_all (λ p. list_all (is_settled_pair c all lists p) (setting c).names) ps) (names p (setting c).names m.0 h.0) (along ps m.1 h.1)

-- one of these numbers
pub each_at : (P : ℕ → Type 0) (n a p : ℕ) → a ≤ p → p < a + n → Each P (numbers a n) → P p
each_at P zero a p low high h = absurd (none a p low high)
  where
    none : (a p : ℕ) → a ≤ p → p < a + 0 → ⊥
    none a p h k = omega (arith, h, k)
each_at P (suc n) a p low high h = by_place (P p) p a (λ same. subst P (sym same) h.0) (λ other. each_at P n (a + 1) p (next a p low other) (shift a n p high) h.1)
  where
    next : (a p : ℕ) → a ≤ p → (p ≡ a → ⊥) → a + 1 ≤ p
    next a p h k = omega (arith, h, k)

    shift : (a n p : ℕ) → p < a + suc n → p < a + 1 + n
    shift a n p h = omega (arith, h)

-- Every node goes down.

pub record Downs (c : Script) (w : World) (m : Made) : Type 0 where
  pub empty : IsEmpty c m.world
  pub ordered : IsOrdered c m.world
  pub wire_is : m.world.wire ≡ w.wire
  pub limit_is : m.world.limit ≡ w.limit
  pub ordered_is : m.world.ordered ≡ w.ordered
  pub outs_are : outs_of c m.world ≡ outs_of c w
  pub none_got : deliveries_in m.facts ≡ 0
  pub unsettled : list_any is_settled_fact m.facts ≡ false
  pub longer : IsLonger w.lists m.world.lists

abbrev pub downs : World → Made
downs w = in_order (map go_down (numbers 1 w.set.config.nodes)) w

pub settles_from : Rests → DeliveryFalls → TickCosts → (c : Script) (w : World) → w.set ≡ setting c → Downs c w (downs w) → Settles c w (settle w)
settles_from laws falls ticks c w set_is d =
    subst (λ x. Settles c w (then_step m (in_order (come_up 1 ∷ drain from bound ∷ in_order (map (λ p. world.produce p 1) (producers x)) ∷ drain from bound ∷ tick_while_left from bound bound ∷ settle_end from ∷ [])))) (sym set_is)
    (subst (Settles c w) (sym (then_goes m (in_order (come_up 1 ∷ after_up c from bound)) d.empty.not_full)) (by final))
  where
    m : Made
    m = downs w

    from : ℕ
    from = length w.wire

    bound : ℕ
    bound = settle_bound w

    most_same : most_of c m.world ≡ most_deliveries w
    most_same = ap (λ n. 24 * n + 18 * c.config.shards + length (setting c).names + 3) d.outs_are ∙ sym (most_is c w set_is)

    final : Final c (base_of c m.world) m.world from (most_of c m.world) (in_order (come_up 1 ∷ after_up c from bound) m.world)
    final = subst (λ f. Final c (base_of c m.world) m.world f (most_of c m.world) (in_order (come_up 1 ∷ after_up c f bound) m.world)) (ap length d.wire_is)
        (empty_settles laws falls ticks c m.world bound d.empty d.ordered (subst (λ n. n ≤ bound) (sym most_same) (most_within w)))

    n : Made
    n = in_order (come_up 1 ∷ after_up c from bound) m.world

    counted_is : {k x y : ℕ} → k ≤ x → x ≡ y → deliveries_in n.facts ≡ k → deliveries_in (m.facts ++ n.facts) ≤ y
    counted_is {k = k} {x = x} {y = y} h e g = sums (deliveries_in (m.facts ++ n.facts)) (deliveries_in m.facts) (deliveries_in n.facts) k x y (deliveries_both m.facts n.facts) d.none_got g h e
      where
        sums : (t a g k x y : ℕ) → t ≡ a + g → a ≡ 0 → g ≡ k → k ≤ x → x ≡ y → t ≤ y
        sums t a g k x y e f i h j = omega (arith, e, f, i, h, j)

    within : (p n : ℕ) → p ≤ n → p < 1 + n
    within p n h = omega (arith, h)

    by : Final c (base_of c m.world) m.world from (most_of c m.world) n → Settles c w (record { facts = m.facts ++ n.facts; world = n.world })
    by (inl f) = inl (record { full = f.full; counted = counted_is f.counted most_same refl; unsettled = none_both is_settled_fact m.facts n.facts d.unsettled f.unsettled; over = past m.world.limit w.limit from (most_of c m.world) (most_deliveries w) d.limit_is most_same f.over })
      where
        past : (v m f x y : ℕ) → v ≡ m → x ≡ y → v < f + x → m < f + y
        past v m f x y e g h = omega (arith, e, g, h)
    by (inr e) = inr (record {
      not_full = e.not_full;
      counted = counted_is e.counted most_same refl;
      front = m.facts ++ e.front;
      ends = ap (λ fs. m.facts ++ fs) e.ends ∙ sym (append_assoc m.facts e.front (fact.Settled ∷ []));
      once = none_both is_settled_fact m.facts e.front d.unsettled e.once;
      settled_is = all_settled c (base_of c m.world) (ordered_sends c w) n.world.lists refl (λ p f is. ap (λ ls. count_to f (take (slice_index_or ls (p - 1) 0) (sends c p))) d.ordered_is ∙ sym (ap (count_to f) (sends_of c (λ q. take (ordered_of w q) (sends c q)) p is))) e.pairs;
      all_queued = λ p is. each_at (λ q. queued_in_all (queue_list n.world.lists q) ≡ slice_index_or m.world.ordered (q - 1) 0) c.config.producers 1 p (producer_above c p is) (within p c.config.producers (producer_within c p is)) e.all_queued ∙ ap (λ ls. slice_index_or ls (p - 1) 0) d.ordered_is;
      lawful_is = e.lawful_is;
      none_up = e.none_up;
      unheld = e.unheld;
      longer = longer_both w.lists m.world.lists n.world.lists d.longer e.longer;
    })

-- No node is up: nothing is done.

pub downs_none : (ns : List ℕ) (w : World) → ((k : ℕ) → at w.nodes k ≡ None) → w.full ≡ false → in_order (map go_down ns) w ≡ tell [] w
downs_none [] w none full = refl
downs_none (n ∷ ns) w none full = ap (λ o. then_step (world.go_down_by o w) (in_order (map go_down ns))) (none (n - 1)) ∙ (then_goes (tell [] w) (in_order (map go_down ns)) full ∙ ap (λ (m : Made). record { facts = m.facts; world = m.world }) (downs_none ns w none full))

-- Given lists.

pub record Opens : Type 0 where
  pub begins : ClusterBegins
  pub opening_gives : OpeningGivesLists
  pub opening_quiet : OpeningIsQuiet
  pub opens : EraOpens

-- a producer beyond those of the script sends nothing
pub none_beyond : (c : Script) (p : ℕ) → IsScript c → c.config.producers < p → sends c p ≡ []
none_beyond c p script past = by (sends c p) refl
  where
    below_all : (a b : ℕ) → a ≤ b → b < a → ⊥
    below_all a b h k = omega (arith, h, k)

    by : (xs : List Sending) → sends c p ≡ xs → sends c p ≡ []
    by [] e = e
    by (x ∷ xs) e = absurd (below_all p c.config.producers (producer_within c p (sent_to c p x.entity script (ap (list_any (is_to x.entity)) e ∙ first (is_to x.entity x) (list_any (is_to x.entity) xs) (name_itself x.entity))).producer_is) past)
      where
        first : (a b : Bool) → a ≡ true → (a || b) ≡ true
        first true b h = refl
        first false b h = absurd (true≢false (sym h))

take_whole : {A : Type 0} (xs : List A) → take (length xs) xs ≡ xs
take_whole [] = refl
take_whole (x ∷ xs) = ap (λ l. x ∷ l) (take_whole xs)

take_none : {A : Type 0} (n : ℕ) (xs : List A) → xs ≡ [] → take n xs ≡ xs
take_none n (x ∷ xs) e = absurd (cons_is_none x xs e)
  where
    cons_is_none : {A : Type 0} (x : A) (xs : List A) → x ∷ xs ≡ [] → ⊥
    cons_is_none x xs e = true≢false (ap (λ l. elim l as (λ y. Bool) [ [] ↦ false | y ∷ ys ↦ true ]) e)
take_none zero [] e = refl
take_none (suc n) [] e = refl

map_twice : {A B C : Type 0} (g : B → C) (f : A → B) (xs : List A) → map g (map f xs) ≡ map (λ x. g (f x)) xs
map_twice g f [] = refl
map_twice g f (x ∷ xs) = ap (λ l. g (f x) ∷ l) (map_twice g f xs)

pub given_ordered : (c : Script) (version : ℕ) (lists : SlotLists) (p : ℕ) → is_producer c p ≡ true → ordered_of (given_world c version lists) p ≡ length (sends c p)
given_ordered c version lists p is =
    let low : 0 < p = producer_above c p is in
    let high : p ≤ c.config.producers = producer_within c p is in
    ap (λ l. slice_index_or l (p - 1) 0) (map_twice length (sends c) (numbers 1 c.config.producers)) ∙ get_or-map-range_with_len (λ q. length (sends c q)) 1 c.config.producers (p - 1) p 0 (omega (arith, low, high)) (omega (arith, low))

-- every send is ordered
pub given_sends : (c : Script) (version : ℕ) (lists : SlotLists) (p : ℕ) → IsScript c → 0 < p → take (ordered_of (given_world c version lists) p) (sends c p) ≡ sends c p
given_sends c version lists p script above = by (nat_lt c.config.producers p) refl
  where
    low : (p : ℕ) → 0 < p → 1 ≤ p
    low p h = omega (arith, h)

    high : (n p : ℕ) → p ≤ n → p < 1 + n
    high n p h = omega (arith, h)

    by : (t : Bool) → nat_lt c.config.producers p ≡ t → take (ordered_of (given_world c version lists) p) (sends c p) ≡ sends c p
    by true e = take_none (ordered_of (given_world c version lists) p) (sends c p) (none_beyond c p script (below c.config.producers p e))
    by false e = ap (λ n. take n (sends c p)) (given_ordered c version lists p (producer_in c p (low p above) (high c.config.producers p (not_below c.config.producers p e)))) ∙ take_whole (sends c p)

pub given_empty : Rests → Opens → (c : Script) (version : ℕ) (lists : SlotLists) → IsScript c → is_version c version ≡ true → lawful c lists ≡ true → IsUnheld c lists → IsEmpty c (given_world c version lists)
given_empty laws opens c version lists script admits is_lawful free = record {
  known = known;
  behaviour_is = sym (opens.opening_quiet c version lists is_lawful).0;
  admitted = admits;
  none_up = none;
  nodes_there = length-replicate c.config.nodes None;
  members_are = refl;
  not_full = refl;
  past_is = le_itself 0;
  fresh_is = refl;
  quiet = λ e. ap (is_among (next_one w)) ((opens.opening_quiet c version lists is_lawful).1 e);
  recorded_made = λ p e above. subst (λ n. position p (journal e (shard_list lists (shard_of (setting c) e))) ≤ n) (counts p e ∙ sym (ap (count_to e) (given_sends c version lists p script above))) ((reads e).planned p);
}
  where
    w : World
    w = given_world c version lists

    none : (k : ℕ) (st : Node) → at (replicate c.config.nodes None) k ≡ Some st → ⊥
    none k st e = none_is_not_some st (sym (get_replicate c.config.nodes k None) ∙ e)

    known : Known c w
    known = record {
      trace = opening_of version lists;
      script_is = script;
      set_is = refl;
      sends_are = refl;
      lists_are = sym (opens.opening_gives c version lists is_lawful);
      cluster = opens.begins c (opening_of version lists) (replicate c.config.nodes None) (guarded_opens c ((flat_map (λ l. l) lists.shards ++ lists.coordinator) ++ flat_map (λ l. l) lists.queues) version (opens.opens c version lists is_lawful))
          (λ s there. ap (λ l. holder (list_at l s)) (opens.opening_gives c version lists is_lawful) ∙ free s there) none;
    }

    reads : (e : List ℕ) → JournalReads c e (journal e (shard_list lists (shard_of (setting c) e)))
    reads e = journal_reads c (shard_of (setting c) e) e (shard_list lists (shard_of (setting c) e)) (ap (λ l. own c (slot.Shard (shard_of (setting c) e)) (shard_list l (shard_of (setting c) e))) known.lists_are ∙ (lawful_lists c known.trace known.cluster.guarded_are).shards (shard_of (setting c) e) (laws.there c e script))

    counts : (p : ℕ) (e : List ℕ) → length (plan c p e) ≡ count_to e (sends c p)
    counts p e = mapped (filter (λ (x : Sending). is_name x.entity e) (sends c p))
      where
        mapped : (xs : List Sending) → length (map (λ (x : Sending). x.command) xs) ≡ length xs
        mapped [] = refl
        mapped (x ∷ xs) = ap suc (mapped xs)

pub given_is_ordered : Rests → Opens → (c : Script) (version : ℕ) (lists : SlotLists) → IsScript c → is_version c version ≡ true → lawful c lists ≡ true → IsUnheld c lists → IsOrdered c (given_world c version lists)
given_is_ordered laws opens c version lists script admits is_lawful free = record {
  queued_ordered = λ p is. subst (λ n. queued_in_all (queue_list lists p) ≤ n) (sym (given_ordered c version lists p is)) (queue_reads laws.sendings c p (queue_list lists p) (known_queue c (given_world c version lists) (given_empty laws opens c version lists script admits is_lawful free).known p is)).within;
  ordered_sent = λ p is. of_equal (given_ordered c version lists p is);
  beyond = λ p e past. ap (λ l. count_to e (take (ordered_of (given_world c version lists) p) l)) (none_beyond c p script past) ∙ none (ordered_of (given_world c version lists) p) e;
}
  where
    of_equal : {a b : ℕ} → a ≡ b → a ≤ b
    of_equal {a = a} {b = b} e = omega (arith, e)

    nothing : List Sending
    nothing = []

    none : (n : ℕ) (e : List ℕ) → count_to e (take n nothing) ≡ 0
    none zero e = refl
    none (suc n) e = refl

-- the settling of given lists
pub stores_settle : Rests → Opens → DeliveryFalls → TickCosts → (c : Script) (version : ℕ) (lists : SlotLists) → IsScript c → is_version c version ≡ true → lawful c lists ≡ true → IsUnheld c lists → most_deliveries (given_world c version lists) ≤ wire_limit
    → EndsSettled c (given_world c version lists) (settled_from c version lists)
stores_settle laws opens falls ticks c version lists script admits is_lawful free fits = by (settles_from laws falls ticks c w refl (subst (Downs c w) (sym (downs_none (numbers 1 c.config.nodes) w (λ k. get_replicate c.config.nodes k None) refl)) (record {
  empty = given_empty laws opens c version lists script admits is_lawful free;
  ordered = given_is_ordered laws opens c version lists script admits is_lawful free;
  wire_is = refl;
  limit_is = refl;
  ordered_is = refl;
  outs_are = refl;
  none_got = refl;
  unsettled = refl;
  longer = longer_none lists;
})))
  where
    w : World
    w = given_world c version lists

    by : Settles c w (settled_from c version lists) → EndsSettled c w (settled_from c version lists)
    by (inr e) = e
    by (inl f) = absurd (never wire_limit (most_deliveries w) f.over fits)
      where
        never : (m n : ℕ) → m < 0 + n → n ≤ m → ⊥
        never m n h k = omega (arith, h, k)

-- every send is
pub given_are_all : (c : Script) (version : ℕ) (lists : SlotLists) → IsScript c → ordered_sends c (given_world c version lists) ≡ all_sends c
given_are_all c version lists script = along (numbers 1 c.config.producers) (positive c.config.producers 1 (omega arith))
  where
    positive : (n a : ℕ) → 0 < a → Each (λ p. 0 < p) (numbers a n)
    positive zero a h = tt
    positive (suc n) a h = (h, positive n (a + 1) (more a))
      where
        more : (a : ℕ) → 0 < a + 1
        more a = omega arith

    along : (ps : List ℕ) → Each (λ p. 0 < p) ps → map (λ p. take (ordered_of (given_world c version lists) p) (sends c p)) ps ≡ map (sends c) ps
    along [] h = refl
    along (p ∷ ps) h = ap₂ (λ x xs. x ∷ xs) (given_sends c version lists p script h.0) (along ps h.1)

pub stores_end : Rests → Opens → DeliveryFalls → TickCosts → StoresSettle
stores_end laws opens falls ticks c version lists script admits is_lawful free fits =
    let e : EndsSettled c (given_world c version lists) (settled_from c version lists) = stores_settle laws opens falls ticks c version lists script admits is_lawful free fits in
    record { ends = e; all_settled = ap (λ all. settled c all (settled_from c version lists).world.lists) (sym (given_are_all c version lists script)) ∙ e.settled_is }
