-- Push, Confirm and Demand, whole; an Ack and a Request.
use Rattle.std.proofs.Common.{◌≡◌, ◌<◌, ◌≤◌, ◌⊎◌, inl, inr, ℕ, zero, suc, ◌+◌, ◌-◌, ◌*◌, List, [], ◌∷◌, ◌++◌, length, map, sym, ap, subst, ◌∙◌, refl, true, false, arith}
use Rattle.std.specs.Prelude.{Bool, nat_lt, fold, Option, Some, None, is_none, slice_index_or, slice_set, if◌then◌else◌}
use Rattle.std.specs.List.{list_any}
use Rattle.std.proofs.lemmas.List.{length-set, get_or-set_same}
use Rattle.yard_model.specs.declared.fact.Fact.{Fact}
use Rattle.yard_model.specs.declared.fact.Fact.TheVariants as fact
use Rattle.yard_model.specs.Move.{told}
use Rattle.yard_model.specs.Node.{Node, Act, by_entities, after}
use Rattle.yard_model.specs.Producer.{Producer}
use Rattle.yard_model.specs.Script.{is_name, Setting}
use Rattle.yard_model.specs.Setting.{place}
use Rattle.yard_model.specs.Words.{at}
use Rattle.plain_laws.proofs.Booleans.{same_name, below, not_below}
use Rattle.plain_laws.proofs.Names.{name_itself}
use Rattle.actor_laws.proofs.EntitiesMoves.{by_name}
use Rattle.settle_laws.specs.Alone.{Base, Alone, node_with, recorded, confirmed_by, queued_by, sent_by, producer_at, IsThere, is_active, is_requesting, IsFast, AreBounded, Stands, load, More, Goes}
use Rattle.settle_laws.proofs.Records.{le_itself, le_of, le_then}
use Rattle.settle_laws.proofs.Tools.{more_both, goes_none, goes_also, goes_if_map}
use Rattle.yard_model.specs.Node.{by_region, route}
use Rattle.std.specs.Prelude.{max, min}
use Rattle.yard_model.specs.Words.{numbers}
use Rattle.yard_model.specs.Producer as producer
use Rattle.yard_model.specs.Producer.{Progress, no_progress, progress, producer_after, pairs_step, to_push, allowed}
use Rattle.yard_model.specs.SlotReads.{queued, confirmed, confirmed_step, commands_step}
use Rattle.yard_model.specs.Move.{demanded, pushed}
use Rattle.yard_model.specs.Node.{by_producer, of_producer}
use Rattle.std.specs.List.{fold}
use Rattle.std.proofs.lemmas.List.Sums.{fold-append}
use Rattle.plain_laws.proofs.Lists.{inside, placed_at, placed_beside}
use Rattle.settle_laws.specs.Alone.{demand_by, left_by, none_later}
use Rattle.yard_model.specs.Node.{push, route_numbers, Rule}
use Rattle.yard_model.specs.Producer.{message_of, progress_in}
use Rattle.yard_model.specs.Turns.{in_turn, for_each, where_some}
use Rattle.settle_laws.proofs.Tools.{goes_turn}
use Rattle.settle_laws.proofs.Producers.{with_producer, Takes, put_producer, producer_more, producer_costs, word_producer, by_producers}
use Rattle.std.proofs.lemmas.List.{append-nil}
use Rattle.yard_model.specs.Node.{ack, request}
use Rattle.settle_laws.specs.Steps.{AllQueued}
use Rattle.settle_laws.proofs.Push.{goes_saved, goes_later, Sent, routes_goes, progress_put}

-- what Push leaves
pub record PushedOf (b : Base) (z : Alone) (p : ℕ) (e : List ℕ) (to : Alone) : Type 0 where
  pub homes_are : to.homes ≡ z.homes
  pub asked_on : (s : ℕ) → slice_index_or z.asked s false ≡ true → slice_index_or to.asked s false ≡ true
  pub confirmed_are : (r : ℕ) (f : List ℕ) → confirmed_by f (producer_at to.producers r) ≡ confirmed_by f (producer_at z.producers r)
  pub full_is : length to.producers ≡ length z.producers
  pub beside_are : (r : ℕ) → (r - 1 ≡ p - 1 → ⊥) → producer_at to.producers r ≡ producer_at z.producers r
  pub held_on : is_none (producer_at z.producers p) ≡ false → is_none (producer_at to.producers p) ≡ false
  pub advances : is_active b z.cells e ≡ true → sent_by e (producer_at z.producers p) ≤ recorded b z.hosted p e
      → (queued_by e (producer_at z.producers p) ≤ confirmed_by e (producer_at z.producers p)) ⊎ (confirmed_by e (producer_at z.producers p) < recorded b to.hosted p e)

-- what an Ack or a Request leaves, of the number n
pub record Answered (b : Base) (z : Alone) (p : ℕ) (e : List ℕ) (n : ℕ) (to : Alone) : Type 0 where
  pub homes_are : to.homes ≡ z.homes
  pub asked_on : (s : ℕ) → slice_index_or z.asked s false ≡ true → slice_index_or to.asked s false ≡ true
  pub others_are : (r : ℕ) (f : List ℕ) → 0 < r → ((r ≡ p) × (f ≡ e)) ⊎ (confirmed_by f (producer_at to.producers r) ≡ confirmed_by f (producer_at z.producers r))
  pub reaches : n ≤ confirmed_by e (producer_at to.producers p)
  pub advances : is_active b z.cells e ≡ true → sent_by e (producer_at z.producers p) ≤ recorded b z.hosted p e
      → (queued_by e (producer_at to.producers p) ≤ confirmed_by e (producer_at to.producers p)) ⊎ (confirmed_by e (producer_at to.producers p) < recorded b to.hosted p e)

-- what a demand leaves
pub record Demanded (z : Alone) (p : ℕ) (e : List ℕ) (to : Alone) : Type 0 where
  pub homes_are : to.homes ≡ z.homes
  pub asked_are : to.asked ≡ z.asked
  pub cells_are : to.cells ≡ z.cells
  pub hosted_are : to.hosted ≡ z.hosted
  pub confirmed_are : (r : ℕ) (f : List ℕ) → confirmed_by f (producer_at to.producers r) ≡ confirmed_by f (producer_at z.producers r)
  pub sent_is : sent_by e (producer_at to.producers p) ≡ sent_by e (producer_at z.producers p)

pub calm_stays : (c q d t : ℕ) → d ≡ 0 → t ≤ c + 1 → max t (max c (min q (max d (c + 1)))) ≤ c + 1
calm_stays c q d t e h = omega (arith, e, h)

pub left_falls : (c q d t : ℕ) → q - max (max t (max c (min q (max d (c + 1))))) c ≤ q - max t c
left_falls c q d t = omega arith

pub left_lower : (c q d t : ℕ) → q - max (max t (max c (min q (max d (c + 1))))) c + (min q (max d (c + 1)) + 1 - (max t c + 1)) ≤ q - max t c
left_lower c q d t = omega arith

pub few_calm : (c q d t : ℕ) → d ≡ 0 → min q (max d (c + 1)) + 1 - (max t c + 1) ≤ 1
few_calm c q d t e = omega (arith, e)

pub next_calm : (c q d t x : ℕ) → d ≡ 0 → c ≤ x → 0 < min q (max d (c + 1)) + 1 - (max t c + 1) → max t c + 1 ≤ x + 1
next_calm c q d t x e h k = omega (arith, e, h, k)

pub within : (c q d t : ℕ) → 0 < min q (max d (c + 1)) + 1 - (max t c + 1) → max t c + 1 + (min q (max d (c + 1)) + 1 - (max t c + 1)) ≤ q + 1
within c q d t h = omega (arith, h)

pub next_fast : (c t x : ℕ) → t ≤ x → c ≤ x → max t c + 1 ≤ x + 1
next_fast c t x h k = omega (arith, h, k)

pub all_recorded : (c q d t x : ℕ) → t ≤ x → c ≤ x → (0 < min q (max d (c + 1)) + 1 - (max t c + 1) → max t c + 1 + (min q (max d (c + 1)) + 1 - (max t c + 1)) ≤ x + 1) → max t (max c (min q (max d (c + 1)))) ≤ x
all_recorded c q d t x h k f = by (min q (max d (c + 1)) + 1 - (max t c + 1)) refl f
  where
    by : (n : ℕ) → min q (max d (c + 1)) + 1 - (max t c + 1) ≡ n → (0 < n → max t c + 1 + n ≤ x + 1) → max t (max c (min q (max d (c + 1)))) ≤ x
    by zero e f = omega (arith, h, k, e)
    by (suc n) e f = let g : max t c + 1 + suc n ≤ x + 1 = f (omega arith) in omega (arith, h, k, e, g)

-- what stands of the pairs of p, by the words of k
abbrev pub PacedBy : Base → Alone → ℕ → Producer → Type 0 → Progress → List ℕ → Type 0
PacedBy b z p k late x f = ((x.demand ≡ 0) × (x.sent ≤ confirmed f k.entries + 1) × (list_any (is_requesting p f) z.wire ≡ false)) ⊎ ((is_active b z.cells f ≡ true) × ((x.sent ≤ recorded b z.hosted p f) ⊎ late))

-- what was sent is recorded: all is confirmed, or more is recorded than confirmed
pub advance_numbers : (c q d t x y : ℕ) → t ≤ x → c ≤ x → x ≤ y → (0 < min q (max d (c + 1)) + 1 - (max t c + 1) → max t c + 1 + (min q (max d (c + 1)) + 1 - (max t c + 1)) ≤ y + 1) → (q ≤ c) ⊎ (c < y)
advance_numbers c q d t x y h k l f = by (nat_lt c y) refl
  where
    more : c < q → y ≤ c → 0 < min q (max d (c + 1)) + 1 - (max t c + 1)
    more g m = omega (arith, h, k, l, g, m)

    none : c < q → y ≤ c → max t c + 1 + (min q (max d (c + 1)) + 1 - (max t c + 1)) ≤ y + 1 → ⊥
    none g m n = let j : 0 < min q (max d (c + 1)) + 1 - (max t c + 1) = more g m in omega (arith, m, n, j)

    few : (t : Bool) → nat_lt c q ≡ t → y ≤ c → q ≤ c
    few true e m = absurd (none (below c q e) m (f (more (below c q e) m)))
    few false e m = not_below c q e

    by : (t : Bool) → nat_lt c y ≡ t → (q ≤ c) ⊎ (c < y)
    by true e = inr (below c y e)
    by false e = inl (few (nat_lt c q) refl (not_below c y e))

pub push_some : (b : Base) (z : Alone) (p : ℕ) (e : List ℕ) (k : Producer) → Stands b none_later z → 0 < p → IsThere b e → producer_at z.producers p ≡ Some k → Goes b none_later 0 (PushedOf b z p e) z (push p e (node_with b z))
push_some b z p e k s above there found = subst (λ o. Goes b none_later 0 (PushedOf b z p e) z (where_some (λ j. (of_producer p (producer.push_marks e) (node_with b z)) ++ (route_numbers p e (λ i. to_push e j) (fold after (node_with b z) (of_producer p (producer.push_marks e) (node_with b z))) ++ [])) o)) (sym found)
    (subst (λ o. Goes b none_later 0 (PushedOf b z p e) z (where_some (λ j. map (by_producer p) (producer.push_marks e j)) o ++ (route_numbers p e (λ i. to_push e k) (fold after (node_with b z) (where_some (λ j. map (by_producer p) (producer.push_marks e j)) o)) ++ []))) (sym found)
    (by (was e)))
  where
    c : ℕ
    c = confirmed e k.entries

    q : ℕ
    q = queued e k.entries

    d : ℕ
    d = (progress k e).demand

    t : ℕ
    t = (progress k e).sent

    n : ℕ
    n = min q (max d (c + 1)) + 1 - (max t c + 1)

    pushed_to : ℕ
    pushed_to = max c (min q (max d (c + 1)))

    new : Producer
    new = producer_after k (pushed e pushed_to)

    z1 : Alone
    z1 = with_producer z p new

    marks : List Act
    marks = by_producer p (pushed e pushed_to) ∷ []

    own : (k.who ≡ b.who) × (k.set ≡ b.set) × (k.number ≡ p) × (length k.pairs ≡ length b.set.names)
    own = s.producing p k above found

    full : length k.pairs ≡ length b.set.names
    full = own.3

    set_is : k.set ≡ b.set
    set_is = own.1

    node1 : fold after (node_with b z) marks ≡ node_with b z1
    node1 = ap (λ o. node_with b (record z { producers = slice_set z.producers (p - 1) (Rattle.yard_model.specs.Node.producer_by b.set b.who p o (pushed e pushed_to)) })) found

    bounds : AreBounded b z.hosted z.producers p e
    bounds = s.bounded p e above

    confirmed_recorded : (f : List ℕ) → confirmed f k.entries ≤ recorded b z.hosted p f
    confirmed_recorded f = subst (λ o. confirmed_by f o ≤ recorded b z.hosted p f) found (s.bounded p f above).0

    confirmed_queued : (f : List ℕ) → confirmed f k.entries ≤ queued f k.entries
    confirmed_queued f = subst (λ o. confirmed_by f o ≤ queued_by f o) found (s.bounded p f above).1

    put : (f : List ℕ) → ((f ≡ e) × (progress new f ≡ record { demand = d; sent = max t pushed_to })) ⊎ (progress new f ≡ progress k f)
    put = progress_put b k e (record { demand = d; sent = max t pushed_to }) set_is full there

    was : (f : List ℕ) → PacedBy b z p k ⊥ (progress k f) f
    was f = subst (λ o. ((demand_by f o ≡ 0) × (sent_by f o ≤ confirmed_by f o + 1) × (list_any (is_requesting p f) z.wire ≡ false)) ⊎ ((is_active b z.cells f ≡ true) × ((sent_by f o ≤ recorded b z.hosted p f) ⊎ ⊥))) found (s.paced p f above)

    weaker : (late : Type 0) (x : Progress) (f : List ℕ) → PacedBy b z p k ⊥ x f → PacedBy b z p k late x f
    weaker late x f (inl h) = inl h
    weaker late x f (inr h) = inr (h.0, soft h.1)
      where
        soft : (x.sent ≤ recorded b z.hosted p f) ⊎ ⊥ → (x.sent ≤ recorded b z.hosted p f) ⊎ late
        soft (inl k) = inl k
        soft (inr k) = absurd k

    takes : (later : ℕ → List ℕ → Type 0) → PacedBy b z p k (later p e) (record { demand = d; sent = max t pushed_to }) e → Takes b none_later later z p k new
    takes later of_e = record {
      above = above;
      found = found;
      is = (own.0, own.1, own.2, length-set k.pairs (place k.set e) (record { demand = d; sent = max t pushed_to }) ∙ full);
      queued_is = λ f. refl;
      confirmed_on = λ f. le_itself (confirmed f k.entries);
      confirmed_recorded = confirmed_recorded;
      confirmed_queued = confirmed_queued;
      paced = λ f. each f (put f);
      later_on = λ r f h. absurd h;
    }
      where
        each : (f : List ℕ) → ((f ≡ e) × (progress new f ≡ record { demand = d; sent = max t pushed_to })) ⊎ (progress new f ≡ progress k f) → PacedBy b z p k (later p f) (progress new f) f
        each f (inl h) = subst (λ x. PacedBy b z p k (later p f) x f) (sym h.1) (subst (λ g. PacedBy b z p k (later p g) (record { demand = d; sent = max t pushed_to }) g) (sym h.0) of_e)
        each f (inr h) = subst (λ x. PacedBy b z p k (later p f) x f) (sym h) (weaker (later p f) (progress k f) f (was f))

    falls : (f : List ℕ) → ((f ≡ e) × (progress new f ≡ record { demand = d; sent = max t pushed_to })) ⊎ (progress new f ≡ progress k f) → left_by f (Some new) ≤ left_by f (Some k)
    falls f (inl h) = subst (λ (x : Progress). queued f k.entries - max x.sent (confirmed f k.entries) ≤ queued f k.entries - max (progress k f).sent (confirmed f k.entries)) (sym h.1)
        (subst (λ g. queued g k.entries - max (max t pushed_to) (confirmed g k.entries) ≤ queued g k.entries - max (progress k g).sent (confirmed g k.entries)) (sym h.0) (left_falls c q d t))
    falls f (inr h) = le_of _ _ (ap (λ (x : Progress). queued f k.entries - max x.sent (confirmed f k.entries)) h)

    lower : ((e ≡ e) × (progress new e ≡ record { demand = d; sent = max t pushed_to })) ⊎ (progress new e ≡ progress k e) → progress new e ≡ record { demand = d; sent = max t pushed_to } → left_by e (Some new) + n ≤ left_by e (Some k)
    lower h is = subst (λ (x : Progress). q - max x.sent c + n ≤ q - max t c) (sym is) (left_lower c q d t)

    own_put : progress new e ≡ record { demand = d; sent = max t pushed_to }
    own_put = get_or-set_same k.pairs (place k.set e) (record { demand = d; sent = max t pushed_to }) no_progress (subst (λ m. place k.set e < m) (sym full) (subst (λ (y : Setting). place y e < length b.set.names) (sym set_is) there))

    saved : load b z1 + 6 * n ≤ load b z + 0
    saved = plus_zero (load b z1) (load b z) n (producer_costs b z p k new e n found there (λ f. falls f (put f)) (lower (put e) own_put))
      where
        plus_zero : (x y n : ℕ) → x + 6 * n ≤ y → x + 6 * n ≤ y + 0
        plus_zero x y n h = omega (arith, h)

    found1 : producer_at z1.producers p ≡ Some new
    found1 = placed_at z.producers (p - 1) (Some new) (inside z.producers (p - 1) k found)

    confirmed_same : (to : Alone) → Sent b z1 p e (max t c + 1) n to → (r : ℕ) (f : List ℕ) → confirmed_by f (producer_at to.producers r) ≡ confirmed_by f (producer_at z.producers r)
    confirmed_same to x r f = ap (λ l. confirmed_by f (producer_at l r)) x.producers_are ∙ word_producer (confirmed_by f) z.producers p new (inside z.producers (p - 1) k found) (ap (confirmed_by f) (sym found)) r

    advance : (to : Alone) → Sent b z1 p e (max t c + 1) n to → recorded b z.hosted p e ≤ recorded b to.hosted p e → is_active b z.cells e ≡ true → t ≤ recorded b z.hosted p e
        → (queued_by e (producer_at z.producers p) ≤ confirmed_by e (producer_at z.producers p)) ⊎ (confirmed_by e (producer_at z.producers p) < recorded b to.hosted p e)
    advance to x more active h = subst (λ o. (queued_by e o ≤ confirmed_by e o) ⊎ (confirmed_by e o < recorded b to.hosted p e)) (sym found)
        (advance_numbers c q d t (recorded b z.hosted p e) (recorded b to.hosted p e) h (confirmed_recorded e) more (x.is_recorded active))

    -- the routes, from what is marked
    routed : (later : ℕ → List ℕ → Type 0) → Takes b none_later later z p k new → (0 < n → max t c + 1 ≤ recorded b z.hosted p e + 1) → (is_active b z.cells e ≡ true) ⊎ (n ≤ 1)
        → ((to : Alone) → More b z to → Sent b z1 p e (max t c + 1) n to → (r : ℕ) (f : List ℕ) → 0 < r → later r f → (sent_by f (producer_at to.producers r) ≤ recorded b to.hosted r f) ⊎ ⊥)
        → Goes b none_later 0 (PushedOf b z p e) z (marks ++ (route_numbers p e (λ i. to_push e k) (fold after (node_with b z) marks) ++ []))
    routed later takes next few good =
        subst (λ st. Goes b none_later 0 (PushedOf b z p e) z (marks ++ (route_numbers p e (λ i. to_push e k) st ++ []))) (sym node1)
        (subst (λ o. Goes b none_later 0 (PushedOf b z p e) z (marks ++ (where_some (λ j. for_each after (λ m. route (message_of e j m)) (to_push e k) (node_with b z1)) o ++ []))) (sym found1)
        (subst (λ xs. Goes b none_later 0 (PushedOf b z p e) z (marks ++ xs)) (sym (append-nil _))
        (goes_saved b none_later (6 * n) 0 (PushedOf b z p e) z z1 marks _ node1 refl (producer_more b none_later later z p k new takes) saved refl
        (goes_also b none_later (6 * n) (6 * n) (Sent b z1 p e (max t c + 1) n) (PushedOf b z p e) z1 _ (le_itself (6 * n)) (λ to u more x. record { homes_are = x.homes_are; asked_on = x.asked_on; confirmed_are = confirmed_same to x; full_is = ap length x.producers_are ∙ length-set z.producers (p - 1) (Some new); beside_are = λ r other. ap (λ l. producer_at l r) x.producers_are ∙ placed_beside z.producers (p - 1) (r - 1) (Some new) other; held_on = λ h. ap (λ l. is_none (producer_at l p)) x.producers_are ∙ ap is_none found1; advances = λ active h. advance to x (more.recorded_on p e) active (subst (λ o. sent_by e o ≤ recorded b z.hosted p e) found h) })
        (goes_later b later none_later (6 * n) (Sent b z1 p e (max t c + 1) n) z1 _ (λ to more x r f is l. good to (more_both b z z1 to (producer_more b none_later later z p k new takes) more) x r f is l) sends)))))
      where
        sends : Goes b later (6 * n) (Sent b z1 p e (max t c + 1) n) z1 (for_each after (λ m. route (message_of e new m)) (numbers (max t c + 1) n) (node_with b z1))
        sends = routes_goes b later p e new n (max t c + 1) z1 (put_producer b none_later later z p k new s takes) (record { above = above; there = there; found = found1; who_is = own.0; number_is = own.2 }) (positive (max t c)) next (within c q d t) few
          where
            positive : (x : ℕ) → 0 < x + 1
            positive x = omega arith

    by : PacedBy b z p k ⊥ (progress k e) e → Goes b none_later 0 (PushedOf b z p e) z (marks ++ (route_numbers p e (λ i. to_push e k) (fold after (node_with b z) marks) ++ []))
    by (inl h) = routed none_later (takes none_later (inl (h.0, calm_stays c q d t h.0 h.1, h.2))) (next_calm c q d t (recorded b z.hosted p e) h.0 (confirmed_recorded e)) (inr (few_calm c q d t h.0)) (λ to more x r f is l. absurd l)
    by (inr h) = routed late (takes late (inr (h.0, inr (refl, refl)))) (λ m. next_fast c t (recorded b z.hosted p e) sent_recorded (confirmed_recorded e)) (inl h.0) good
      where
        late : ℕ → List ℕ → Type 0
        late r f = (r ≡ p) × (f ≡ e)

        sent_recorded : t ≤ recorded b z.hosted p e
        sent_recorded = of h.1
          where
            of : (t ≤ recorded b z.hosted p e) ⊎ ⊥ → t ≤ recorded b z.hosted p e
            of (inl k) = k
            of (inr k) = absurd k

        good : (to : Alone) → More b z to → Sent b z1 p e (max t c + 1) n to → (r : ℕ) (f : List ℕ) → 0 < r → late r f → (sent_by f (producer_at to.producers r) ≤ recorded b to.hosted r f) ⊎ ⊥
        good to more x r f is l = inl (subst (λ v. sent_by f (producer_at to.producers v) ≤ recorded b to.hosted v f) (sym l.0) (subst (λ g. sent_by g (producer_at to.producers p) ≤ recorded b to.hosted p g) (sym l.1)
            (subst (λ o. sent_by e o ≤ recorded b to.hosted p e) (sym (ap (λ l. at l (p - 1)) x.producers_are ∙ found1)) (subst (λ (y : Progress). y.sent ≤ recorded b to.hosted p e) (sym own_put)
            (all_recorded c q d t (recorded b to.hosted p e) (le_then t (recorded b z.hosted p e) (recorded b to.hosted p e) sent_recorded (more.recorded_on p e))
            (le_then c (recorded b z.hosted p e) (recorded b to.hosted p e) (confirmed_recorded e) (more.recorded_on p e)) (x.is_recorded h.0))))))

pub push_goes : (b : Base) (z : Alone) (p : ℕ) (e : List ℕ) → Stands b none_later z → 0 < p → IsThere b e → Goes b none_later 0 (PushedOf b z p e) z (push p e (node_with b z))
push_goes b z p e s above there = by (producer_at z.producers p) refl
  where
    by : (o : Option Producer) → producer_at z.producers p ≡ o → Goes b none_later 0 (PushedOf b z p e) z (push p e (node_with b z))
    by None none = subst (λ o. Goes b none_later 0 (PushedOf b z p e) z (where_some (λ j. (of_producer p (producer.push_marks e) (node_with b z)) ++ (route_numbers p e (λ i. to_push e j) (fold after (node_with b z) (of_producer p (producer.push_marks e) (node_with b z))) ++ [])) o)) (sym none)
        (goes_none b none_later (PushedOf b z p e) z s (record { homes_are = refl; asked_on = λ t h. h; confirmed_are = λ r f. refl; full_is = refl; beside_are = λ r other. refl; held_on = λ h. h; advances = λ a h. inl (subst (λ o. queued_by e o ≤ confirmed_by e o) (sym none) (le_itself 0)) }))
    by (Some k) found = push_some b z p e k s above there found

-- Confirm.

pub record Confirmed (b : Base) (z : Alone) (p : ℕ) (e : List ℕ) (n : ℕ) (to : Alone) : Type 0 where
  pub homes_are : to.homes ≡ z.homes
  pub asked_are : to.asked ≡ z.asked
  pub wire_are : to.wire ≡ z.wire
  pub cells_are : to.cells ≡ z.cells
  pub hosted_are : to.hosted ≡ z.hosted
  pub sent_is : sent_by e (producer_at to.producers p) ≡ sent_by e (producer_at z.producers p)
  pub others_are : (r : ℕ) (f : List ℕ) → 0 < r → ((r ≡ p) × (f ≡ e)) ⊎ (confirmed_by f (producer_at to.producers r) ≡ confirmed_by f (producer_at z.producers r))
  pub reaches : n ≤ confirmed_by e (producer_at to.producers p)
  pub fast_on : IsFast b ⊥ z.hosted z.cells z.producers p e → IsFast b ⊥ to.hosted to.cells to.producers p e

pub confirmed_after : (entries : List Fact) (q : ℕ) (e f : List ℕ) (n : ℕ) → confirmed f (entries ++ fact.Confirmed q e n ∷ []) ≡ (if is_name e f then n else confirmed f entries)
confirmed_after entries q e f n = fold-append (confirmed_step f) 0 entries (fact.Confirmed q e n ∷ [])

pub queued_after : (entries : List Fact) (q : ℕ) (e f : List ℕ) (n : ℕ) → queued f (entries ++ fact.Confirmed q e n ∷ []) ≡ queued f entries
queued_after entries q e f n = ap length (fold-append (commands_step f) [] entries (fact.Confirmed q e n ∷ []))

pub confirm_some : (b : Base) (z : Alone) (p : ℕ) (e : List ℕ) (n : ℕ) (k : Producer) → Stands b none_later z → 0 < p → IsThere b e → producer_at z.producers p ≡ Some k → n ≤ recorded b z.hosted p e → n ≤ queued e k.entries → confirmed e k.entries < n
    → Goes b none_later 0 (Confirmed b z p e n) z (by_producer p (told (fact.Confirmed k.number e n)) ∷ [])
confirm_some b z p e n k s above there found less_recorded less_queued more = record {
  to = with_producer z p new;
  node_is = ap (λ o. node_with b (record z { producers = slice_set z.producers (p - 1) (Rattle.yard_model.specs.Node.producer_by b.set b.who p o (told (fact.Confirmed k.number e n))) })) found;
  wire_is = refl;
  stands = put_producer b none_later none_later z p k new s takes;
  costs = plus_zero (load b (with_producer z p new)) (load b z) (producer_costs b z p k new e 0 found there falls (no_more (falls e)));
  entered = refl;
  more = producer_more b none_later none_later z p k new takes;
  also_is = record { homes_are = refl; asked_are = refl; wire_are = refl; cells_are = refl; hosted_are = refl; sent_is = ap (sent_by e) there_is ∙ ap (sent_by e) (sym found); others_are = others; reaches = subst (λ o. n ≤ confirmed_by e o) (sym there_is) (le_of _ _ (sym (confirmed_after k.entries k.number e e n ∙ ap (λ t. if t then n else confirmed e k.entries) (name_itself e)))); fast_on = λ h. (h.0, subst (λ o. (sent_by e o ≤ recorded b z.hosted p e) ⊎ ⊥) (sym (placed_at z.producers (p - 1) (Some new) (inside z.producers (p - 1) k found))) (subst (λ o. (sent_by e o ≤ recorded b z.hosted p e) ⊎ ⊥) found h.1)) };
}
  where
    new : Producer
    new = producer_after k (told (fact.Confirmed k.number e n))

    own : (k.who ≡ b.who) × (k.set ≡ b.set) × (k.number ≡ p) × (length k.pairs ≡ length b.set.names)
    own = s.producing p k above found

    plus_zero : (x y : ℕ) → x + 6 * 0 ≤ y → x ≤ y + 0
    plus_zero x y h = omega (arith, h)

    no_more : {x y : ℕ} → x ≤ y → x + 0 ≤ y
    no_more h = omega (arith, h)

    there_is : producer_at (slice_set z.producers (p - 1) (Some new)) p ≡ Some new
    there_is = placed_at z.producers (p - 1) (Some new) (inside z.producers (p - 1) k found)

    others : (r : ℕ) (f : List ℕ) → 0 < r → ((r ≡ p) × (f ≡ e)) ⊎ (confirmed_by f (producer_at (slice_set z.producers (p - 1) (Some new)) r) ≡ confirmed_by f (producer_at z.producers r))
    others r f is = by_name _ e f
        (λ same. by_producers _ r p is above (λ k. inl (k, sym same)) (λ other. inr (ap (confirmed_by f) (placed_beside z.producers (p - 1) (r - 1) (Some new) other))))
        (λ other. inr (word_producer (confirmed_by f) z.producers p new (inside z.producers (p - 1) k found) (confirmed_after k.entries k.number e f n ∙ (ap (λ t. if t then n else confirmed f k.entries) other ∙ ap (confirmed_by f) (sym found))) r))

    -- of each name, one of two
    either : (P : ℕ → Type 0) (f : List ℕ) → (f ≡ e → P n) → P (confirmed f k.entries) → P (confirmed f new.entries)
    either P f same other = subst P (sym (confirmed_after k.entries k.number e f n)) (by (is_name e f) refl)
      where
        by : (t : Bool) → is_name e f ≡ t → P (if t then n else confirmed f k.entries)
        by true h = same (sym (same_name e f h))
        by false h = other

    queued_is : (f : List ℕ) → queued f new.entries ≡ queued f k.entries
    queued_is f = queued_after k.entries k.number e f n

    on : (f : List ℕ) → confirmed f k.entries ≤ confirmed f new.entries
    on f = either (λ x. confirmed f k.entries ≤ x) f (λ same. subst (λ g. confirmed g k.entries ≤ n) (sym same) (lesser (confirmed e k.entries) n more)) (le_itself (confirmed f k.entries))
      where
        lesser : (x y : ℕ) → x < y → x ≤ y
        lesser x y h = omega (arith, h)

    was : (f : List ℕ) → PacedBy b z p k ⊥ (progress k f) f
    was f = subst (λ o. ((demand_by f o ≡ 0) × (sent_by f o ≤ confirmed_by f o + 1) × (list_any (is_requesting p f) z.wire ≡ false)) ⊎ ((is_active b z.cells f ≡ true) × ((sent_by f o ≤ recorded b z.hosted p f) ⊎ ⊥))) found (s.paced p f above)

    takes : Takes b none_later none_later z p k new
    takes = record {
      above = above;
      found = found;
      is = own;
      queued_is = queued_is;
      confirmed_on = on;
      confirmed_recorded = λ f. either (λ x. x ≤ recorded b z.hosted p f) f (λ same. subst (λ g. n ≤ recorded b z.hosted p g) (sym same) less_recorded) (subst (λ o. confirmed_by f o ≤ recorded b z.hosted p f) found (s.bounded p f above).0);
      confirmed_queued = λ f. subst (λ x. confirmed f new.entries ≤ x) (sym (queued_is f)) (either (λ x. x ≤ queued f k.entries) f (λ same. subst (λ g. n ≤ queued g k.entries) (sym same) less_queued) (subst (λ o. confirmed_by f o ≤ queued_by f o) found (s.bounded p f above).1));
      paced = λ f. paced f (was f);
      later_on = λ r f h. h;
    }
      where
        one_more : (t c d : ℕ) → t ≤ c + 1 → c ≤ d → t ≤ d + 1
        one_more t c d h k = omega (arith, h, k)

        paced : (f : List ℕ) → PacedBy b z p k ⊥ (progress k f) f → PacedBy b z p new ⊥ (progress new f) f
        paced f (inl h) = inl (h.0, one_more (progress k f).sent (confirmed f k.entries) (confirmed f new.entries) h.1 (on f), h.2)
        paced f (inr h) = inr h

    falls : (f : List ℕ) → left_by f (Some new) ≤ left_by f (Some k)
    falls f = subst (λ q. q - max (progress k f).sent (confirmed f new.entries) ≤ left_by f (Some k)) (sym (queued_is f)) (lower (queued f k.entries) (progress k f).sent (confirmed f k.entries) (confirmed f new.entries) (on f))
      where
        lower : (q t c d : ℕ) → c ≤ d → q - max t d ≤ q - max t c
        lower q t c d h = omega (arith, h)

pub confirm_goes : (b : Base) (z : Alone) (p : ℕ) (e : List ℕ) (n : ℕ) → Stands b none_later z → AllQueued b z → 0 < p → IsThere b e → n ≤ recorded b z.hosted p e → Goes b none_later 0 (Confirmed b z p e n) z (of_producer p (producer.confirm e n) (node_with b z))
confirm_goes b z p e n s all above there less = by (producer_at z.producers p) refl
  where
    same : n ≤ confirmed_by e (producer_at z.producers p) → Confirmed b z p e n z
    same reaches = record { homes_are = refl; asked_are = refl; wire_are = refl; cells_are = refl; hosted_are = refl; sent_is = refl; others_are = λ r f is. inr refl; reaches = reaches; fast_on = λ h. h }

    by : (o : Option Producer) → producer_at z.producers p ≡ o → Goes b none_later 0 (Confirmed b z p e n) z (where_some (λ k. map (by_producer p) (producer.confirm e n k)) (producer_at z.producers p))
    by None none = subst (λ o. Goes b none_later 0 (Confirmed b z p e n) z (where_some (λ k. map (by_producer p) (producer.confirm e n k)) o)) (sym none) (goes_none b none_later (Confirmed b z p e n) z s (same (le_then n (recorded b z.hosted p e) (confirmed_by e (producer_at z.producers p)) less (le_then (recorded b z.hosted p e) (b.made p e) _ (s.bounded p e above).3 (le_of _ _ (sym (all p e above) ∙ (ap (queued_by e) none ∙ sym (ap (confirmed_by e) none))))))))
    by (Some k) found = subst (λ o. Goes b none_later 0 (Confirmed b z p e n) z (where_some (λ k. map (by_producer p) (producer.confirm e n k)) o)) (sym found)
        (goes_if_map b none_later 0 (Confirmed b z p e n) z (by_producer p) (nat_lt (confirmed e k.entries) n) (told (fact.Confirmed k.number e n) ∷ []) []
        (λ h. confirm_some b z p e n k s above there found less (le_then n (recorded b z.hosted p e) (queued e k.entries) less (subst (λ x. recorded b z.hosted p e ≤ x) (sym (all p e above) ∙ ap (queued_by e) found) (s.bounded p e above).3)) (below (confirmed e k.entries) n h))
        (λ h. goes_none b none_later (Confirmed b z p e n) z s (same (subst (λ o. n ≤ confirmed_by e o) (sym found) (not_below (confirmed e k.entries) n h)))))

-- Demand, of a pair that is fast.

pub demand_goes : (b : Base) (z : Alone) (p : ℕ) (e : List ℕ) (u : ℕ) → Stands b none_later z → 0 < p → IsThere b e → IsFast b ⊥ z.hosted z.cells z.producers p e → Goes b none_later 0 (Demanded z p e) z (of_producer p (λ k. demanded e u ∷ []) (node_with b z))
demand_goes b z p e u s above there fast = by (producer_at z.producers p) refl
  where
    by : (o : Option Producer) → producer_at z.producers p ≡ o → Goes b none_later 0 (Demanded z p e) z (where_some (λ k. map (by_producer p) (demanded e u ∷ [])) (producer_at z.producers p))
    by None none = subst (λ o. Goes b none_later 0 (Demanded z p e) z (where_some (λ (k : Producer). map (by_producer p) (demanded e u ∷ [])) o)) (sym none) (goes_none b none_later (Demanded z p e) z s (record { homes_are = refl; asked_are = refl; cells_are = refl; hosted_are = refl; confirmed_are = λ r f. refl; sent_is = refl }))
    by (Some k) found = subst (λ o. Goes b none_later 0 (Demanded z p e) z (where_some (λ (k : Producer). map (by_producer p) (demanded e u ∷ [])) o)) (sym found) (record {
      to = with_producer z p new;
      node_is = ap (λ o. node_with b (record z { producers = slice_set z.producers (p - 1) (Rattle.yard_model.specs.Node.producer_by b.set b.who p o (demanded e u)) })) found;
      wire_is = refl;
      stands = put_producer b none_later none_later z p k new s takes;
      costs = plus_zero (load b (with_producer z p new)) (load b z) (producer_costs b z p k new e 0 found there (λ f. le_of _ _ (same_left f (put f))) (no_more (le_of _ _ (same_left e (put e)))));
      entered = refl;
      more = producer_more b none_later none_later z p k new takes;
      also_is = record { homes_are = refl; asked_are = refl; cells_are = refl; hosted_are = refl; confirmed_are = λ r f. word_producer (confirmed_by f) z.producers p new (inside z.producers (p - 1) k found) (ap (confirmed_by f) (sym found)) r; sent_is = ap (sent_by e) (placed_at z.producers (p - 1) (Some new) (inside z.producers (p - 1) k found)) ∙ (ap (λ (y : Progress). y.sent) own_put ∙ sym (ap (sent_by e) found)) };
    })
      where
        x : Progress
        x = record { demand = max (progress k e).demand u; sent = (progress k e).sent }

        new : Producer
        new = producer_after k (demanded e u)

        own : (k.who ≡ b.who) × (k.set ≡ b.set) × (k.number ≡ p) × (length k.pairs ≡ length b.set.names)
        own = s.producing p k above found

        full : length k.pairs ≡ length b.set.names
        full = own.3

        put : (f : List ℕ) → ((f ≡ e) × (progress new f ≡ x)) ⊎ (progress new f ≡ progress k f)
        put = progress_put b k e x own.1 full there

        own_put : progress new e ≡ x
        own_put = get_or-set_same k.pairs (place k.set e) x no_progress (subst (λ m. place k.set e < m) (sym full) (subst (λ (y : Setting). place y e < length b.set.names) (sym own.1) there))

        plus_zero : (x y : ℕ) → x + 6 * 0 ≤ y → x ≤ y + 0
        plus_zero x y h = omega (arith, h)

        no_more : {x y : ℕ} → x ≤ y → x + 0 ≤ y
        no_more h = omega (arith, h)

        same_left : (f : List ℕ) → ((f ≡ e) × (progress new f ≡ x)) ⊎ (progress new f ≡ progress k f) → left_by f (Some new) ≡ left_by f (Some k)
        same_left f (inl h) = ap (λ (y : Progress). queued f k.entries - max y.sent (confirmed f k.entries)) h.1 ∙ ap (λ g. queued f k.entries - max (progress k g).sent (confirmed f k.entries)) (sym h.0)
        same_left f (inr h) = ap (λ (y : Progress). queued f k.entries - max y.sent (confirmed f k.entries)) h

        was : (f : List ℕ) → PacedBy b z p k ⊥ (progress k f) f
        was f = subst (λ o. ((demand_by f o ≡ 0) × (sent_by f o ≤ confirmed_by f o + 1) × (list_any (is_requesting p f) z.wire ≡ false)) ⊎ ((is_active b z.cells f ≡ true) × ((sent_by f o ≤ recorded b z.hosted p f) ⊎ ⊥))) found (s.paced p f above)

        fast_is : (is_active b z.cells e ≡ true) × (((progress k e).sent ≤ recorded b z.hosted p e) ⊎ ⊥)
        fast_is = subst (λ o. (is_active b z.cells e ≡ true) × ((sent_by e o ≤ recorded b z.hosted p e) ⊎ ⊥)) found fast

        takes : Takes b none_later none_later z p k new
        takes = record {
          above = above;
          found = found;
          is = (own.0, own.1, own.2, length-set k.pairs (place k.set e) x ∙ full);
          queued_is = λ f. refl;
          confirmed_on = λ f. le_itself (confirmed f k.entries);
          confirmed_recorded = λ f. subst (λ o. confirmed_by f o ≤ recorded b z.hosted p f) found (s.bounded p f above).0;
          confirmed_queued = λ f. subst (λ o. confirmed_by f o ≤ queued_by f o) found (s.bounded p f above).1;
          paced = λ f. each f (put f);
          later_on = λ r f h. h;
        }
          where
            each : (f : List ℕ) → ((f ≡ e) × (progress new f ≡ x)) ⊎ (progress new f ≡ progress k f) → PacedBy b z p k ⊥ (progress new f) f
            each f (inl h) = subst (λ y. PacedBy b z p k ⊥ y f) (sym h.1) (subst (λ g. PacedBy b z p k ⊥ x g) (sym h.0) (inr fast_is))
            each f (inr h) = subst (λ y. PacedBy b z p k ⊥ y f) (sym h) (was f)

-- An Ack, a Request.

pub goes_end : (b : Base) (later : ℕ → List ℕ → Type 0) (n : ℕ) (also : Alone → Type 0) (z : Alone) (xs : List Act) → Goes b later n also z xs → Goes b later n also z (xs ++ [])
goes_end b later n also z xs g = subst (Goes b later n also z) (sym (append-nil xs)) g

-- Confirm, and then what leaves what is confirmed, and Push
pub answered : (b : Base) (z mid to : Alone) (p : ℕ) (e : List ℕ) (n : ℕ) → Confirmed b z p e n mid → PushedOf b mid p e to → More b mid to → Answered b z p e n to
answered b z mid to p e n k x more = record {
  homes_are = x.homes_are ∙ k.homes_are;
  asked_on = λ v h. x.asked_on v (ap (λ l. slice_index_or l v false) k.asked_are ∙ h);
  others_are = λ r f is. by r f (k.others_are r f is);
  reaches = subst (λ c. n ≤ c) (sym (x.confirmed_are p e)) k.reaches;
  advances = λ active h. subst (λ q. (q ≤ confirmed_by e (producer_at to.producers p)) ⊎ (confirmed_by e (producer_at to.producers p) < recorded b to.hosted p e)) (sym (more.queued_on p e))
      (subst (λ c. (queued_by e (producer_at mid.producers p) ≤ c) ⊎ (c < recorded b to.hosted p e)) (sym (x.confirmed_are p e))
      (x.advances (ap (λ l. is_active b l e) k.cells_are ∙ active) (subst (λ t. t ≤ recorded b mid.hosted p e) (sym k.sent_is) (subst (λ l. sent_by e (producer_at z.producers p) ≤ recorded b l p e) (sym k.hosted_are) h))));
}
  where
    by : (r : ℕ) (f : List ℕ) → ((r ≡ p) × (f ≡ e)) ⊎ (confirmed_by f (producer_at mid.producers r) ≡ confirmed_by f (producer_at z.producers r)) → ((r ≡ p) × (f ≡ e)) ⊎ (confirmed_by f (producer_at to.producers r) ≡ confirmed_by f (producer_at z.producers r))
    by r f (inl h) = inl h
    by r f (inr h) = inr (x.confirmed_are r f ∙ h)

pub ack_goes : (b : Base) (z : Alone) (p : ℕ) (e : List ℕ) (n : ℕ) → Stands b none_later z → AllQueued b z → 0 < p → IsThere b e → n ≤ recorded b z.hosted p e → Goes b none_later 0 (Answered b z p e n) z (ack p e n (node_with b z))
ack_goes b z p e n s all above there less =
    goes_turn b none_later none_later 0 0 (Confirmed b z p e n) (Answered b z p e n) z (of_producer p (producer.confirm e n)) (λ st. push p e st ++ []) (confirm_goes b z p e n s all above there less)
    (λ mid t more k. goes_end b none_later 0 (Answered b z p e n) mid (push p e (node_with b mid)) (goes_also b none_later 0 0 (PushedOf b mid p e) (Answered b z p e n) mid _ (le_itself 0)
    (λ to u more2 x. answered b z mid to p e n k x more2)
    (push_goes b mid p e t above there)))

pub request_turn_goes : (b : Base) (z : Alone) (p : ℕ) (e : List ℕ) (n u : ℕ) → Stands b none_later z → AllQueued b z → 0 < p → IsThere b e → n ≤ recorded b z.hosted p e → IsFast b ⊥ z.hosted z.cells z.producers p e → Goes b none_later 0 (Answered b z p e n) z (request p e n u (node_with b z))
request_turn_goes b z p e n u s all above there less fast =
    goes_turn b none_later none_later 0 0 (Confirmed b z p e n) (Answered b z p e n) z (of_producer p (producer.confirm e n)) (λ st. in_turn after (of_producer p (λ k. demanded e u ∷ [])) (λ st. push p e st ++ []) st) (confirm_goes b z p e n s all above there less)
    (λ mid t more k. goes_turn b none_later none_later 0 0 (Demanded mid p e) (Answered b z p e n) mid (of_producer p (λ k. demanded e u ∷ [])) (λ st. push p e st ++ []) (demand_goes b mid p e u t above there (k.fast_on fast))
    (λ mid2 t2 more2 d. goes_end b none_later 0 (Answered b z p e n) mid2 (push p e (node_with b mid2)) (goes_also b none_later 0 0 (PushedOf b mid2 p e) (Answered b z p e n) mid2 _ (le_itself 0)
    (λ to u more3 x. after_demand mid mid2 to k d x more3)
    (push_goes b mid2 p e t2 above there))))
  where
    after_demand : (mid mid2 to : Alone) → Confirmed b z p e n mid → Demanded mid p e mid2 → PushedOf b mid2 p e to → More b mid2 to → Answered b z p e n to
    after_demand mid mid2 to k d x more = record {
      homes_are = x.homes_are ∙ (d.homes_are ∙ k.homes_are);
      asked_on = λ v h. x.asked_on v (ap (λ l. slice_index_or l v false) d.asked_are ∙ (ap (λ l. slice_index_or l v false) k.asked_are ∙ h));
      others_are = λ r f is. by r f (k.others_are r f is);
      reaches = subst (λ c. n ≤ c) (sym (x.confirmed_are p e ∙ d.confirmed_are p e)) k.reaches;
      advances = λ active h. subst (λ q. (q ≤ confirmed_by e (producer_at to.producers p)) ⊎ (confirmed_by e (producer_at to.producers p) < recorded b to.hosted p e)) (sym (more.queued_on p e))
          (subst (λ c. (queued_by e (producer_at mid2.producers p) ≤ c) ⊎ (c < recorded b to.hosted p e)) (sym (x.confirmed_are p e))
          (x.advances (ap (λ l. is_active b l e) (d.cells_are ∙ k.cells_are) ∙ active) (subst (λ t. t ≤ recorded b mid2.hosted p e) (sym (d.sent_is ∙ k.sent_is)) (subst (λ l. sent_by e (producer_at z.producers p) ≤ recorded b l p e) (sym (d.hosted_are ∙ k.hosted_are)) h))));
    }
      where
        by : (r : ℕ) (f : List ℕ) → ((r ≡ p) × (f ≡ e)) ⊎ (confirmed_by f (producer_at mid.producers r) ≡ confirmed_by f (producer_at z.producers r)) → ((r ≡ p) × (f ≡ e)) ⊎ (confirmed_by f (producer_at to.producers r) ≡ confirmed_by f (producer_at z.producers r))
        by r f (inl h) = inl h
        by r f (inr h) = inr (x.confirmed_are r f ∙ (d.confirmed_are r f ∙ h))
