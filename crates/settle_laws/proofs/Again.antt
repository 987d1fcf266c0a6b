-- The tick, whole: the first number that isn't confirmed is sent again.
use Rattle.std.proofs.Common.{◌≡◌, ◌<◌, ◌≤◌, ◌⊎◌, inl, inr, ℕ, zero, suc, ◌+◌, ◌-◌, ◌*◌, List, [], ◌∷◌, ◌++◌, length, map, sym, ap, subst, ◌∙◌, refl, true, false, true≢false, arith}
use Rattle.std.specs.Prelude.{Bool, nat_lt, fold, Option, Some, None, slice_index_or, slice_set, if◌then◌else◌}
use Rattle.std.specs.List.{list_any}
use Rattle.std.proofs.lemmas.List.{length-set, get_or-set_same}
use Rattle.yard_model.specs.declared.packet.Message.{Message}
use Rattle.yard_model.specs.declared.input.Phase.TheVariants as phase
use Rattle.yard_model.specs.Entities as entities
use Rattle.yard_model.specs.Entities.{Cell, Hosted, cell_in, cell_after, is_phase, new_cell, phase_by_post, reach_by_post, entered, entries_in}
use Rattle.yard_model.specs.Node.{Node, Act, by_entities, after}
use Rattle.yard_model.specs.Producer.{Producer}
use Rattle.yard_model.specs.Script.{Setting}
use Rattle.yard_model.specs.Setting.{place, shard_of}
use Rattle.yard_model.specs.Words.{at}
use Rattle.plain_laws.proofs.Booleans.{below, not_below}
use Rattle.settle_laws.specs.Alone.{Base, Alone, node_with, is_home_at, recorded, confirmed_by, queued_by, sent_by, producer_at, IsThere, is_active, Each, is_recovering, is_requesting, is_acking, Stands, load, More, Goes}
use Rattle.settle_laws.proofs.Records.{le_itself, le_of, le_then}
use Rattle.settle_laws.proofs.Tools.{each_map, more_both, goes_none, goes_also}
use Rattle.yard_model.specs.Region as region
use Rattle.yard_model.specs.Region.{Region, kept_of, home}
use Rattle.yard_model.specs.Entities.{is_running_in}
use Rattle.yard_model.specs.Node.{by_region, route}
use Rattle.std.specs.Prelude.{max, sum_by}
use Rattle.yard_model.specs.Words.{numbers}
use Rattle.yard_model.specs.Producer.{Progress, no_progress, progress, producer_after}
use Rattle.yard_model.specs.SlotReads.{queued, confirmed}
use Rattle.yard_model.specs.Move.{pushed}
use Rattle.yard_model.specs.Node.{by_producer, of_producer}
use Rattle.std.specs.List.{sum_by, fold}
use Rattle.std.proofs.lemmas.List.Sums.{sum_by-cons}
use Rattle.plain_laws.proofs.Lists.{inside, placed_at}
use Rattle.settle_laws.specs.Alone.{demand_by, left_by, none_later}
use Rattle.settle_laws.proofs.Routes.{Routed, route_goes}
use Rattle.yard_model.specs.Node.{push, route_numbers, Rule}
use Rattle.yard_model.specs.Producer.{message_of}
use Rattle.yard_model.specs.Turns.{for_each, where_some}
use Rattle.settle_laws.proofs.Tools.{goes_turn}
use Rattle.settle_laws.proofs.Producers.{with_producer, Takes, put_producer, producer_more, producer_costs}
use Rattle.std.proofs.lemmas.List.{append-nil}
use Rattle.yard_model.specs.Entities.{Entities, entities_after, is_in_phase}
use Rattle.yard_model.specs.Region.{no_stamp}
use Rattle.settle_laws.proofs.Push.{goes_saved}
use Rattle.settle_laws.proofs.Queues.{goes_end}
use Rattle.settle_laws.proofs.Starts.{all_there}
use Rattle.yard_model.specs.SlotLists.{SlotLists}
use Rattle.yard_model.specs.Node.{release, start, acquire_by, of_region, of_entities}
use Rattle.yard_model.specs.Entities.{is_hosted}
use Rattle.yard_model.specs.Node.{all_in_turn, host_shard, shard_home, acquire}
use Rattle.yard_model.specs.Node.{Rule, by_coordinator, packet, of_coordinator}
use Rattle.yard_model.specs.Coordinator as coordinator
use Rattle.yard_model.specs.Coordinator.{Coordinator, Share, coordinator_after}
use Rattle.std.proofs.lemmas.List.Sums.{sum_by-cons}
use Rattle.yard_model.specs.Node.{move_of}
use Rattle.settle_laws.specs.Alone.{IsThird}
use Rattle.yard_model.specs.Node.{lead, tick, send_again, start_again}
use Rattle.yard_model.specs.Producer.{to_repeat}
use Rattle.yard_model.specs.Setting.{shards, producers}
use Rattle.settle_laws.specs.Alone.{IsFirst, IsSecond, IsThird}
use Rattle.settle_laws.proofs.Queues.{PacedBy}
use Rattle.settle_laws.proofs.Push.{message_fits}
use Rattle.settle_laws.proofs.Producers.{word_producer}
use Rattle.settle_laws.specs.Steps.{Keeping, Repeats, Ticked, out_by, outs_at, all_outs}
use Rattle.settle_laws.proofs.Ticks.{Ticks, ticks_both, lead_none, office_goes, region_goes, starts_none, reminds_none}
use Rattle.settle_laws.proofs.Push.{goes_later, progress_put}

pub keeping_none : (b : Base) (z : Alone) → Keeping b z z
keeping_none b z = record { homes_are = refl; asked_on = λ s h. h; confirmed_are = λ r f. refl }

pub keeping_both : (b : Base) (x y z : Alone) → Keeping b x y → Keeping b y z → Keeping b x z
keeping_both b x y z f g = record { homes_are = g.homes_are ∙ f.homes_are; asked_on = λ s h. g.asked_on s (f.asked_on s h); confirmed_are = λ r h. g.confirmed_are r h ∙ f.confirmed_are r h }

-- stages are kept where nothing is confirmed
pub first_kept : (b : Base) (x y : Alone) (e : List ℕ) → More b x y → ((s : ℕ) → slice_index_or x.asked s false ≡ true → slice_index_or y.asked s false ≡ true) → IsFirst b x e → IsFirst b y e
first_kept b x y e m k (inl h) = inl (m.homes_on (shard_of b.set e) h)
first_kept b x y e m k (inr h) = inr (k (shard_of b.set e) h)

pub third_kept : (b : Base) (x y : Alone) (p : ℕ) (e : List ℕ) → More b x y → Keeping b x y → IsThird b x p e → IsThird b y p e
third_kept b x y p e m k (inl h) = inl (subst (λ n. n ≤ confirmed_by e (producer_at y.producers p)) (sym (m.queued_on p e)) (le_then (queued_by e (producer_at x.producers p)) (confirmed_by e (producer_at x.producers p)) (confirmed_by e (producer_at y.producers p)) h (m.confirmed_on p e)))
third_kept b x y p e m k (inr h) = inr (less (confirmed_by e (producer_at y.producers p)) (confirmed_by e (producer_at x.producers p)) (recorded b x.hosted p e) (recorded b y.hosted p e) (k.confirmed_are p e) h.0 (m.recorded_on p e), by (m.answered p e))
  where
    less : (c d x y : ℕ) → c ≡ d → d < x → x ≤ y → c < y
    less c d x y e h k = omega (arith, e, h, k)

    by : (recorded b y.hosted p e ≡ recorded b x.hosted p e) ⊎ (list_any (is_acking p e (recorded b y.hosted p e)) y.wire ≡ true) → list_any (is_acking p e (recorded b y.hosted p e)) y.wire ≡ true
    by (inl same) = subst (λ n. list_any (is_acking p e n) y.wire ≡ true) (sym same) (m.posted_on (is_acking p e (recorded b x.hosted p e)) h.1)
    by (inr a) = a

pub repeats_kept : (b : Base) (z x y : Alone) (p : ℕ) (e : List ℕ) → More b x y → Keeping b x y → Repeats b z p e x → Repeats b z p e y
repeats_kept b z x y p e m k r = record { first = one r.first; second = λ h. two (r.second h); third = λ h. third_kept b x y p e m k (r.third h) }
  where
    one : (queued_by e (producer_at z.producers p) ≤ confirmed_by e (producer_at z.producers p)) ⊎ IsFirst b x e → (queued_by e (producer_at z.producers p) ≤ confirmed_by e (producer_at z.producers p)) ⊎ IsFirst b y e
    one (inl h) = inl h
    one (inr h) = inr (first_kept b x y e m k.asked_on h)

    two : (queued_by e (producer_at z.producers p) ≤ confirmed_by e (producer_at z.producers p)) ⊎ IsSecond b x e → (queued_by e (producer_at z.producers p) ≤ confirmed_by e (producer_at z.producers p)) ⊎ IsSecond b y e
    two (inl h) = inl h
    two (inr h) = inr (m.live_on e h)

-- from an earlier beginning
pub repeats_before : (b : Base) (z x y : Alone) (p : ℕ) (e : List ℕ) → More b z x → Keeping b z x → Repeats b x p e y → Repeats b z p e y
repeats_before b z x y p e m k r = record { first = one r.first; second = λ h. two (r.second (m.homes_on (shard_of b.set e) h)); third = λ h. r.third (m.active_on e h) }
  where
    back : queued_by e (producer_at x.producers p) ≤ confirmed_by e (producer_at x.producers p) → queued_by e (producer_at z.producers p) ≤ confirmed_by e (producer_at z.producers p)
    back h = subst (λ n. n ≤ confirmed_by e (producer_at z.producers p)) (m.queued_on p e) (subst (λ n. queued_by e (producer_at x.producers p) ≤ n) (k.confirmed_are p e) h)

    one : (queued_by e (producer_at x.producers p) ≤ confirmed_by e (producer_at x.producers p)) ⊎ IsFirst b y e → (queued_by e (producer_at z.producers p) ≤ confirmed_by e (producer_at z.producers p)) ⊎ IsFirst b y e
    one (inl h) = inl (back h)
    one (inr h) = inr h

    two : (queued_by e (producer_at x.producers p) ≤ confirmed_by e (producer_at x.producers p)) ⊎ IsSecond b y e → (queued_by e (producer_at z.producers p) ≤ confirmed_by e (producer_at z.producers p)) ⊎ IsSecond b y e
    two (inl h) = inl (back h)
    two (inr h) = inr h

abbrev pub again_of : ℕ → List ℕ → Producer → List Act
again_of p e k = map (by_producer p) (map (pushed e) (to_repeat e k))

pub again_out : (b : Base) (z : Alone) (p : ℕ) (e : List ℕ) (k : Producer) → Stands b none_later z → 0 < p → IsThere b e → producer_at z.producers p ≡ Some k → confirmed e k.entries < queued e k.entries
    → Goes b none_later 6 (λ to. Keeping b z to × Repeats b z p e to) z (by_producer p (pushed e (confirmed e k.entries + 1)) ∷ (where_some (λ j. for_each after (λ n. route (message_of e j n)) (to_repeat e j) (fold after (node_with b z) (by_producer p (pushed e (confirmed e k.entries + 1)) ∷ []))) (at (fold after (node_with b z) (by_producer p (pushed e (confirmed e k.entries + 1)) ∷ [])).producers (p - 1)) ++ []))
again_out b z p e k s above there found out = by (was e)
  where
    c : ℕ
    c = confirmed e k.entries

    q : ℕ
    q = queued e k.entries

    d : ℕ
    d = (progress k e).demand

    t : ℕ
    t = (progress k e).sent

    x : Progress
    x = record { demand = d; sent = max t (c + 1) }

    new : Producer
    new = producer_after k (pushed e (c + 1))

    z1 : Alone
    z1 = with_producer z p new

    marks : List Act
    marks = by_producer p (pushed e (c + 1)) ∷ []

    own : (k.who ≡ b.who) × (k.set ≡ b.set) × (k.number ≡ p) × (length k.pairs ≡ length b.set.names)
    own = s.producing p k above found

    full : length k.pairs ≡ length b.set.names
    full = own.3

    node1 : fold after (node_with b z) marks ≡ node_with b z1
    node1 = ap (λ o. node_with b (record z { producers = slice_set z.producers (p - 1) (Rattle.yard_model.specs.Node.producer_by b.set b.who p o (pushed e (c + 1))) })) found

    confirmed_recorded : (f : List ℕ) → confirmed f k.entries ≤ recorded b z.hosted p f
    confirmed_recorded f = subst (λ o. confirmed_by f o ≤ recorded b z.hosted p f) found (s.bounded p f above).0

    put : (f : List ℕ) → ((f ≡ e) × (progress new f ≡ x)) ⊎ (progress new f ≡ progress k f)
    put = progress_put b k e x own.1 full there

    own_put : progress new e ≡ x
    own_put = get_or-set_same k.pairs (place k.set e) x no_progress (subst (λ m. place k.set e < m) (sym full) (subst (λ (y : Setting). place y e < length b.set.names) (sym own.1) there))

    was : (f : List ℕ) → PacedBy b z p k ⊥ (progress k f) f
    was f = subst (λ o. ((demand_by f o ≡ 0) × (sent_by f o ≤ confirmed_by f o + 1) × (list_any (is_requesting p f) z.wire ≡ false)) ⊎ ((is_active b z.cells f ≡ true) × ((sent_by f o ≤ recorded b z.hosted p f) ⊎ ⊥))) found (s.paced p f above)

    weaker : (late : Type 0) (y : Progress) (f : List ℕ) → PacedBy b z p k ⊥ y f → PacedBy b z p k late y f
    weaker late y f (inl h) = inl h
    weaker late y f (inr h) = inr (h.0, soft h.1)
      where
        soft : (y.sent ≤ recorded b z.hosted p f) ⊎ ⊥ → (y.sent ≤ recorded b z.hosted p f) ⊎ late
        soft (inl m) = inl m
        soft (inr m) = absurd m

    takes : (later : ℕ → List ℕ → Type 0) → PacedBy b z p k (later p e) x e → Takes b none_later later z p k new
    takes later of_e = record {
      above = above;
      found = found;
      is = (own.0, own.1, own.2, length-set k.pairs (place k.set e) x ∙ full);
      queued_is = λ f. refl;
      confirmed_on = λ f. le_itself (confirmed f k.entries);
      confirmed_recorded = confirmed_recorded;
      confirmed_queued = λ f. subst (λ o. confirmed_by f o ≤ queued_by f o) found (s.bounded p f above).1;
      paced = λ f. each f (put f);
      later_on = λ r f h. absurd h;
    }
      where
        each : (f : List ℕ) → ((f ≡ e) × (progress new f ≡ x)) ⊎ (progress new f ≡ progress k f) → PacedBy b z p k (later p f) (progress new f) f
        each f (inl h) = subst (λ y. PacedBy b z p k (later p f) y f) (sym h.1) (subst (λ g. PacedBy b z p k (later p g) x g) (sym h.0) of_e)
        each f (inr h) = subst (λ y. PacedBy b z p k (later p f) y f) (sym h) (weaker (later p f) (progress k f) f (was f))

    falls : (f : List ℕ) → ((f ≡ e) × (progress new f ≡ x)) ⊎ (progress new f ≡ progress k f) → left_by f (Some new) ≤ left_by f (Some k)
    falls f (inl h) = subst (λ (y : Progress). queued f k.entries - max y.sent (confirmed f k.entries) ≤ queued f k.entries - max (progress k f).sent (confirmed f k.entries)) (sym h.1)
        (subst (λ g. queued g k.entries - max (max t (c + 1)) (confirmed g k.entries) ≤ queued g k.entries - max (progress k g).sent (confirmed g k.entries)) (sym h.0) (lower c q t))
      where
        lower : (c q t : ℕ) → q - max (max t (c + 1)) c ≤ q - max t c
        lower c q t = omega arith
    falls f (inr h) = le_of _ _ (ap (λ (y : Progress). queued f k.entries - max y.sent (confirmed f k.entries)) h)

    saved : load b z1 + 6 ≤ load b z + 6
    saved = sums (load b z1) (load b z) (producer_costs b z p k new e 0 found there (λ f. falls f (put f)) (no_more (left_by e (Some new)) (left_by e (Some k)) (falls e (put e))))
      where
        sums : (x y : ℕ) → x + 6 * 0 ≤ y → x + 6 ≤ y + 6
        sums x y h = omega (arith, h)

        no_more : (x y : ℕ) → x ≤ y → x + 0 ≤ y
        no_more x y h = omega (arith, h)

    found1 : producer_at z1.producers p ≡ Some new
    found1 = placed_at z.producers (p - 1) (Some new) (inside z.producers (p - 1) k found)

    m : Message
    m = message_of e new (c + 1)

    repeat_is : to_repeat e new ≡ (c + 1) ∷ []
    repeat_is = ap (λ t. if t then (c + 1) ∷ [] else []) (is_below_of c q out)
      where
        is_below_of : (c q : ℕ) → c < q → nat_lt c q ≡ true
        is_below_of c q h = grind (arith, h)

    confirmed_kept : (to : Alone) → to.producers ≡ z1.producers → (r : ℕ) (f : List ℕ) → confirmed_by f (producer_at to.producers r) ≡ confirmed_by f (producer_at z.producers r)
    confirmed_kept to same r f = ap (λ l. confirmed_by f (producer_at l r)) same ∙ word_producer (confirmed_by f) z.producers p new (inside z.producers (p - 1) k found) (ap (confirmed_by f) (sym found)) r

    number : new.number ≡ p
    number = own.2

    result : (to : Alone) → Routed b z1 m to → Keeping b z to × Repeats b z p e to
    result to r = (
      record { homes_are = r.homes_are; asked_on = r.asked_on; confirmed_are = confirmed_kept to r.producers_are },
      record {
        first = inr (by_home (is_home_at b z.homes (shard_of b.set e)) refl);
        second = λ h. inr (r.is_there h);
        third = λ h. inr (reach (confirmed_by e (producer_at to.producers p)) (recorded b to.hosted p e) (confirmed_kept to r.producers_are p e ∙ ap (confirmed_by e) found) (subst (λ v. c + 1 ≤ recorded b to.hosted v e) number (r.is_recorded h)), subst (λ v. list_any (is_acking v e (recorded b to.hosted v e)) to.wire ≡ true) number (r.is_acked h));
      },
    )
      where
        reach : (y w : ℕ) → y ≡ c → c + 1 ≤ w → y < w
        reach y w g h = omega (arith, g, h)

        by_home : (t : Bool) → is_home_at b z.homes (shard_of b.set e) ≡ t → IsFirst b to e
        by_home true h = inl (ap (λ l. is_home_at b l (shard_of b.set e)) r.homes_are ∙ h)
        by_home false h = inr (r.is_asked h)

    routed : (later : ℕ → List ℕ → Type 0) → Takes b none_later later z p k new → ((to : Alone) → More b z to → Routed b z1 m to → (r : ℕ) (f : List ℕ) → 0 < r → later r f → (sent_by f (producer_at to.producers r) ≤ recorded b to.hosted r f) ⊎ ⊥)
        → Goes b none_later 6 (λ to. Keeping b z to × Repeats b z p e to) z (marks ++ (where_some (λ j. for_each after (λ n. route (message_of e j n)) (to_repeat e j) (fold after (node_with b z) marks)) (at (fold after (node_with b z) marks).producers (p - 1)) ++ []))
    routed later takes good =
        subst (λ st. Goes b none_later 6 (λ to. Keeping b z to × Repeats b z p e to) z (marks ++ (where_some (λ j. for_each after (λ n. route (message_of e j n)) (to_repeat e j) st) (at st.producers (p - 1)) ++ []))) (sym node1)
        (subst (λ o. Goes b none_later 6 (λ to. Keeping b z to × Repeats b z p e to) z (marks ++ (where_some (λ j. for_each after (λ n. route (message_of e j n)) (to_repeat e j) (node_with b z1)) o ++ []))) (sym found1)
        (subst (λ ns. Goes b none_later 6 (λ to. Keeping b z to × Repeats b z p e to) z (marks ++ (for_each after (λ n. route (message_of e new n)) ns (node_with b z1) ++ []))) (sym repeat_is)
        (subst (λ xs. Goes b none_later 6 (λ to. Keeping b z to × Repeats b z p e to) z (marks ++ xs)) (sym (append-nil (route m (node_with b z1) ++ []) ∙ append-nil (route m (node_with b z1))))
        (goes_saved b none_later 6 6 (λ to. Keeping b z to × Repeats b z p e to) z z1 marks (route m (node_with b z1)) node1 refl (producer_more b none_later later z p k new takes) saved refl
        (goes_also b none_later 6 6 (Routed b z1 m) (λ to. Keeping b z to × Repeats b z p e to) z1 _ (le_itself 6) (λ to u more r. result to r)
        (goes_later b later none_later 6 (Routed b z1 m) z1 _ (λ to more r v f is l. good to (more_both b z z1 to (producer_more b none_later later z p k new takes) more) r v f is l)
        (route_goes b later z1 m (put_producer b none_later later z p k new s takes)
        (message_fits b z1 p e new (c + 1) (record { above = above; there = there; found = found1; who_is = own.0; number_is = own.2 }) (positive c) (next c (recorded b z.hosted p e) (confirmed_recorded e)) (more_than c q out)))))))))
      where
        positive : (c : ℕ) → 0 < c + 1
        positive c = omega arith

        next : (c y : ℕ) → c ≤ y → c + 1 ≤ y + 1
        next c y h = omega (arith, h)

        more_than : (c q : ℕ) → c < q → c + 1 ≤ q
        more_than c q h = omega (arith, h)

    by : PacedBy b z p k ⊥ (progress k e) e → Goes b none_later 6 (λ to. Keeping b z to × Repeats b z p e to) z (marks ++ (where_some (λ j. for_each after (λ n. route (message_of e j n)) (to_repeat e j) (fold after (node_with b z) marks)) (at (fold after (node_with b z) marks).producers (p - 1)) ++ []))
    by (inl h) = routed none_later (takes none_later (inl (h.0, least t c h.1, h.2))) (λ to more r v f is l. absurd l)
      where
        least : (t c : ℕ) → t ≤ c + 1 → max t (c + 1) ≤ c + 1
        least t c h = omega (arith, h)
    by (inr h) = routed late (takes late (inr (h.0, inr (refl, refl)))) good
      where
        late : ℕ → List ℕ → Type 0
        late r f = (r ≡ p) × (f ≡ e)

        sent_recorded : t ≤ recorded b z.hosted p e
        sent_recorded = of h.1
          where
            of : (t ≤ recorded b z.hosted p e) ⊎ ⊥ → t ≤ recorded b z.hosted p e
            of (inl l) = l
            of (inr l) = absurd l

        most : (t c y w : ℕ) → t ≤ y → y ≤ w → c + 1 ≤ w → max t (c + 1) ≤ w
        most t c y w f g h = omega (arith, f, g, h)

        good : (to : Alone) → More b z to → Routed b z1 m to → (r : ℕ) (f : List ℕ) → 0 < r → late r f → (sent_by f (producer_at to.producers r) ≤ recorded b to.hosted r f) ⊎ ⊥
        good to more r v f is l = inl (subst (λ w. sent_by f (producer_at to.producers w) ≤ recorded b to.hosted w f) (sym l.0) (subst (λ g. sent_by g (producer_at to.producers p) ≤ recorded b to.hosted p g) (sym l.1)
            (subst (λ o. sent_by e o ≤ recorded b to.hosted p e) (sym (ap (λ l. at l (p - 1)) r.producers_are ∙ found1)) (subst (λ (y : Progress). y.sent ≤ recorded b to.hosted p e) (sym own_put)
            (most t c (recorded b z.hosted p e) (recorded b to.hosted p e) sent_recorded (more.recorded_on p e) (subst (λ v. c + 1 ≤ recorded b to.hosted v e) number (r.is_recorded h.0)))))))

pub again_goes : (b : Base) (z : Alone) (p : ℕ) (e : List ℕ) → Stands b none_later z → 0 < p → IsThere b e
    → Goes b none_later (6 * out_by e (producer_at z.producers p)) (λ to. Keeping b z to × Repeats b z p e to) z (send_again p e (node_with b z))
again_goes b z p e s above there = by (producer_at z.producers p) refl
  where
    also : Alone → Type 0
    also to = Keeping b z to × Repeats b z p e to

    nothing : {n : ℕ} → queued_by e (producer_at z.producers p) ≤ confirmed_by e (producer_at z.producers p) → Goes b none_later n (λ to. Keeping b z to × Repeats b z p e to) z []
    nothing {n = n} h = goes_also b none_later 0 n (λ to. Keeping b z to × Repeats b z p e to) (λ to. Keeping b z to × Repeats b z p e to) z [] (omega arith) (λ to t more x. x)
        (goes_none b none_later (λ to. Keeping b z to × Repeats b z p e to) z s (keeping_none b z, record { first = inl h; second = λ k. inl h; third = λ k. inl h }))

    by : (o : Option Producer) → producer_at z.producers p ≡ o → Goes b none_later (6 * out_by e (producer_at z.producers p)) (λ to. Keeping b z to × Repeats b z p e to) z (send_again p e (node_with b z))
    by None none = subst (λ o. Goes b none_later (6 * out_by e (producer_at z.producers p)) (λ to. Keeping b z to × Repeats b z p e to) z
        (where_some (again_of p e) o ++ (where_some (λ j. for_each after (λ n. route (message_of e j n)) (to_repeat e j) (fold after (node_with b z) (where_some (again_of p e) o))) (at (fold after (node_with b z) (where_some (again_of p e) o)).producers (p - 1)) ++ []))) (sym none)
        (subst (λ o. Goes b none_later (6 * out_by e (producer_at z.producers p)) (λ to. Keeping b z to × Repeats b z p e to) z (where_some (λ j. for_each after (λ n. route (message_of e j n)) (to_repeat e j) (node_with b z)) o ++ [])) (sym none)
        (nothing (subst (λ o. queued_by e o ≤ confirmed_by e o) (sym none) (le_itself 0))))
    by (Some k) found = subst (λ o. Goes b none_later (6 * out_by e (producer_at z.producers p)) (λ to. Keeping b z to × Repeats b z p e to) z
        (where_some (again_of p e) o ++ (where_some (λ j. for_each after (λ n. route (message_of e j n)) (to_repeat e j) (fold after (node_with b z) (where_some (again_of p e) o))) (at (fold after (node_with b z) (where_some (again_of p e) o)).producers (p - 1)) ++ []))) (sym found)
        (tested (nat_lt (confirmed e k.entries) (queued e k.entries)) refl)
      where
        abbrev_acts : Bool → List Act
        abbrev_acts t = map (by_producer p) (map (pushed e) (if t then (confirmed e k.entries + 1) ∷ [] else []))

        tested : (t : Bool) → nat_lt (confirmed e k.entries) (queued e k.entries) ≡ t → Goes b none_later (6 * out_by e (producer_at z.producers p)) (λ to. Keeping b z to × Repeats b z p e to) z
            (map (by_producer p) (map (pushed e) (if nat_lt (confirmed e k.entries) (queued e k.entries) then (confirmed e k.entries + 1) ∷ [] else []))
            ++ (where_some (λ j. for_each after (λ n. route (message_of e j n)) (to_repeat e j) (fold after (node_with b z) (map (by_producer p) (map (pushed e) (if nat_lt (confirmed e k.entries) (queued e k.entries) then (confirmed e k.entries + 1) ∷ [] else [])))))
            (at (fold after (node_with b z) (map (by_producer p) (map (pushed e) (if nat_lt (confirmed e k.entries) (queued e k.entries) then (confirmed e k.entries + 1) ∷ [] else [])))).producers (p - 1)) ++ []))
        tested true h = subst (λ t. Goes b none_later (6 * out_by e (producer_at z.producers p)) (λ to. Keeping b z to × Repeats b z p e to) z
            (map (by_producer p) (map (pushed e) (if t then (confirmed e k.entries + 1) ∷ [] else []))
            ++ (where_some (λ j. for_each after (λ n. route (message_of e j n)) (to_repeat e j) (fold after (node_with b z) (map (by_producer p) (map (pushed e) (if t then (confirmed e k.entries + 1) ∷ [] else [])))))
            (at (fold after (node_with b z) (map (by_producer p) (map (pushed e) (if t then (confirmed e k.entries + 1) ∷ [] else [])))).producers (p - 1)) ++ []))) (sym h)
            (goes_also b none_later 6 (6 * out_by e (producer_at z.producers p)) (λ to. Keeping b z to × Repeats b z p e to) (λ to. Keeping b z to × Repeats b z p e to) z _
            (six (queued_by e (producer_at z.producers p)) (confirmed_by e (producer_at z.producers p)) (subst (λ o. confirmed_by e o < queued_by e o) (sym found) (below (confirmed e k.entries) (queued e k.entries) h))) (λ to t more x. x)
            (again_out b z p e k s above there found (below (confirmed e k.entries) (queued e k.entries) h)))
          where
            six : (q c : ℕ) → c < q → 6 ≤ 6 * (q - c)
            six q c h = omega (arith, h)
        tested false h = subst (λ t. Goes b none_later (6 * out_by e (producer_at z.producers p)) (λ to. Keeping b z to × Repeats b z p e to) z
            (map (by_producer p) (map (pushed e) (if t then (confirmed e k.entries + 1) ∷ [] else []))
            ++ (where_some (λ j. for_each after (λ n. route (message_of e j n)) (to_repeat e j) (fold after (node_with b z) (map (by_producer p) (map (pushed e) (if t then (confirmed e k.entries + 1) ∷ [] else [])))))
            (at (fold after (node_with b z) (map (by_producer p) (map (pushed e) (if t then (confirmed e k.entries + 1) ∷ [] else [])))).producers (p - 1)) ++ []))) (sym h)
            (subst (λ o. Goes b none_later (6 * out_by e (producer_at z.producers p)) (λ to. Keeping b z to × Repeats b z p e to) z (where_some (λ j. for_each after (λ n. route (message_of e j n)) (to_repeat e j) (node_with b z)) o ++ [])) (sym found)
            (subst (λ t. Goes b none_later (6 * out_by e (producer_at z.producers p)) (λ to. Keeping b z to × Repeats b z p e to) z (for_each after (λ n. route (message_of e k n)) (if t then (confirmed e k.entries + 1) ∷ [] else []) (node_with b z) ++ [])) (sym h)
            (nothing (subst (λ o. queued_by e o ≤ confirmed_by e o) (sym found) (not_below (confirmed e k.entries) (queued e k.entries) h)))))

-- All pairs.

pub sum_same : {A : Type 0} (f g : A → ℕ) (xs : List A) → ((x : A) → g x ≤ f x) → sum_by g xs ≤ sum_by f xs
sum_same f g [] less = le_itself 0
sum_same f g (x ∷ xs) less = subst (λ n. n ≤ sum_by f (x ∷ xs)) (sym (sum_by-cons g x xs)) (subst (λ n. g x + sum_by g xs ≤ n) (sym (sum_by-cons f x xs)) (sums (g x) (f x) (sum_by g xs) (sum_by f xs) (less x) (sum_same f g xs less)))
  where
    sums : (a b c d : ℕ) → a ≤ b → c ≤ d → a + c ≤ b + d
    sums a b c d h k = omega (arith, h, k)

pub out_same : (b : Base) (x y : Alone) (p : ℕ) (e : List ℕ) → More b x y → out_by e (producer_at y.producers p) ≤ out_by e (producer_at x.producers p)
out_same b x y p e m = less (queued_by e (producer_at y.producers p)) (confirmed_by e (producer_at y.producers p)) (queued_by e (producer_at x.producers p)) (confirmed_by e (producer_at x.producers p)) (m.queued_on p e) (m.confirmed_on p e)
  where
    less : (q c r d : ℕ) → q ≡ r → d ≤ c → q - c ≤ r - d
    less q c r d e h = omega (arith, e, h)

pub names_again : (b : Base) (p : ℕ) (es : List (List ℕ)) (z : Alone) → Stands b none_later z → 0 < p → Each (IsThere b) es
    → Goes b none_later (6 * outs_at z p es) (λ to. Keeping b z to × Each (λ e. Repeats b z p e to) es) z (for_each after (send_again p) es (node_with b z))
names_again b p [] z s above there = goes_none b none_later (λ to. Keeping b z to × Each (λ e. Repeats b z p e to) []) z s (keeping_none b z, tt)
names_again b p (e ∷ es) z s above there =
    goes_also b none_later (6 * out_by e (producer_at z.producers p) + 6 * outs_at z p es) (6 * outs_at z p (e ∷ es)) (λ to. Keeping b z to × Each (λ e. Repeats b z p e to) (e ∷ es)) (λ to. Keeping b z to × Each (λ e. Repeats b z p e to) (e ∷ es)) z _
    (sums (out_by e (producer_at z.producers p)) (outs_at z p es) (outs_at z p (e ∷ es)) (sum_by-cons (λ e. out_by e (producer_at z.producers p)) e es)) (λ to t more x. x)
    (goes_turn b none_later none_later (6 * out_by e (producer_at z.producers p)) (6 * outs_at z p es) (λ to. Keeping b z to × Repeats b z p e to) (λ to. Keeping b z to × Each (λ e. Repeats b z p e to) (e ∷ es)) z (send_again p e) (for_each after (send_again p) es)
    (again_goes b z p e s above there.0)
    (λ mid t more x. goes_also b none_later (6 * outs_at mid p es) (6 * outs_at z p es) (λ to. Keeping b mid to × Each (λ e. Repeats b mid p e to) es) (λ to. Keeping b z to × Each (λ e. Repeats b z p e to) (e ∷ es)) mid _
    (six (outs_at mid p es) (outs_at z p es) (sum_same (λ e. out_by e (producer_at z.producers p)) (λ e. out_by e (producer_at mid.producers p)) es (λ f. out_same b z mid p f more)))
    (λ to u more2 y. (keeping_both b z mid to x.0 y.0, (repeats_kept b z mid to p e more2 y.0 x.1, each_map _ _ es (λ f r. repeats_before b z mid to p f more x.0 r) y.1)))
    (names_again b p es mid t above there.1)))
  where
    sums : (x y w : ℕ) → w ≡ x + y → 6 * x + 6 * y ≤ 6 * w
    sums x y w e = omega (arith, e)

    six : (x y : ℕ) → x ≤ y → 6 * x ≤ 6 * y
    six x y h = omega (arith, h)

pub producers_again : (b : Base) (ps : List ℕ) (z : Alone) → Stands b none_later z → Each (λ p. 0 < p) ps
    → Goes b none_later (6 * all_outs b z ps) (λ to. Keeping b z to × Each (λ p. Each (λ e. Repeats b z p e to) b.set.names) ps) z (for_each after (λ p. for_each after (send_again p) b.set.names) ps (node_with b z))
producers_again b [] z s above = goes_none b none_later (λ to. Keeping b z to × Each (λ p. Each (λ e. Repeats b z p e to) b.set.names) []) z s (keeping_none b z, tt)
producers_again b (p ∷ ps) z s above =
    goes_also b none_later (6 * outs_at z p b.set.names + 6 * all_outs b z ps) (6 * all_outs b z (p ∷ ps)) (λ to. Keeping b z to × Each (λ p. Each (λ e. Repeats b z p e to) b.set.names) (p ∷ ps)) (λ to. Keeping b z to × Each (λ p. Each (λ e. Repeats b z p e to) b.set.names) (p ∷ ps)) z _
    (sums (outs_at z p b.set.names) (all_outs b z ps) (all_outs b z (p ∷ ps)) (sum_by-cons (λ p. outs_at z p b.set.names) p ps)) (λ to t more x. x)
    (goes_turn b none_later none_later (6 * outs_at z p b.set.names) (6 * all_outs b z ps) (λ to. Keeping b z to × Each (λ e. Repeats b z p e to) b.set.names) (λ to. Keeping b z to × Each (λ p. Each (λ e. Repeats b z p e to) b.set.names) (p ∷ ps)) z
    (for_each after (send_again p) b.set.names) (for_each after (λ p. for_each after (send_again p) b.set.names) ps)
    (names_again b p b.set.names z s above.0 (all_there b [] b.set.names refl))
    (λ mid t more x. goes_also b none_later (6 * all_outs b mid ps) (6 * all_outs b z ps) (λ to. Keeping b mid to × Each (λ p. Each (λ e. Repeats b mid p e to) b.set.names) ps) (λ to. Keeping b z to × Each (λ p. Each (λ e. Repeats b z p e to) b.set.names) (p ∷ ps)) mid _
    (six (all_outs b mid ps) (all_outs b z ps) (sum_same (λ p. outs_at z p b.set.names) (λ p. outs_at mid p b.set.names) ps (λ r. sum_same (λ e. out_by e (producer_at z.producers r)) (λ e. out_by e (producer_at mid.producers r)) b.set.names (λ f. out_same b z mid r f more))))
    (λ to u more2 y. (keeping_both b z mid to x.0 y.0, (each_map _ _ b.set.names (λ f r. repeats_kept b z mid to p f more2 y.0 r) x.1, each_map _ _ ps (λ r h. each_map _ _ b.set.names (λ f w. repeats_before b z mid to r f more x.0 w) h) y.1)))
    (producers_again b ps mid t above.1)))
  where
    sums : (x y w : ℕ) → w ≡ x + y → 6 * x + 6 * y ≤ 6 * w
    sums x y w e = omega (arith, e)

    six : (x y : ℕ) → x ≤ y → 6 * x ≤ 6 * y
    six x y h = omega (arith, h)

-- The tick.

pub numbers_above : (n a : ℕ) → 0 < a → Each (λ p. 0 < p) (numbers a n)
numbers_above zero a h = tt
numbers_above (suc n) a h = (h, numbers_above n (a + 1) (next a))
  where
    next : (a : ℕ) → 0 < a + 1
    next a = omega arith

pub tick_goes : (b : Base) (z : Alone) (lists : SlotLists) → Stands b none_later z → z.wire ≡ []
    → Goes b none_later (6 * b.set.config.shards + 6 * all_outs b z (producers b.set)) (Ticked b z) z (tick lists (node_with b z))
tick_goes b z lists s empty =
    subst (λ xs. Goes b none_later (6 * b.set.config.shards + 6 * all_outs b z (producers b.set)) (Ticked b z) z (xs ++ all_in_turn (of_coordinator coordinator.tick_coordinator ∷ of_region region.tick_region ∷ rest) (fold after (node_with b z) xs))) (sym (lead_none b z lists s))
    (goes_also b none_later (2 * b.set.config.shards + (4 * b.set.config.shards + 6 * all_outs b z (producers b.set))) (6 * b.set.config.shards + 6 * all_outs b z (producers b.set)) (Ticked b z) (Ticked b z) z _ (sums b.set.config.shards (all_outs b z (producers b.set))) (λ to t more x. x)
    (goes_turn b none_later none_later (2 * b.set.config.shards) (4 * b.set.config.shards + 6 * all_outs b z (producers b.set)) (Ticks b z) (Ticked b z) z (of_coordinator coordinator.tick_coordinator) (all_in_turn (of_region region.tick_region ∷ rest)) (office_goes b z s)
    (λ mid t more k. goes_turn b none_later none_later (4 * b.set.config.shards) (6 * all_outs b z (producers b.set)) (Ticks b mid) (Ticked b z) mid (of_region region.tick_region) (all_in_turn rest) (region_goes b mid t)
    (λ mid2 t2 more2 k2. last mid2 t2 (more_both b z mid mid2 more more2) (ticks_both b z mid mid2 k k2)))))
  where
    sends : Rule
    sends = for_each after (λ p. for_each after (send_again p) b.set.names) (producers b.set)

    rest : List Rule
    rest = for_each after (start_again lists) (shards b.set) ∷ of_entities entities.tick_entities ∷ sends ∷ []

    sums : (x y : ℕ) → 2 * x + (4 * x + 6 * y) ≤ 6 * x + 6 * y
    sums x y = omega arith

    six : (x y : ℕ) → x ≤ y → 6 * x ≤ 6 * y
    six x y h = omega (arith, h)

    loaded : (e : List ℕ) → is_phase phase.Loading (cell_in b.set z.cells e).phase ≡ false
    loaded e = by (is_phase phase.Loading (cell_in b.set z.cells e).phase) refl
      where
        by : (t : Bool) → is_phase phase.Loading (cell_in b.set z.cells e).phase ≡ t → t ≡ false
        by true h = absurd (true≢false (sym (ap (list_any (is_recovering e)) (sym empty) ∙ s.loading e h)))
        by false h = refl

    last : (mid : Alone) → Stands b none_later mid → More b z mid → Ticks b z mid → Goes b none_later (6 * all_outs b z (producers b.set)) (Ticked b z) mid (all_in_turn rest (node_with b mid))
    last mid t more k =
        subst (λ xs. Goes b none_later (6 * all_outs b z (producers b.set)) (Ticked b z) mid (xs ++ all_in_turn (of_entities entities.tick_entities ∷ sends ∷ []) (fold after (node_with b mid) xs))) (sym (starts_none b mid lists (shards b.set) t))
        (subst (λ ms. Goes b none_later (6 * all_outs b z (producers b.set)) (Ticked b z) mid (map by_entities ms ++ all_in_turn (sends ∷ []) (fold after (node_with b mid) (map by_entities ms)))) (sym (reminds_none b mid t (λ e. ap (λ l. is_phase phase.Loading (cell_in b.set l e).phase) k.cells_are ∙ loaded e)))
        (goes_end b none_later (6 * all_outs b z (producers b.set)) (Ticked b z) mid (sends (node_with b mid))
        (goes_also b none_later (6 * all_outs b mid (producers b.set)) (6 * all_outs b z (producers b.set)) (λ to. Keeping b mid to × Each (λ p. Each (λ e. Repeats b mid p e to) b.set.names) (producers b.set)) (Ticked b z) mid _
        (six (all_outs b mid (producers b.set)) (all_outs b z (producers b.set)) (sum_same (λ p. outs_at z p b.set.names) (λ p. outs_at mid p b.set.names) (producers b.set) (λ r. sum_same (λ e. out_by e (producer_at z.producers r)) (λ e. out_by e (producer_at mid.producers r)) b.set.names (λ f. out_same b z mid r f more))))
        (λ to u more2 y. record { keeping = keeping_both b z mid to keeping y.0; repeats = each_map _ _ (producers b.set) (λ r h. each_map _ _ b.set.names (λ f w. repeats_before b z mid to r f more keeping w) h) y.1 })
        (producers_again b (producers b.set) mid t (numbers_above b.set.config.producers 1 (omega arith))))))
      where
        keeping : Keeping b z mid
        keeping = record { homes_are = k.homes_are; asked_on = k.asked_on; confirmed_are = λ r f. ap (λ l. confirmed_by f (producer_at l r)) k.producers_are }
