-- Push: what was sent is marked, and each number that may be sent is routed.
use Rattle.std.proofs.Common.{◌≡◌, ◌<◌, ◌≤◌, ◌⊎◌, inl, inr, ℕ, zero, suc, ◌+◌, ◌-◌, ◌*◌, List, [], ◌++◌, length, sym, ap, subst, ◌∙◌, refl, true, false, arith}
use Rattle.std.specs.Prelude.{fold, Some, slice_index_or, slice_set}
use Rattle.std.proofs.lemmas.List.{get_or-set_same, get_or-set_other}
use Rattle.yard_model.specs.declared.packet.Message.{Message}
use Rattle.yard_model.specs.Node.{Act, after}
use Rattle.yard_model.specs.Producer.{Producer}
use Rattle.yard_model.specs.Script.{Setting}
use Rattle.yard_model.specs.Setting.{place}
use Rattle.yard_model.specs.Words.{at}
use Rattle.plain_laws.proofs.Lists.{by_place}
use Rattle.std.specs.List.{list_all}
use Rattle.settle_laws.proofs.Tools.{entered_both}
use Rattle.settle_laws.specs.Alone.{is_entered, Base, Alone, node_with, wire_after, recorded, queued_by, sent_by, producer_at, IsThere, is_active, Fits, Stands, load, More, Goes}
use Rattle.settle_laws.proofs.Records.{le_itself}
use Rattle.settle_laws.proofs.Tools.{IsPaced, more_both, goes_none, goes_also}
use Rattle.yard_model.specs.Node.{route}
use Rattle.yard_model.specs.Words.{numbers}
use Rattle.yard_model.specs.Producer.{Progress, no_progress, progress}
use Rattle.yard_model.specs.SlotReads.{queued}
use Rattle.std.specs.List.{fold}
use Rattle.std.proofs.lemmas.List.Sums.{fold-append}
use Rattle.settle_laws.proofs.Tools.{same_place}
use Rattle.settle_laws.proofs.Routes.{Routed, route_goes}
use Rattle.yard_model.specs.Producer.{message_of, progress_in}
use Rattle.yard_model.specs.Turns.{for_each}
use Rattle.settle_laws.proofs.Tools.{goes_turn}

-- Acts that save, and then acts that cost.

pub goes_saved : (b : Base) (later : ℕ → List ℕ → Type 0) (n m : ℕ) (also : Alone → Type 0) (z mid : Alone) (xs ys : List Act) → fold after (node_with b z) xs ≡ node_with b mid → fold wire_after z.wire xs ≡ mid.wire → More b z mid
    → load b mid + n ≤ load b z + m → list_all (is_entered b mid.hosted) xs ≡ true → Goes b later n also mid ys → Goes b later m also z (xs ++ ys)
goes_saved b later n m also z mid xs ys node wire more saved entries g = record {
  to = g.to;
  node_is = fold-append after (node_with b z) xs ys ∙ (ap (λ st. fold after st ys) node ∙ g.node_is);
  wire_is = fold-append wire_after z.wire xs ys ∙ (ap (λ w. fold wire_after w ys) wire ∙ g.wire_is);
  stands = g.stands;
  costs = sums (load b z) (load b mid) (load b g.to) n m saved g.costs;
  entered = entered_both b mid.hosted g.to.hosted xs ys g.more.hosts_on entries g.entered;
  more = more_both b z mid g.to more g.more;
  also_is = g.also_is;
}
  where
    sums : (x y w n m : ℕ) → y + n ≤ x + m → w ≤ y + n → w ≤ x + m
    sums x y w n m h k = omega (arith, h, k)

-- what stands of pairs that are being pushed is made good
pub stands_paced : (b : Base) (later later' : ℕ → List ℕ → Type 0) (z : Alone) → ((p : ℕ) (e : List ℕ) → 0 < p → later p e → (sent_by e (producer_at z.producers p) ≤ recorded b z.hosted p e) ⊎ later' p e) → Stands b later z → Stands b later' z
stands_paced b later later' z good s = record {
  base_is = s.base_is;
  homes_there = s.homes_there;
  asked_there = s.asked_there;
  kept_there = s.kept_there;
  hosted_there = s.hosted_there;
  cells_there = s.cells_there;
  homes = s.homes;
  marks = s.marks;
  running = s.running;
  free = s.free;
  hosts = s.hosts;
  regions_are = s.regions_are;
  lease_is = s.lease_is;
  allocated = s.allocated;
  asking = s.asking;
  settled = s.settled;
  live = s.live;
  loading = s.loading;
  kept = s.kept;
  stashed = s.stashed;
  posted = s.posted;
  producing = s.producing;
  bounded = s.bounded;
  paced = λ p e above. better p e above (s.paced p e above);
}
  where
    better : (p : ℕ) (e : List ℕ) → 0 < p → IsPaced b (later p e) z.hosted z.cells z.producers z.wire p e → IsPaced b (later' p e) z.hosted z.cells z.producers z.wire p e
    better p e above (inl h) = inl h
    better p e above (inr h) = inr (h.0, by h.1)
      where
        by : (sent_by e (producer_at z.producers p) ≤ recorded b z.hosted p e) ⊎ later p e → (sent_by e (producer_at z.producers p) ≤ recorded b z.hosted p e) ⊎ later' p e
        by (inl k) = inl k
        by (inr k) = good p e above k

pub goes_later : (b : Base) (later later' : ℕ → List ℕ → Type 0) (n : ℕ) (also : Alone → Type 0) (z : Alone) (xs : List Act) → ((to : Alone) → More b z to → also to → (p : ℕ) (e : List ℕ) → 0 < p → later p e → (sent_by e (producer_at to.producers p) ≤ recorded b to.hosted p e) ⊎ later' p e)
    → Goes b later n also z xs → Goes b later' n also z xs
goes_later b later later' n also z xs good g = record { to = g.to; node_is = g.node_is; wire_is = g.wire_is; stands = stands_paced b later later' g.to (good g.to g.more g.also_is) g.stands; costs = g.costs; entered = g.entered; more = g.more; also_is = g.also_is }

-- Numbers are routed.

pub record Sent (b : Base) (z : Alone) (p : ℕ) (e : List ℕ) (a n : ℕ) (to : Alone) : Type 0 where
  pub homes_are : to.homes ≡ z.homes
  pub producers_are : to.producers ≡ z.producers
  pub is_recorded : is_active b z.cells e ≡ true → 0 < n → a + n ≤ recorded b to.hosted p e + 1
  pub asked_on : (s : ℕ) → slice_index_or z.asked s false ≡ true → slice_index_or to.asked s false ≡ true

-- the producer, as its messages show it
pub record Sends (b : Base) (z : Alone) (p : ℕ) (e : List ℕ) (k : Producer) : Type 0 where
  pub above : 0 < p
  pub there : IsThere b e
  pub found : producer_at z.producers p ≡ Some k
  pub who_is : k.who ≡ b.who
  pub number_is : k.number ≡ p

pub message_fits : (b : Base) (z : Alone) (p : ℕ) (e : List ℕ) (k : Producer) (a : ℕ) → Sends b z p e k → 0 < a → a ≤ recorded b z.hosted p e + 1 → a ≤ queued e k.entries → Fits b z.hosted z.producers (message_of e k a)
message_fits b z p e k a d positive next queued_is = (
  d.who_is,
  subst (λ q. 0 < q) (sym d.number_is) d.above,
  d.there,
  positive,
  subst (λ q. a ≤ recorded b z.hosted q e + 1) (sym d.number_is) next,
  subst (λ q. a ≤ queued_by e (producer_at z.producers q)) (sym d.number_is) (subst (λ o. a ≤ queued_by e o) (sym d.found) queued_is),
)

pub routes_goes : (b : Base) (later : ℕ → List ℕ → Type 0) (p : ℕ) (e : List ℕ) (k : Producer) (n a : ℕ) (z : Alone) → Stands b later z → Sends b z p e k → 0 < a → (0 < n → a ≤ recorded b z.hosted p e + 1) → (0 < n → a + n ≤ queued e k.entries + 1)
    → (is_active b z.cells e ≡ true) ⊎ (n ≤ 1) → Goes b later (6 * n) (Sent b z p e a n) z (for_each after (λ n. route (message_of e k n)) (numbers a n) (node_with b z))
routes_goes b later p e k zero a z s d positive next queued_is fast = goes_also b later 0 0 (λ to. to ≡ z) (Sent b z p e a 0) z [] (omega arith)
    (λ to t more same. record { homes_are = ap (λ (x : Alone). x.homes) same; producers_are = ap (λ (x : Alone). x.producers) same; is_recorded = λ h k. absurd (nothing k); asked_on = λ u h. ap (λ (x : Alone). slice_index_or x.asked u false) same ∙ h })
    (goes_none b later (λ to. to ≡ z) z s refl)
  where
    nothing : 0 < 0 → ⊥
    nothing h = omega (arith, h)
routes_goes b later p e k (suc n) a z s d positive next queued_is fast =
    goes_also b later (6 + 6 * n) (6 * suc n) (Sent b z p e a (suc n)) (Sent b z p e a (suc n)) z _ (six n) (λ to t more x. x)
    (goes_turn b later later 6 (6 * n) (Routed b z m) (Sent b z p e a (suc n)) z (route m) (for_each after (λ n. route (message_of e k n)) (numbers (a + 1) n))
    (route_goes b later z m s (message_fits b z p e k a d positive (next (above n)) (first a n (queued e k.entries) (queued_is (above n)))))
    (λ mid t more r. goes_also b later (6 * n) (6 * n) (Sent b mid p e (a + 1) n) (Sent b z p e a (suc n)) mid _ (le_itself (6 * n))
    (λ to u more2 x. record {
      homes_are = x.homes_are ∙ r.homes_are;
      producers_are = x.producers_are ∙ r.producers_are;
      is_recorded = λ h k. ends n (recorded b mid.hosted p e) (recorded b to.hosted p e) (own mid r h) (more2.recorded_on p e) (λ j. x.is_recorded (more.active_on e h) j);
      asked_on = λ v h. x.asked_on v (r.asked_on v h);
    })
    (routes_goes b later p e k n (a + 1) mid t (record { above = d.above; there = d.there; found = ap (λ l. at l (p - 1)) r.producers_are ∙ d.found; who_is = d.who_is; number_is = d.number_is }) (more_positive a)
    (λ h. further mid r h fast) (λ h. rest a n (queued e k.entries) (queued_is (above n))) (still mid more fast))))
  where
    m : Message
    m = message_of e k a

    above : (n : ℕ) → 0 < suc n
    above n = omega arith

    six : (n : ℕ) → 6 + 6 * n ≤ 6 * suc n
    six n = omega arith

    first : (a n q : ℕ) → a + suc n ≤ q + 1 → a ≤ q
    first a n q h = omega (arith, h)

    rest : (a n q : ℕ) → a + suc n ≤ q + 1 → a + 1 + n ≤ q + 1
    rest a n q h = omega (arith, h)

    more_positive : (a : ℕ) → 0 < a + 1
    more_positive a = omega arith

    own : (mid : Alone) → Routed b z m mid → is_active b z.cells e ≡ true → a ≤ recorded b mid.hosted p e
    own mid r h = subst (λ q. a ≤ recorded b mid.hosted q e) d.number_is (r.is_recorded h)

    ends : (n x y : ℕ) → a ≤ x → x ≤ y → (0 < n → a + 1 + n ≤ y + 1) → a + suc n ≤ y + 1
    ends zero x y h k f = omega (arith, h, k)
    ends (suc n) x y h k f = let g : a + 1 + suc n ≤ y + 1 = f (omega arith) in omega (arith, g)

    further : (mid : Alone) → Routed b z m mid → 0 < n → (is_active b z.cells e ≡ true) ⊎ (suc n ≤ 1) → a + 1 ≤ recorded b mid.hosted p e + 1
    further mid r h (inl active) = let g : a ≤ recorded b mid.hosted p e = own mid r active in omega (arith, g)
    further mid r h (inr few) = absurd (none n h few)
      where
        none : (n : ℕ) → 0 < n → suc n ≤ 1 → ⊥
        none n h k = omega (arith, h, k)

    still : (mid : Alone) → More b z mid → (is_active b z.cells e ≡ true) ⊎ (suc n ≤ 1) → (is_active b mid.cells e ≡ true) ⊎ (n ≤ 1)
    still mid more (inl active) = inl (more.active_on e active)
    still mid more (inr few) = inr (fewer n few)
      where
        fewer : (n : ℕ) → suc n ≤ 1 → n ≤ 1
        fewer n h = omega (arith, h)

-- The words of one pair are put.

pub progress_put : (b : Base) (k : Producer) (e : List ℕ) (x : Progress) → k.set ≡ b.set → length k.pairs ≡ length b.set.names → IsThere b e → (f : List ℕ)
    → ((f ≡ e) × (progress_in k.set (slice_set k.pairs (place k.set e) x) f ≡ x)) ⊎ (progress_in k.set (slice_set k.pairs (place k.set e) x) f ≡ progress k f)
progress_put b k e x set full there f = by_place _ (place k.set f) (place k.set e)
    (λ same. inl (same_place b e f there (ap (λ y. place y f) (sym set) ∙ (same ∙ ap (λ y. place y e) set)), ap (λ i. slice_index_or (slice_set k.pairs (place k.set e) x) i no_progress) same ∙ get_or-set_same k.pairs (place k.set e) x no_progress inside))
    (λ other. inr (get_or-set_other k.pairs (place k.set e) (place k.set f) x no_progress other))
  where
    inside : place k.set e < length k.pairs
    inside = subst (λ n. place k.set e < n) (sym full) (subst (λ (y : Setting). place y e < length b.set.names) (sym set) there)
