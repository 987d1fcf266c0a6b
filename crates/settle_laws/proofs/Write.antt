-- Deliver to an active entity: an old number is acknowledged, the next one is written.
use Rattle.std.proofs.Common.{◌≡◌, ◌≤◌, ◌⊎◌, inl, inr, ℕ, ◌+◌, List, [], ◌∷◌, ◌++◌, sym, ap, subst, ◌∙◌, refl, true, false, true≢false, arith}
use Rattle.std.specs.Prelude.{Bool, ◌==◌, ◌&&◌, cond, fold, Option, Some, None, is_none, if◌then◌else◌}
use Rattle.std.specs.List.{list_any}
use Rattle.std.proofs.lemmas.List.Sums.{sum_by_push}
use Rattle.yard_model.specs.declared.packet.Body.TheVariants as body
use Rattle.yard_model.specs.declared.packet.Packet.{Packet}
use Rattle.yard_model.specs.declared.packet.Message.{Message}
use Rattle.yard_model.specs.Entities.{Hosted, cell_in}
use Rattle.yard_model.specs.Node.{Act, after}
use Rattle.yard_model.specs.Producer.{Producer}
use Rattle.yard_model.specs.Script.{is_name}
use Rattle.yard_model.specs.Words.{at}
use Rattle.plain_laws.proofs.Booleans.{both, same_name, same_number, number_itself}
use Rattle.plain_laws.proofs.Names.{name_itself}
use Rattle.std.specs.List.{list_all}
use Rattle.settle_laws.specs.Alone.{is_entered, Base, Alone, node_with, wire_after, is_home_at, recorded, confirmed_by, queued_by, sent_by, producer_at, is_active, Fits, IsOwn, is_asking, is_recovering, is_requesting, is_acking, IsFast, AreBounded, Stands, weight, cells_load, wire_load, lefts, kept_load, Goes}
use Rattle.settle_laws.proofs.Records.{le_itself, le_of, le_then, is_pair_of}
use Rattle.settle_laws.proofs.Tools.{each_map, each_last, any_kept, any_last, none_last, posted_more, IsPaced, paced_more}
use Rattle.settle_laws.proofs.Deliver.{wire_sums, Writes}

-- Messages go on.

pub fits_more : (b : Base) (hosted hosted' : List (Option Hosted)) (producers producers' : List (Option Producer)) (m : Message) → ((p : ℕ) (e : List ℕ) → recorded b hosted p e ≤ recorded b hosted' p e)
    → ((p : ℕ) (e : List ℕ) → queued_by e (producer_at producers p) ≤ queued_by e (producer_at producers' p)) → Fits b hosted producers m → Fits b hosted' producers' m
fits_more b hosted hosted' producers producers' m f g h = (h.0, h.1, h.2, h.3, one_more m.number (recorded b hosted m.producer m.entity) (recorded b hosted' m.producer m.entity) h.4 (f m.producer m.entity), le_then m.number (queued_by m.entity (producer_at producers m.producer)) (queued_by m.entity (producer_at producers' m.producer)) h.5 (g m.producer m.entity))
  where
    one_more : (n x y : ℕ) → n ≤ x + 1 → x ≤ y → n ≤ y + 1
    one_more n x y h k = omega (arith, h, k)

-- A record, and its acknowledgement.

abbrev pub ack_of : Base → Message → ℕ → Packet
ack_of b m n = record { from = b.who; to = m.origin; body = body.Ack m.producer m.entity n }

abbrev pub with_record : Alone → List (Option Hosted) → Packet → Alone
with_record z hosted p = record z { hosted = hosted; wire = z.wire ++ p ∷ [] }

pub pair_is : (e : List ℕ) (r p : ℕ) (g : List ℕ) → is_pair_of e r p g ≡ true → (is_name e g ≡ true) × ((r == p) ≡ true)
pair_is e r p g = by (is_name e g)
  where
    by : (t : Bool) → (if t then r == p else false) ≡ true → (t ≡ true) × ((r == p) ≡ true)
    by true h = (refl, h)
    by false h = absurd (true≢false (sym h))

-- what is known of the next number
pub record IsNext (b : Base) (z : Alone) (m : Message) : Type 0 where
  pub fits : Fits b z.hosted z.producers m
  pub number_is : m.number ≡ recorded b z.hosted m.producer m.entity + 1
  pub active_is : is_active b z.cells m.entity ≡ true

pub record Wrote (b : Base) (later : ℕ → List ℕ → Type 0) (z : Alone) (m : Message) (to : Alone) : Type 0 where
  pub homes_are : to.homes ≡ z.homes
  pub producers_are : to.producers ≡ z.producers
  pub kept_are : to.kept ≡ z.kept
  pub asked_are : to.asked ≡ z.asked
  pub cells_are : to.cells ≡ z.cells
  pub is_recorded : m.number ≤ recorded b to.hosted m.producer m.entity
  pub is_acked : list_any (is_acking m.producer m.entity (recorded b to.hosted m.producer m.entity)) to.wire ≡ true
  pub fast_is : IsFast b (later m.producer m.entity) to.hosted to.cells to.producers m.producer m.entity

pub recorded_goes : (b : Base) (later : ℕ → List ℕ → Type 0) (z : Alone) (m : Message) (hosted : List (Option Hosted)) (acts : List Act) → Stands b later z → IsNext b z m → Writes b z.hosted hosted m.producer m.entity
    → (n : ℕ) → n ≡ recorded b z.hosted m.producer m.entity
    → fold after (node_with b z) acts ≡ node_with b (record z { hosted = hosted }) → fold wire_after z.wire acts ≡ z.wire ++ ack_of b m (n + 1) ∷ [] → list_all (is_entered b hosted) acts ≡ true → Goes b later 1 (Wrote b later z m) z acts
recorded_goes b later z m hosted acts s next w n n_is node wire entries = record {
  to = to;
  node_is = node;
  wire_is = wire;
  stands = record {
    base_is = s.base_is;
    homes_there = s.homes_there;
    asked_there = s.asked_there;
    kept_there = s.kept_there;
    hosted_there = w.full ∙ s.hosted_there;
    cells_there = s.cells_there;
    homes = s.homes;
    marks = s.marks;
    running = λ t. w.runs_are t ∙ s.running t;
    free = λ t h. s.free t (none_is (at z.hosted t) (sym (w.nones t) ∙ ap is_none h));
    hosts = λ t h. w.nones t ∙ s.hosts t h;
    regions_are = s.regions_are;
    lease_is = s.lease_is;
    allocated = s.allocated;
    asking = λ t h. wired t (s.asking t h);
    settled = s.settled;
    live = s.live;
    loading = λ f h. any_kept (is_recovering f) z.wire ack (s.loading f h);
    kept = λ t. each_map _ _ (Rattle.yard_model.specs.Region.kept_of z.kept t) (λ x h. (h.0, fits_on x h.1)) (s.kept t);
    stashed = λ f. each_map _ _ (cell_in b.set z.cells f).stash (λ x h. (h.0, fits_on x h.1)) (s.stashed f);
    posted = each_last (IsOwn b hosted z.cells) z.wire ack (posted_more b z.hosted hosted z.cells z.cells z.wire (λ f h. h) more s.posted)
        (refl, next.fits.0, (next.fits.1, next.fits.2, next.active_is, own_less n (recorded b z.hosted m.producer m.entity) (recorded b hosted m.producer m.entity) n_is (w.recorded_are m.producer m.entity ∙ ap (λ t. recorded b z.hosted m.producer m.entity + cond t 1 0) own_pair)));
    producing = s.producing;
    bounded = λ q f above. bounds q f (s.bounded q f above);
    paced = λ q f above. paced_more b (later q f) z.hosted hosted z.cells z.cells z.producers z.wire to.wire q f (λ h. h) (more q f) (λ h. none_last (is_requesting q f) z.wire ack h refl) (s.paced q f above);
  };
  costs = wire_sums (lefts b z.producers) (cells_load z.cells) (kept_load z.kept) (wire_load z.wire) (wire_load to.wire) 1 (sum_by_push (λ (p : Packet). weight p.body) z.wire ack);
  entered = entries;
  more = record {
    homes_on = λ t h. h;
    live_on = λ e h. h;
    active_on = λ e h. h;
    recorded_on = more;
    confirmed_on = λ q f. le_itself (confirmed_by f (producer_at z.producers q));
    queued_on = λ q f. refl;
    holds_on = λ q h. h;
    posted_on = λ q h. any_kept q z.wire ack h;
    hosts_on = λ t h. w.nones t ∙ h;
    answered = λ q f. answers q f (is_pair_of m.entity m.producer q f) refl;
  };
  also_is = record {
    homes_are = refl;
    producers_are = refl;
    kept_are = refl;
    asked_are = refl;
    cells_are = refl;
    is_recorded = le_of m.number (recorded b hosted m.producer m.entity) (next.number_is ∙ sym own_recorded);
    is_acked = own_acked;
    fast_is = (next.active_is, fast (s.paced m.producer m.entity next.fits.1));
  };
}
  where
    ack : Packet
    ack = ack_of b m (n + 1)

    to : Alone
    to = with_record z hosted ack

    none_is : (o : Option Hosted) → is_none o ≡ true → o ≡ None
    none_is None h = refl
    none_is (Some x) h = absurd (true≢false (sym h))

    plus : (x : ℕ) (t : Bool) → x ≤ x + cond t 1 0
    plus x true = omega arith
    plus x false = omega arith

    more : (q : ℕ) (f : List ℕ) → recorded b z.hosted q f ≤ recorded b hosted q f
    more q f = subst (λ x. recorded b z.hosted q f ≤ x) (sym (w.recorded_are q f)) (plus (recorded b z.hosted q f) (is_pair_of m.entity m.producer q f))

    own_pair : is_pair_of m.entity m.producer m.producer m.entity ≡ true
    own_pair = ap (λ t. if t then m.producer == m.producer else false) (name_itself m.entity) ∙ number_itself m.producer m.producer refl

    own_recorded : recorded b hosted m.producer m.entity ≡ recorded b z.hosted m.producer m.entity + 1
    own_recorded = w.recorded_are m.producer m.entity ∙ ap (λ t. recorded b z.hosted m.producer m.entity + cond t 1 0) own_pair

    own_acked : list_any (is_acking m.producer m.entity (recorded b hosted m.producer m.entity)) to.wire ≡ true
    own_acked = any_last (is_acking m.producer m.entity (recorded b hosted m.producer m.entity)) z.wire ack
        (both ((m.producer == m.producer) && is_name m.entity m.entity) (n + 1 == recorded b hosted m.producer m.entity) (both (m.producer == m.producer) (is_name m.entity m.entity) (number_itself m.producer m.producer refl) (name_itself m.entity))
        (number_itself (n + 1) (recorded b hosted m.producer m.entity) (ap (λ x. x + 1) n_is ∙ sym own_recorded)))

    own_less : (x y z : ℕ) → x ≡ y → z ≡ y + 1 → x + 1 ≤ z
    own_less x y z e f = omega (arith, e, f)

    fits_on : (x : Message) → Fits b z.hosted z.producers x → Fits b hosted z.producers x
    fits_on x = fits_more b z.hosted hosted z.producers z.producers x more (λ p e. le_itself (queued_by e (producer_at z.producers p)))

    wired : (t : ℕ) → (is_home_at b z.homes t ≡ true) ⊎ (list_any (is_asking t) z.wire ≡ true) → (is_home_at b z.homes t ≡ true) ⊎ (list_any (is_asking t) to.wire ≡ true)
    wired t (inl h) = inl h
    wired t (inr h) = inr (any_kept (is_asking t) z.wire ack h)

    least : (q : ℕ) (f : List ℕ) (t : Bool) → is_pair_of m.entity m.producer q f ≡ t → AreBounded b z.hosted z.producers q f → recorded b z.hosted q f + cond t 1 0 ≤ b.made q f
    least q f false k h = zeros (recorded b z.hosted q f) (b.made q f) h.3
      where
        zeros : (x y : ℕ) → x ≤ y → x + 0 ≤ y
        zeros x y h = omega (arith, h)
    least q f true k h =
        let pair : (is_name m.entity f ≡ true) × ((m.producer == q) ≡ true) = pair_is m.entity m.producer q f k in
        let entity : m.entity ≡ f = same_name m.entity f pair.0 in
        let producer : m.producer ≡ q = same_number m.producer q pair.1 in
        subst (λ g. recorded b z.hosted q g + 1 ≤ b.made q g) entity (subst (λ r. recorded b z.hosted r m.entity + 1 ≤ b.made r m.entity) producer
        (ends m.number (recorded b z.hosted m.producer m.entity) (queued_by m.entity (producer_at z.producers m.producer)) (b.made m.producer m.entity) next.number_is next.fits.5
        (s.bounded m.producer m.entity next.fits.1).2))
      where
        ends : (n x q y : ℕ) → n ≡ x + 1 → n ≤ q → q ≤ y → x + 1 ≤ y
        ends n x q y e h k = omega (arith, e, h, k)

    bounds : (q : ℕ) (f : List ℕ) → AreBounded b z.hosted z.producers q f → AreBounded b hosted z.producers q f
    bounds q f h = (le_then (confirmed_by f (producer_at z.producers q)) (recorded b z.hosted q f) (recorded b hosted q f) h.0 (more q f), h.1, h.2, subst (λ x. x ≤ b.made q f) (sym (w.recorded_are q f)) (least q f (is_pair_of m.entity m.producer q f) refl h))

    answers : (q : ℕ) (f : List ℕ) (t : Bool) → is_pair_of m.entity m.producer q f ≡ t → (recorded b hosted q f ≡ recorded b z.hosted q f) ⊎ (list_any (is_acking q f (recorded b hosted q f)) to.wire ≡ true)
    answers q f false k = inl (w.recorded_are q f ∙ (ap (λ t. recorded b z.hosted q f + cond t 1 0) k ∙ zeros (recorded b z.hosted q f)))
      where
        zeros : (x : ℕ) → x + 0 ≡ x
        zeros x = omega arith
    answers q f true k =
        let pair : (is_name m.entity f ≡ true) × ((m.producer == q) ≡ true) = pair_is m.entity m.producer q f k in
        let entity : m.entity ≡ f = same_name m.entity f pair.0 in
        let producer : m.producer ≡ q = same_number m.producer q pair.1 in
        inr (any_last (is_acking q f (recorded b hosted q f)) z.wire ack
        (all_three (m.producer == q) (is_name m.entity f) (n + 1 == recorded b hosted q f) pair.1 pair.0
        (number_itself (n + 1) (recorded b hosted q f) (subst (λ g. n + 1 ≡ recorded b hosted q g) entity (subst (λ r. n + 1 ≡ recorded b hosted r m.entity) producer (ap (λ x. x + 1) n_is ∙ sym own_recorded))))))
      where
        all_three : (x y z : Bool) → x ≡ true → y ≡ true → z ≡ true → (x && y && z) ≡ true
        all_three x y z h k l = both (x && y) z (both x y h k) l

    fast : IsPaced b (later m.producer m.entity) z.hosted z.cells z.producers z.wire m.producer m.entity → (sent_by m.entity (producer_at z.producers m.producer) ≤ recorded b hosted m.producer m.entity) ⊎ later m.producer m.entity
    fast (inl h) = inl (first (sent_by m.entity (producer_at z.producers m.producer)) (confirmed_by m.entity (producer_at z.producers m.producer)) (recorded b z.hosted m.producer m.entity) (recorded b hosted m.producer m.entity) h.1 (s.bounded m.producer m.entity next.fits.1).0 own_recorded)
      where
        first : (t c x y : ℕ) → t ≤ c + 1 → c ≤ x → y ≡ x + 1 → t ≤ y
        first t c x y h k e = omega (arith, h, k, e)
    fast (inr h) = second h.1
      where
        second : (sent_by m.entity (producer_at z.producers m.producer) ≤ recorded b z.hosted m.producer m.entity) ⊎ later m.producer m.entity → (sent_by m.entity (producer_at z.producers m.producer) ≤ recorded b hosted m.producer m.entity) ⊎ later m.producer m.entity
        second (inl k) = inl (le_then (sent_by m.entity (producer_at z.producers m.producer)) (recorded b z.hosted m.producer m.entity) (recorded b hosted m.producer m.entity) k (more m.producer m.entity))
        second (inr k) = inr k
