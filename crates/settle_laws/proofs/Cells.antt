-- Rules of one entity: starting, stashing, acknowledging, writing.
use Rattle.std.proofs.Common.{◌≡◌, ◌≢◌, ◌<◌, ◌≤◌, ◌⊎◌, inl, inr, ℕ, ◌+◌, ◌*◌, List, [], ◌∷◌, ◌++◌, length, map, sym, ap, subst, ◌∙◌, refl, true, true≢false, arith}
use Rattle.std.specs.Prelude.{Bool, is_none, slice_set}
use Rattle.std.specs.List.{list_any}
use Rattle.std.proofs.lemmas.List.{get_or-set_other, length-set}
use Rattle.std.proofs.lemmas.List.Sums.{sum_by-set, sum_by_push}
use Rattle.yard_model.specs.declared.fact.Fact.TheVariants as fact
use Rattle.yard_model.specs.declared.packet.Body.TheVariants as body
use Rattle.yard_model.specs.declared.packet.Packet.{Packet}
use Rattle.yard_model.specs.declared.packet.Message.{Message}
use Rattle.yard_model.specs.declared.input.Phase.TheVariants as phase
use Rattle.yard_model.specs.Entities as entities
use Rattle.yard_model.specs.Entities.{Cell, Hosted, cell_in, cell_after, is_phase, new_cell, stash_step, entered}
use Rattle.yard_model.specs.Move.{told}
use Rattle.yard_model.specs.Node.{by_entities}
use Rattle.yard_model.specs.Setting.{place, shard_of}
use Rattle.yard_model.specs.Words.{is_empty}
use Rattle.plain_laws.proofs.Booleans.{and_both}
use Rattle.plain_laws.proofs.Names.{name_itself}
use Rattle.settle_laws.specs.Alone.{Base, Alone, entities_at, is_home_at, recorded, confirmed_by, producer_at, IsThere, is_live, is_active, is_settled, is_settled_by, Each, Fits, IsOwn, is_asking, is_recovering, is_requesting, Stands, weight, cell_load, cells_load, wire_load, lefts, kept_load, total, load, More, Goes}
use Rattle.settle_laws.proofs.Records.{le_itself}
use Rattle.settle_laws.proofs.Tools.{each_last, any_kept, any_last, none_last, cell_all, own_cell, cells_more, posted_more, IsPaced, paced_more}

-- A cell is put.

abbrev pub with_cell : Base → Alone → List ℕ → Cell → List Packet → Alone
with_cell b z e c wire = record z { cells = slice_set z.cells (place b.set e) c; wire = wire }

-- what is asked of the new cell, and of the wire
pub record Puts (b : Base) (later : ℕ → List ℕ → Type 0) (z : Alone) (e : List ℕ) (c : Cell) (wire : List Packet) : Type 0 where
  pub there : IsThere b e
  pub settled : is_settled c ≡ true
  pub live : is_live c.phase ≡ true → is_home_at b z.homes (shard_of b.set e) ≡ true
  pub loading : is_phase phase.Loading c.phase ≡ true → list_any (is_recovering e) wire ≡ true
  pub stashed : Each (λ m. (m.entity ≡ e) × Fits b z.hosted z.producers m) c.stash
  pub live_on : is_live (cell_in b.set z.cells e).phase ≡ true → is_live c.phase ≡ true
  pub active_on : is_phase phase.Active (cell_in b.set z.cells e).phase ≡ true → is_phase phase.Active c.phase ≡ true
  pub wire_on : (q : Packet → Bool) → list_any q z.wire ≡ true → list_any q wire ≡ true
  pub own : Each (IsOwn b z.hosted (slice_set z.cells (place b.set e) c)) wire
  pub paced : (p : ℕ) (f : List ℕ) → 0 < p → IsPaced b (later p f) z.hosted (slice_set z.cells (place b.set e) c) z.producers wire p f

pub put_stands : (b : Base) (later : ℕ → List ℕ → Type 0) (z : Alone) (e : List ℕ) (c : Cell) (wire : List Packet) → Stands b later z → Puts b later z e c wire → Stands b later (with_cell b z e c wire)
put_stands b later z e c wire s u = record {
  base_is = s.base_is;
  homes_there = s.homes_there;
  asked_there = s.asked_there;
  kept_there = s.kept_there;
  hosted_there = s.hosted_there;
  cells_there = length-set z.cells (place b.set e) c ∙ s.cells_there;
  homes = s.homes;
  marks = s.marks;
  running = s.running;
  free = s.free;
  hosts = s.hosts;
  regions_are = s.regions_are;
  lease_is = s.lease_is;
  allocated = s.allocated;
  asking = λ t h. wired t (s.asking t h);
  settled = cell_all b (λ f x. is_settled x ≡ true) z.cells e c s.cells_there u.there u.settled s.settled;
  live = cell_all b (λ f x. is_live x.phase ≡ true → is_home_at b z.homes (shard_of b.set f) ≡ true) z.cells e c s.cells_there u.there u.live s.live;
  loading = cell_all b (λ f x. is_phase phase.Loading x.phase ≡ true → list_any (is_recovering f) wire ≡ true) z.cells e c s.cells_there u.there u.loading (λ f h. u.wire_on (is_recovering f) (s.loading f h));
  kept = s.kept;
  stashed = cell_all b (λ f x. Each (λ m. (m.entity ≡ f) × Fits b z.hosted z.producers m) x.stash) z.cells e c s.cells_there u.there u.stashed s.stashed;
  posted = u.own;
  producing = s.producing;
  bounded = s.bounded;
  paced = u.paced;
}
  where
    wired : (t : ℕ) → (is_home_at b z.homes t ≡ true) ⊎ (list_any (is_asking t) z.wire ≡ true) → (is_home_at b z.homes t ≡ true) ⊎ (list_any (is_asking t) wire ≡ true)
    wired t (inl h) = inl h
    wired t (inr h) = inr (u.wire_on (is_asking t) h)

pub put_more : (b : Base) (later : ℕ → List ℕ → Type 0) (z : Alone) (e : List ℕ) (c : Cell) (wire : List Packet) → Stands b later z → Puts b later z e c wire → More b z (with_cell b z e c wire)
put_more b later z e c wire s u = record {
  homes_on = λ t h. h;
  live_on = cells_more b (λ x. is_live x.phase) z.cells e c s.cells_there u.there u.live_on;
  active_on = cells_more b (λ x. is_phase phase.Active x.phase) z.cells e c s.cells_there u.there u.active_on;
  recorded_on = λ p f. le_itself (recorded b z.hosted p f);
  confirmed_on = λ p f. le_itself (confirmed_by f (producer_at z.producers p));
  queued_on = λ p f. refl;
  holds_on = λ q h. h;
  posted_on = u.wire_on;
  hosts_on = λ t h. h;
  answered = λ p f. inl refl;
}

-- what it costs: x and y the cell's load before and after, w what is posted
pub put_costs : (b : Base) (z : Alone) (e : List ℕ) (c : Cell) (wire : List Packet) (x y w n : ℕ) → length z.cells ≡ length b.set.names → IsThere b e
    → cell_load (cell_in b.set z.cells e).phase (cell_in b.set z.cells e).stash ≡ x → cell_load c.phase c.stash ≡ y → wire_load wire ≡ wire_load z.wire + w → y + w ≤ x + n
    → load b (with_cell b z e c wire) ≤ load b z + n
put_costs b z e c wire x y w n full there before now posted less =
    sums (lefts b z.producers) (cells_load z.cells) (cells_load (slice_set z.cells (place b.set e) c)) (kept_load z.kept) (wire_load z.wire) (wire_load wire) x y w n
    (ap (λ k. cells_load (slice_set z.cells (place b.set e) c) + k) (sym before)
    ∙ (sum_by-set (λ (k : Cell). cell_load k.phase k.stash) z.cells (place b.set e) c (new_cell b.set) (subst (λ k. place b.set e < k) (sym full) there)
    ∙ ap (λ k. cells_load z.cells + k) now)) posted less
  where
    sums : (l v v' k w w' x y p n : ℕ) → v' + x ≡ v + y → w' ≡ w + p → y + p ≤ x + n → total l v' k w' ≤ total l v k w + n
    sums l v v' k w w' x y p n e f g = omega (arith, e, f, g)

-- Starting.

pub record Started (b : Base) (z : Alone) (e : List ℕ) (to : Alone) : Type 0 where
  pub homes_are : to.homes ≡ z.homes
  pub hosted_are : to.hosted ≡ z.hosted
  pub producers_are : to.producers ≡ z.producers
  pub kept_are : to.kept ≡ z.kept
  pub asked_are : to.asked ≡ z.asked
  pub phase_is : (cell_in b.set to.cells e).phase ≡ phase.Loading
  pub others_are : (f : List ℕ) → place b.set f ≢ place b.set e → cell_in b.set to.cells f ≡ cell_in b.set z.cells f

pub empty_is : {A : Type 0} (xs : List A) → is_empty xs ≡ true → xs ≡ []
empty_is [] h = refl
empty_is (x ∷ xs) h = absurd (true≢false (sym h))

pub absent_empty : (c : Cell) → c.phase ≡ phase.Absent → is_settled c ≡ true → c.stash ≡ []
absent_empty c absent h =
    let m : (is_settled_by c.phase c.stash ≡ true) × (is_none c.armed ≡ true) = and_both (is_settled_by c.phase c.stash) (is_none c.armed) h in
    empty_is c.stash (sym (ap (λ p. is_settled_by p c.stash) absent) ∙ m.0)

pub start_goes : (b : Base) (later : ℕ → List ℕ → Type 0) (z : Alone) (e : List ℕ) → Stands b later z → IsThere b e → (cell_in b.set z.cells e).phase ≡ phase.Absent → is_home_at b z.homes (shard_of b.set e) ≡ true
    → Goes b later 0 (Started b z e) z (map by_entities (entities.start_entity e (entities_at b z)))
start_goes b later z e s there absent home = record {
  to = with_cell b z e c wire;
  node_is = refl;
  wire_is = refl;
  stands = put_stands b later z e c wire s puts;
  costs = put_costs b z e c wire 1 0 1 0 s.cells_there there (ap (λ p. cell_load p old.stash) absent) (ap (λ (x : List Message). 2 * length x) stash_is) (sum_by_push (λ (p : Packet). weight p.body) z.wire packet) (omega arith);
  entered = refl;
  more = put_more b later z e c wire s puts;
  also_is = record { homes_are = refl; hosted_are = refl; producers_are = refl; kept_are = refl; asked_are = refl; phase_is = ap (λ (x : Cell). x.phase) (own_cell b z.cells e c s.cells_there there); others_are = λ f other. get_or-set_other z.cells (place b.set e) (place b.set f) c (new_cell b.set) other };
}
  where
    old : Cell
    old = cell_in b.set z.cells e

    c : Cell
    c = cell_after old (told (fact.Start b.who e))

    packet : Packet
    packet = record { from = b.who; to = b.who; body = body.Recovered e }

    wire : List Packet
    wire = z.wire ++ packet ∷ []

    stash_is : old.stash ≡ []
    stash_is = absent_empty old absent (s.settled e)

    not_absent : phase.Absent ≡ old.phase → is_phase phase.Active old.phase ≡ true → is_phase phase.Active c.phase ≡ true
    not_absent k h = absurd (true≢false (sym h ∙ ap (is_phase phase.Active) absent))

    active_on : (f : List ℕ) → is_active b z.cells f ≡ true → is_active b (slice_set z.cells (place b.set e) c) f ≡ true
    active_on = cells_more b (λ x. is_phase phase.Active x.phase) z.cells e c s.cells_there there (not_absent (sym absent))

    puts : Puts b later z e c wire
    puts = record {
      there = there;
      settled = refl;
      live = λ h. home;
      loading = λ h. any_last (is_recovering e) z.wire packet (name_itself e);
      stashed = subst (Each (λ m. (m.entity ≡ e) × Fits b z.hosted z.producers m)) (sym stash_is) tt;
      live_on = λ h. refl;
      active_on = not_absent (sym absent);
      wire_on = λ q h. any_kept q z.wire packet h;
      own = each_last (IsOwn b z.hosted (slice_set z.cells (place b.set e) c)) z.wire packet (posted_more b z.hosted z.hosted z.cells (slice_set z.cells (place b.set e) c) z.wire active_on (λ p f. le_itself (recorded b z.hosted p f)) s.posted) (refl, refl, there);
      paced = λ p f above. paced_more b (later p f) z.hosted z.hosted z.cells (slice_set z.cells (place b.set e) c) z.producers z.wire wire p f (active_on f) (le_itself (recorded b z.hosted p f)) (λ h. none_last (is_requesting p f) z.wire packet h refl) (s.paced p f above);
    }
