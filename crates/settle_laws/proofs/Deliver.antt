-- Deliver.
use Rattle.std.proofs.Common.{◌≡◌, ◌<◌, ◌≤◌, ◌⊎◌, inl, inr, ℕ, ◌+◌, ◌*◌, List, [], ◌∷◌, ◌++◌, length, map, sym, ap, subst, ◌∙◌, refl, true, false, true≢false, arith, length-append}
use Rattle.std.specs.Prelude.{Bool, ◌&&◌, cond, Option, Some, None, is_none, slice_set}
use Rattle.std.specs.List.{list_any}
use Rattle.std.specs.Option.{option_map}
use Rattle.std.proofs.lemmas.List.{get_or-set_same, get_or-set_other, length-set, set-get_or}
use Rattle.std.proofs.lemmas.List.Sums.{sum_by_push}
use Rattle.yard_model.specs.declared.fact.Fact.{Fact}
use Rattle.yard_model.specs.declared.fact.Fact.TheVariants as fact
use Rattle.yard_model.specs.declared.packet.Packet.{Packet}
use Rattle.yard_model.specs.declared.packet.Message.{Message}
use Rattle.yard_model.specs.declared.packet.Record.{Record}
use Rattle.yard_model.specs.declared.input.Phase.{Phase}
use Rattle.yard_model.specs.declared.input.Phase.TheVariants as phase
use Rattle.yard_model.specs.Entities as entities
use Rattle.yard_model.specs.Entities.{Cell, Hosted, cell_in, cell_after, is_phase, new_cell, stash_step, phase_step, phase_by_post, reach_by_post, entered, entries_in}
use Rattle.yard_model.specs.Move.{told}
use Rattle.yard_model.specs.Node.{Act, by_entities, after}
use Rattle.yard_model.specs.Setting.{place, shard_of}
use Rattle.yard_model.specs.SlotReads.{journal_step}
use Rattle.yard_model.specs.Words.{at}
use Rattle.plain_laws.proofs.Booleans.{both, same_name}
use Rattle.plain_laws.proofs.Lists.{by_place}
use Rattle.settle_laws.specs.Alone.{is_entered, Base, Alone, node_with, entities_at, wire_after, is_home_at, recorded, confirmed_by, producer_at, IsThere, is_live, is_active, is_settled, is_settled_by, runs, Fits, IsOwn, is_asking, is_recovering, is_requesting, is_acking, Stands, weight, cell_load, cells_load, wire_load, lefts, kept_load, total, load, More, Goes}
use Rattle.settle_laws.proofs.Records.{le_itself, still_recorded, is_pair_of, wrote_recorded}
use Rattle.settle_laws.proofs.Tools.{each_last, any_kept, none_last, own_cell, cells_more, posted_more, paced_more, more_none, goes_if_map}
use Rattle.settle_laws.proofs.Cells.{with_cell, Puts, put_stands, put_more, put_costs}

-- what a delivery leaves
pub record Delivered (b : Base) (z : Alone) (m : Message) (to : Alone) : Type 0 where
  pub homes_are : to.homes ≡ z.homes
  pub producers_are : to.producers ≡ z.producers
  pub kept_are : to.kept ≡ z.kept
  pub asked_are : to.asked ≡ z.asked
  pub is_there : is_live (cell_in b.set to.cells m.entity).phase ≡ true
  pub is_recorded : is_active b z.cells m.entity ≡ true → m.number ≤ recorded b to.hosted m.producer m.entity
  pub is_acked : is_active b z.cells m.entity ≡ true → list_any (is_acking m.producer m.entity (recorded b to.hosted m.producer m.entity)) to.wire ≡ true

-- A packet is posted, and nothing else.

abbrev pub with_post : Alone → Packet → Alone
with_post z p = record z { wire = z.wire ++ p ∷ [] }

pub post_stands : (b : Base) (later : ℕ → List ℕ → Type 0) (z : Alone) (p : Packet) → Stands b later z → IsOwn b z.hosted z.cells p → ((q : ℕ) (f : List ℕ) → is_requesting q f p ≡ false) → Stands b later (with_post z p)
post_stands b later z p s own quiet = record {
  base_is = s.base_is;
  homes_there = s.homes_there;
  asked_there = s.asked_there;
  kept_there = s.kept_there;
  hosted_there = s.hosted_there;
  cells_there = s.cells_there;
  homes = s.homes;
  marks = s.marks;
  running = s.running;
  free = s.free;
  hosts = s.hosts;
  regions_are = s.regions_are;
  lease_is = s.lease_is;
  allocated = s.allocated;
  asking = λ t h. wired t (s.asking t h);
  settled = s.settled;
  live = s.live;
  loading = λ f h. any_kept (is_recovering f) z.wire p (s.loading f h);
  kept = s.kept;
  stashed = s.stashed;
  posted = each_last (IsOwn b z.hosted z.cells) z.wire p s.posted own;
  producing = s.producing;
  bounded = s.bounded;
  paced = λ q f above. paced_more b (later q f) z.hosted z.hosted z.cells z.cells z.producers z.wire (z.wire ++ p ∷ []) q f (λ h. h) (le_itself (recorded b z.hosted q f)) (λ h. none_last (is_requesting q f) z.wire p h (quiet q f)) (s.paced q f above);
}
  where
    wired : (t : ℕ) → (is_home_at b z.homes t ≡ true) ⊎ (list_any (is_asking t) z.wire ≡ true) → (is_home_at b z.homes t ≡ true) ⊎ (list_any (is_asking t) (z.wire ++ p ∷ []) ≡ true)
    wired t (inl h) = inl h
    wired t (inr h) = inr (any_kept (is_asking t) z.wire p h)

pub post_more : (b : Base) (z : Alone) (p : Packet) → More b z (with_post z p)
post_more b z p = record {
  homes_on = λ t h. h;
  live_on = λ e h. h;
  active_on = λ e h. h;
  recorded_on = λ q f. le_itself (recorded b z.hosted q f);
  confirmed_on = λ q f. le_itself (confirmed_by f (producer_at z.producers q));
  queued_on = λ q f. refl;
  holds_on = λ q h. h;
  posted_on = λ q h. any_kept q z.wire p h;
  hosts_on = λ t h. h;
  answered = λ q f. inl refl;
}

pub wire_sums : (l v k w w' p : ℕ) → w' ≡ w + p → total l v k w' ≤ total l v k w + p
wire_sums l v k w w' p e = omega (arith, e)

pub post_costs : (b : Base) (z : Alone) (p : Packet) → load b (with_post z p) ≤ load b z + weight p.body
post_costs b z p = wire_sums (lefts b z.producers) (cells_load z.cells) (kept_load z.kept) (wire_load z.wire) (wire_load (z.wire ++ p ∷ [])) (weight p.body) (sum_by_push (λ (p : Packet). weight p.body) z.wire p)

pub post_goes : (b : Base) (later : ℕ → List ℕ → Type 0) (also : Alone → Type 0) (z : Alone) (p : Packet) (a : Act) → Stands b later z → IsOwn b z.hosted z.cells p → ((q : ℕ) (f : List ℕ) → is_requesting q f p ≡ false)
    → after (node_with b z) a ≡ node_with b (with_post z p) → wire_after z.wire a ≡ z.wire ++ p ∷ [] → also (with_post z p) → is_entered b z.hosted a ≡ true → Goes b later (weight p.body) also z (a ∷ [])
post_goes b later also z p a s own quiet node wire is entry = record { to = with_post z p; node_is = node; wire_is = wire; stands = post_stands b later z p s own quiet; costs = post_costs b z p; entered = both (is_entered b z.hosted a) true entry refl; more = post_more b z p; also_is = is }

-- Stashing.

pub not_active : (b : Base) (cells : List Cell) (e : List ℕ) → (cell_in b.set cells e).phase ≡ phase.Loading → is_active b cells e ≡ true → ⊥
not_active b cells e loading h = true≢false (sym h ∙ ap (is_phase phase.Active) loading)

pub stash_goes : (b : Base) (later : ℕ → List ℕ → Type 0) (z : Alone) (m : Message) → Stands b later z → Fits b z.hosted z.producers m → (cell_in b.set z.cells m.entity).phase ≡ phase.Loading
    → Goes b later 2 (Delivered b z m) z (map by_entities (told (fact.Stashed b.who m) ∷ []))
stash_goes b later z m s fits loading = record {
  to = with_cell b z m.entity c z.wire;
  node_is = refl;
  wire_is = refl;
  stands = put_stands b later z m.entity c z.wire s puts;
  costs = put_costs b z m.entity c z.wire (2 * length old.stash) (2 * length old.stash + 2) 0 2 s.cells_there there (ap (λ p. cell_load p old.stash) loading) (ap (λ p. cell_load p c.stash) loading ∙ longer) (plus_zero (wire_load z.wire)) (fine (length old.stash));
  entered = refl;
  more = put_more b later z m.entity c z.wire s puts;
  also_is = record { homes_are = refl; producers_are = refl; kept_are = refl; asked_are = refl; is_there = ap (λ (x : Cell). is_live x.phase) (own_cell b z.cells m.entity c s.cells_there there) ∙ ap is_live loading; is_recorded = λ h. absurd (not_active b z.cells m.entity loading h); is_acked = λ h. absurd (not_active b z.cells m.entity loading h) };
}
  where
    there : IsThere b m.entity
    there = fits.2

    old : Cell
    old = cell_in b.set z.cells m.entity

    c : Cell
    c = cell_after old (told (fact.Stashed b.who m))

    plus_zero : (n : ℕ) → n ≡ n + 0
    plus_zero n = omega arith

    fine : (n : ℕ) → 2 * n + 2 + 0 ≤ 2 * n + 2
    fine n = omega arith

    twice : (n k : ℕ) → k ≡ n + 1 → 2 * k ≡ 2 * n + 2
    twice n k e = omega (arith, e)

    longer : 2 * length (old.stash ++ m ∷ []) ≡ 2 * length old.stash + 2
    longer = twice (length old.stash) (length (old.stash ++ m ∷ [])) (length-append old.stash (m ∷ []))

    active_on : (f : List ℕ) → is_active b z.cells f ≡ true → is_active b (slice_set z.cells (place b.set m.entity) c) f ≡ true
    active_on = cells_more b (λ x. is_phase phase.Active x.phase) z.cells m.entity c s.cells_there there (λ h. h)

    settled_was : is_settled old ≡ true
    settled_was = s.settled m.entity

    settled_is : (p : Phase) → p ≡ phase.Loading → (is_settled_by p old.stash && is_none old.armed) ≡ true → (is_settled_by p (old.stash ++ m ∷ []) && is_none old.armed) ≡ true
    settled_is p e h = subst (λ q. (is_settled_by q (old.stash ++ m ∷ []) && is_none old.armed) ≡ true) (sym e) (subst (λ q. (is_settled_by q old.stash && is_none old.armed) ≡ true) e h)

    puts : Puts b later z m.entity c z.wire
    puts = record {
      there = there;
      settled = settled_is old.phase loading settled_was;
      live = λ h. s.live m.entity h;
      loading = λ h. s.loading m.entity h;
      stashed = each_last (λ x. (x.entity ≡ m.entity) × Fits b z.hosted z.producers x) old.stash m (s.stashed m.entity) (refl, fits);
      live_on = λ h. h;
      active_on = λ h. h;
      wire_on = λ q h. h;
      own = posted_more b z.hosted z.hosted z.cells (slice_set z.cells (place b.set m.entity) c) z.wire active_on (λ p f. le_itself (recorded b z.hosted p f)) s.posted;
      paced = λ p f above. paced_more b (later p f) z.hosted z.hosted z.cells (slice_set z.cells (place b.set m.entity) c) z.producers z.wire z.wire p f (active_on f) (le_itself (recorded b z.hosted p f)) (λ h. h) (s.paced p f above);
    }

-- a full stash: the message is lost, and nothing changes
pub lost_goes : (b : Base) (later : ℕ → List ℕ → Type 0) (z : Alone) (m : Message) → Stands b later z → Fits b z.hosted z.producers m → (cell_in b.set z.cells m.entity).phase ≡ phase.Loading
    → Goes b later 2 (Delivered b z m) z (map by_entities (told (fact.Dropped b.who m) ∷ []))
lost_goes b later z m s fits loading = record {
  to = z;
  node_is = ap (λ cells. node_with b (record z { cells = cells })) (ap (slice_set z.cells (place b.set m.entity)) same ∙ set-get_or z.cells (place b.set m.entity) (new_cell b.set));
  wire_is = refl;
  stands = s;
  costs = more (load b z);
  entered = refl;
  more = more_none b z;
  also_is = record { homes_are = refl; producers_are = refl; kept_are = refl; asked_are = refl; is_there = ap is_live loading; is_recorded = λ h. absurd (not_active b z.cells m.entity loading h); is_acked = λ h. absurd (not_active b z.cells m.entity loading h) };
}
  where
    old : Cell
    old = cell_in b.set z.cells m.entity

    stays : (p : Phase) → p ≡ phase.Loading → stash_step p old.stash (told (fact.Dropped b.who m)) ≡ old.stash
    stays p e = ap (λ q. stash_step q old.stash (told (fact.Dropped b.who m))) e

    same : cell_after old (told (fact.Dropped b.who m)) ≡ old
    same = ap (λ x. record { phase = old.phase; passivating = old.passivating; stash = x; armed = old.armed; reach = old.reach }) (stays old.phase loading)

    more : (n : ℕ) → n ≤ n + 2
    more n = omega arith

pub stash_message_goes : (b : Base) (later : ℕ → List ℕ → Type 0) (z : Alone) (m : Message) → Stands b later z → Fits b z.hosted z.producers m → (cell_in b.set z.cells m.entity).phase ≡ phase.Loading
    → Goes b later 2 (Delivered b z m) z (map by_entities (entities.stash_message m (entities_at b z)))
stash_message_goes b later z m s fits loading = goes_if_map b later 2 (Delivered b z m) z by_entities _ (told (fact.Stashed b.who m) ∷ []) (told (fact.Dropped b.who m) ∷ []) (λ h. stash_goes b later z m s fits loading) (λ h. lost_goes b later z m s fits loading)

-- Writing.

-- the hosted shards, with one record more
pub record Writes (b : Base) (hosted hosted' : List (Option Hosted)) (p : ℕ) (e : List ℕ) : Type 0 where
  pub full : length hosted' ≡ length hosted
  pub nones : (s : ℕ) → is_none (at hosted' s) ≡ is_none (at hosted s)
  pub runs_are : (s : ℕ) → runs (at hosted' s) ≡ runs (at hosted s)
  pub recorded_are : (q : ℕ) (f : List ℕ) → recorded b hosted' q f ≡ recorded b hosted q f + cond (is_pair_of e p q f) 1 0

abbrev pub longer : Fact → Option Hosted → Option Hosted
longer f o = option_map (λ (h : Hosted). record { entries = h.entries ++ f ∷ []; stopping = h.stopping }) o

pub entered_keeps : (q : Option Hosted → Bool) (hosted : List (Option Hosted)) (s : ℕ) (f : Fact) (t : ℕ) → s < length hosted → ((o : Option Hosted) → q (longer f o) ≡ q o) → q (at (entered s f hosted) t) ≡ q (at hosted t)
entered_keeps q hosted s f t less same = by_place (q (at (entered s f hosted) t) ≡ q (at hosted t)) t s
    (λ k. subst (λ n. q (at (entered s f hosted) n) ≡ q (at hosted n)) (sym k) (ap q (get_or-set_same hosted s _ None less) ∙ same (at hosted s)))
    (λ other. ap q (get_or-set_other hosted s t _ None other))

pub none_same : (f : Fact) (o : Option Hosted) → is_none (longer f o) ≡ is_none o
none_same f None = refl
none_same f (Some h) = refl

pub runs_same : (f : Fact) (o : Option Hosted) → runs (longer f o) ≡ runs o
runs_same f None = refl
runs_same f (Some h) = refl

pub wrote_writes : (b : Base) (hosted : List (Option Hosted)) (e : List ℕ) (r : Record) → shard_of b.set e < length hosted → is_none (at hosted (shard_of b.set e)) ≡ false → Writes b hosted (entered (shard_of b.set e) (fact.Wrote e r) hosted) r.producer e
wrote_writes b hosted e r less there = record {
  full = length-set hosted (shard_of b.set e) _;
  nones = λ t. entered_keeps is_none hosted (shard_of b.set e) (fact.Wrote e r) t less (none_same (fact.Wrote e r));
  runs_are = λ t. entered_keeps runs hosted (shard_of b.set e) (fact.Wrote e r) t less (runs_same (fact.Wrote e r));
  recorded_are = λ q f. wrote_recorded b hosted e r q f less there (λ h. sym (same_name e f h));
}

-- and an entry more that is no record
pub still_writes : (b : Base) (hosted hosted' : List (Option Hosted)) (p : ℕ) (e : List ℕ) (f : Fact) (s : ℕ) → s < length hosted → is_none (at hosted s) ≡ false → ((g : List ℕ) (x : List Record) → journal_step g x f ≡ x) → Writes b hosted hosted' p e → Writes b hosted (entered s f hosted') p e
still_writes b hosted hosted' p e f s less there still w = record {
  full = length-set hosted' s _ ∙ w.full;
  nones = λ t. entered_keeps is_none hosted' s f t less' (none_same f) ∙ w.nones t;
  runs_are = λ t. entered_keeps runs hosted' s f t less' (runs_same f) ∙ w.runs_are t;
  recorded_are = λ q g. still_recorded b hosted' s f q g less' (w.nones s ∙ there) (still g) ∙ w.recorded_are q g;
}
  where
    less' : s < length hosted'
    less' = subst (λ n. s < n) (sym w.full) less
