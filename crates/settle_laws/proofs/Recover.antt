-- Recovered: the entity is active, and its stash is delivered.
use Rattle.std.proofs.Common.{◌≡◌, ◌<◌, ◌≤◌, ◌⊎◌, inl, ℕ, suc, ◌+◌, ◌*◌, List, [], ◌∷◌, ◌++◌, length, map, sym, ap, subst, ◌∙◌, refl, true, false, true≢false, arith}
use Rattle.std.specs.Prelude.{Bool, ◌&&◌, not, fold, Option, Some, None, is_none, slice_index_or, if◌then◌else◌}
use Rattle.std.specs.List.{list_any}
use Rattle.std.proofs.lemmas.List.{length-set, map-append}
use Rattle.std.proofs.lemmas.List.Sums.{sum_by-set}
use Rattle.yard_model.specs.declared.fact.Fact.{Fact}
use Rattle.yard_model.specs.declared.fact.Fact.TheVariants as fact
use Rattle.yard_model.specs.declared.packet.Message.{Message}
use Rattle.yard_model.specs.declared.packet.Record.{Record}
use Rattle.yard_model.specs.declared.incarnation.Incarnation.{Incarnation}
use Rattle.yard_model.specs.declared.input.Phase.{Phase}
use Rattle.yard_model.specs.declared.input.Phase.TheVariants as phase
use Rattle.yard_model.specs.Entities as entities
use Rattle.yard_model.specs.Entities.{Cell, Hosted, cell_in, cell_after, is_phase, new_cell, phase_by_post, reach_by_post, entered, entries_in}
use Rattle.yard_model.specs.Move.{Move, told}
use Rattle.yard_model.specs.Node.{Node, Act, by_entities, after}
use Rattle.yard_model.specs.Setting.{place, shard_of}
use Rattle.yard_model.specs.SlotLists.{shard_list}
use Rattle.yard_model.specs.SlotReads.{holder, journal, journal_step}
use Rattle.yard_model.specs.Words.{at}
use Rattle.plain_laws.proofs.Booleans.{both, and_both}
use Rattle.std.specs.List.{list_all}
use Rattle.settle_laws.specs.Alone.{is_entered, Base, Alone, node_with, entities_at, wire_after, is_home_at, recorded, confirmed_by, queued_by, producer_at, IsThere, is_live, is_active, is_settled_by, Each, runs, Fits, is_asking, AreBounded, Stands, cell_load, cells_load, wire_load, lefts, kept_load, total, load, More, Goes}
use Rattle.settle_laws.proofs.Records.{le_itself, le_of, le_then}
use Rattle.settle_laws.proofs.Tools.{each_map, own_cell, cells_more, posted_more, paced_more, more_both, goes_none, goes_also, goes_if_map}
use Rattle.settle_laws.proofs.Cells.{with_cell, Puts, put_stands, put_more}
use Rattle.settle_laws.proofs.Deliver.{Delivered}
use Rattle.yard_model.specs.Region.{kept_of, home}
use Rattle.yard_model.specs.Behaviour.{folded}
use Rattle.yard_model.specs.Entities.{is_running_in}
use Rattle.std.specs.List.{fold}
use Rattle.settle_laws.proofs.Write.{fits_more}
use Rattle.yard_model.specs.Turns.{in_turn, for_each}
use Rattle.yard_model.specs.Entities.{Entities, entities_after, is_in_phase}
use Rattle.yard_model.specs.SlotReads.{is_remembered}
use Rattle.yard_model.specs.Region.{no_stamp}
use Rattle.yard_model.specs.Words.{is_below}
use Rattle.yard_model.specs.declared.incarnation.Stamp.{Stamp}
use Rattle.settle_laws.specs.Alone.{stamp_at}
use Rattle.settle_laws.proofs.Push.{goes_saved}
use Rattle.settle_laws.proofs.Route.{deliver_goes, none_of}
use Rattle.settle_laws.proofs.Deliver.{entered_keeps, none_same, runs_same}
use Rattle.settle_laws.proofs.Records.{still_recorded}

-- What the region knows and what is hosted change, and nothing that is recorded.

pub record Learns (b : Base) (z : Alone) (homes : List (Option Incarnation)) (marks : List Stamp) (asked : List Bool) (hosted : List (Option Hosted)) : Type 0 where
  pub homes_full : length homes ≡ b.set.config.shards
  pub asked_full : length asked ≡ b.set.config.shards
  pub hosted_full : length hosted ≡ b.set.config.shards
  pub own_homes : (t : ℕ) (x : Incarnation) → at homes t ≡ Some x → x ≡ b.who
  pub own_marks : (t : ℕ) → is_below (stamp_at b) (slice_index_or marks t no_stamp) ≡ false
  pub running : (t : ℕ) → runs (at hosted t) ≡ true
  pub free : (t : ℕ) → at hosted t ≡ None → holder (shard_list b.lists t) ≡ None
  pub hosts : (t : ℕ) → is_home_at b homes t ≡ true → is_none (at hosted t) ≡ false
  pub asking : (t : ℕ) → slice_index_or asked t false ≡ true → (is_home_at b homes t ≡ true) ⊎ (list_any (is_asking t) z.wire ≡ true)
  pub homes_on : (t : ℕ) → is_home_at b z.homes t ≡ true → is_home_at b homes t ≡ true
  pub hosted_on : (t : ℕ) → is_none (at z.hosted t) ≡ false → is_none (at hosted t) ≡ false
  pub recorded_are : (q : ℕ) (f : List ℕ) → recorded b hosted q f ≡ recorded b z.hosted q f

abbrev pub learned : Alone → List (Option Incarnation) → List Stamp → List Bool → List (Option Hosted) → Alone
learned z homes marks asked hosted = record z { homes = homes; marks = marks; asked = asked; hosted = hosted }

pub learned_stands : (b : Base) (later : ℕ → List ℕ → Type 0) (z : Alone) (homes : List (Option Incarnation)) (marks : List Stamp) (asked : List Bool) (hosted : List (Option Hosted)) → Stands b later z → Learns b z homes marks asked hosted → Stands b later (learned z homes marks asked hosted)
learned_stands b later z homes marks asked hosted s l = record {
  base_is = s.base_is;
  homes_there = l.homes_full;
  asked_there = l.asked_full;
  kept_there = s.kept_there;
  hosted_there = l.hosted_full;
  cells_there = s.cells_there;
  homes = l.own_homes;
  marks = l.own_marks;
  running = l.running;
  free = l.free;
  hosts = l.hosts;
  regions_are = s.regions_are;
  lease_is = s.lease_is;
  allocated = s.allocated;
  asking = l.asking;
  settled = s.settled;
  live = λ e h. l.homes_on (shard_of b.set e) (s.live e h);
  loading = s.loading;
  kept = λ t. each_map _ _ (kept_of z.kept t) (λ x h. (h.0, fits_on x h.1)) (s.kept t);
  stashed = λ f. each_map _ _ (cell_in b.set z.cells f).stash (λ x h. (h.0, fits_on x h.1)) (s.stashed f);
  posted = posted_more b z.hosted hosted z.cells z.cells z.wire (λ e h. h) more s.posted;
  producing = s.producing;
  bounded = λ q f is. let o : AreBounded b z.hosted z.producers q f = s.bounded q f is in (le_then (confirmed_by f (producer_at z.producers q)) (recorded b z.hosted q f) (recorded b hosted q f) o.0 (more q f), o.1, o.2, subst (λ n. n ≤ b.made q f) (sym (l.recorded_are q f)) o.3);
  paced = λ q f is. paced_more b (later q f) z.hosted hosted z.cells z.cells z.producers z.wire z.wire q f (λ h. h) (more q f) (λ h. h) (s.paced q f is);
}
  where
    more : (q : ℕ) (f : List ℕ) → recorded b z.hosted q f ≤ recorded b hosted q f
    more q f = le_of (recorded b z.hosted q f) (recorded b hosted q f) (sym (l.recorded_are q f))

    fits_on : (x : Message) → Fits b z.hosted z.producers x → Fits b hosted z.producers x
    fits_on x = fits_more b z.hosted hosted z.producers z.producers x more (λ p e. le_itself (queued_by e (producer_at z.producers p)))

pub learned_more : (b : Base) (z : Alone) (homes : List (Option Incarnation)) (marks : List Stamp) (asked : List Bool) (hosted : List (Option Hosted)) → Learns b z homes marks asked hosted → More b z (learned z homes marks asked hosted)
learned_more b z homes marks asked hosted l = record {
  homes_on = l.homes_on;
  live_on = λ e h. h;
  active_on = λ e h. h;
  recorded_on = λ q f. le_of (recorded b z.hosted q f) (recorded b hosted q f) (sym (l.recorded_are q f));
  confirmed_on = λ q f. le_itself (confirmed_by f (producer_at z.producers q));
  queued_on = λ q f. refl;
  holds_on = λ q h. h;
  posted_on = λ q h. h;
  hosts_on = l.hosted_on;
  answered = λ q f. inl (l.recorded_are q f);
}

pub zero_more : (n : ℕ) → n ≤ n + 0
zero_more n = omega arith

pub learned_goes : (b : Base) (later : ℕ → List ℕ → Type 0) (z : Alone) (homes : List (Option Incarnation)) (marks : List Stamp) (asked : List Bool) (hosted : List (Option Hosted)) (acts : List Act) → Stands b later z → Learns b z homes marks asked hosted
    → fold after (node_with b z) acts ≡ node_with b (learned z homes marks asked hosted) → fold wire_after z.wire acts ≡ z.wire → list_all (is_entered b hosted) acts ≡ true → Goes b later 0 (λ to. to ≡ learned z homes marks asked hosted) z acts
learned_goes b later z homes marks asked hosted acts s l node wire entries = record { to = learned z homes marks asked hosted; node_is = node; wire_is = wire; stands = learned_stands b later z homes marks asked hosted s l; costs = zero_more (load b z); entered = entries; more = learned_more b z homes marks asked hosted l; also_is = refl }

-- an entry of a hosted shard that is no record
pub entry_learns : (b : Base) (later : ℕ → List ℕ → Type 0) (z : Alone) (s : ℕ) (f : Fact) → Stands b later z → s < length z.hosted → is_none (at z.hosted s) ≡ false → ((e : List ℕ) (x : List Record) → journal_step e x f ≡ x) → Learns b z z.homes z.marks z.asked (entered s f z.hosted)
entry_learns b later z s f i less there still = record {
  homes_full = i.homes_there;
  asked_full = i.asked_there;
  hosted_full = length-set z.hosted s _ ∙ i.hosted_there;
  own_homes = i.homes;
  own_marks = i.marks;
  running = λ t. entered_keeps runs z.hosted s f t less (runs_same f) ∙ i.running t;
  free = λ t h. i.free t (none_of (at z.hosted t) (sym (entered_keeps is_none z.hosted s f t less (none_same f)) ∙ ap is_none h));
  hosts = λ t h. entered_keeps is_none z.hosted s f t less (none_same f) ∙ i.hosts t h;
  asking = i.asking;
  homes_on = λ t h. h;
  hosted_on = λ t h. entered_keeps is_none z.hosted s f t less (none_same f) ∙ h;
  recorded_are = λ q g. still_recorded b z.hosted s f q g less there (still g);
}

-- Rules of entities in turn.

pub entities_fold : (st : Node) (ms : List Move) → (fold after st (map by_entities ms)).entities ≡ fold entities_after st.entities ms
entities_fold st [] = refl
entities_fold st (m ∷ ms) = entities_fold (after st (by_entities m)) ms

pub entities_turn_goes : (b : Base) (later : ℕ → List ℕ → Type 0) (n m : ℕ) (also : Alone → Type 0) (z : Alone) (p q : Entities → List Move) (mid : Alone) → fold after (node_with b z) (map by_entities (p (entities_at b z))) ≡ node_with b mid
    → fold wire_after z.wire (map by_entities (p (entities_at b z))) ≡ mid.wire → More b z mid → load b mid + n ≤ load b z + m → list_all (is_entered b mid.hosted) (map by_entities (p (entities_at b z))) ≡ true → Goes b later n also mid (map by_entities (q (entities_at b mid)))
    → Goes b later m also z (map by_entities (in_turn entities_after p q (entities_at b z)))
entities_turn_goes b later n m also z p q mid node wire more saved entries g =
    subst (λ st. Goes b later m also z (map by_entities (p (entities_at b z) ++ q st))) (sym (sym (entities_fold (node_with b z) (p (entities_at b z))) ∙ ap (λ (x : Node). x.entities) node))
    (subst (Goes b later m also z) (sym (map-append by_entities (p (entities_at b z)) (q (entities_at b mid))))
    (goes_saved b later n m also z mid (map by_entities (p (entities_at b z))) (map by_entities (q (entities_at b mid))) node wire more saved entries g))

-- what deliveries leave
pub record Steady (z to : Alone) : Type 0 where
  pub homes_are : to.homes ≡ z.homes
  pub producers_are : to.producers ≡ z.producers
  pub asked_are : to.asked ≡ z.asked

pub delivers_goes : (b : Base) (later : ℕ → List ℕ → Type 0) (e : List ℕ) (ms : List Message) (z : Alone) → Stands b later z → is_home_at b z.homes (shard_of b.set e) ≡ true → Each (λ m. (m.entity ≡ e) × Fits b z.hosted z.producers m) ms
    → Goes b later (2 * length ms) (Steady z) z (map by_entities (for_each entities_after entities.deliver ms (entities_at b z)))
delivers_goes b later e [] z s home fits = goes_none b later (Steady z) z s (record { homes_are = refl; producers_are = refl; asked_are = refl })
delivers_goes b later e (m ∷ ms) z s home fits =
    let g : Goes b later 2 (Delivered b z m) z (map by_entities (entities.deliver m (entities_at b z))) = deliver_goes b later z m s fits.0.1 (subst (λ x. is_home_at b z.homes (shard_of b.set x) ≡ true) (sym fits.0.0) home) in
    let d : Delivered b z m g.to = g.also_is in
    entities_turn_goes b later (2 * length ms) (2 * length (m ∷ ms)) (Steady z) z (entities.deliver m) (for_each entities_after entities.deliver ms) g.to g.node_is g.wire_is g.more
    (sums (load b g.to) (load b z) (length ms) g.costs) g.entered
    (goes_also b later (2 * length ms) (2 * length ms) (Steady g.to) (Steady z) g.to _ (le_itself (2 * length ms)) (λ to t more x. record { homes_are = x.homes_are ∙ d.homes_are; producers_are = x.producers_are ∙ d.producers_are; asked_are = x.asked_are ∙ d.asked_are })
    (delivers_goes b later e ms g.to g.stands (g.more.homes_on (shard_of b.set e) home)
    (each_map _ _ ms (λ x h. (h.0, fits_more b z.hosted g.to.hosted z.producers g.to.producers x g.more.recorded_on (λ p f. le_of _ _ (sym (g.more.queued_on p f))) h.1)) fits.1)))
  where
    sums : (x y n : ℕ) → x ≤ y + 2 → x + 2 * n ≤ y + 2 * suc n
    sums x y n h = omega (arith, h)

-- Recovered.

pub record Recovers (b : Base) (z : Alone) (e : List ℕ) (to : Alone) : Type 0 where
  pub homes_are : to.homes ≡ z.homes
  pub producers_are : to.producers ≡ z.producers
  pub asked_are : to.asked ≡ z.asked
  pub loaded : is_phase phase.Loading (cell_in b.set to.cells e).phase ≡ false

pub active_loaded : (p : Phase) → is_phase phase.Active p ≡ true → is_phase phase.Loading p ≡ false
active_loaded phase.Absent h = refl
active_loaded phase.Loading h = absurd (true≢false (sym h))
active_loaded phase.Active h = refl
active_loaded phase.Stopping h = refl

pub loading_is : (p : Phase) → is_phase phase.Loading p ≡ true → p ≡ phase.Loading
loading_is phase.Absent h = absurd (true≢false (sym h))
loading_is phase.Loading h = refl
loading_is phase.Active h = absurd (true≢false (sym h))
loading_is phase.Stopping h = absurd (true≢false (sym h))

pub recovered_goes : (b : Base) (later : ℕ → List ℕ → Type 0) (z : Alone) (e : List ℕ) → Stands b later z → IsThere b e → Goes b later 0 (Recovers b z e) z (map by_entities (entities.recovered e (entities_at b z)))
recovered_goes b later z e s there = goes_if_map b later 0 (Recovers b z e) z by_entities (is_in_phase phase.Loading (entities_at b z) e) _ [] loads
    (λ h. goes_none b later (Recovers b z e) z s (record { homes_are = refl; producers_are = refl; asked_are = refl; loaded = h }))
  where
    old : Cell
    old = cell_in b.set z.cells e

    records : List Record
    records = journal e (entries_in (at z.hosted (shard_of b.set e)))

    move : Move
    move = told (fact.Active b.who e (length records) (folded b.set.config.kind records))

    c : Cell
    c = cell_after old move

    z1 : Alone
    z1 = with_cell b z e c z.wire

    loads : is_phase phase.Loading old.phase ≡ true → Goes b later 0 (Recovers b z e) z (map by_entities (in_turn entities_after (entities.activate e) (for_each entities_after entities.deliver old.stash) (entities_at b z)))
    loads loading = by (b.set.config.remember && not (is_remembered e (entries_in (at z.hosted (shard_of b.set e)))))
      where
        phase_is : old.phase ≡ phase.Loading
        phase_is = loading_is old.phase loading

        home : is_home_at b z.homes (shard_of b.set e) ≡ true
        home = s.live e (ap is_live phase_is)

        not_active : is_phase phase.Active old.phase ≡ true → is_phase phase.Active c.phase ≡ true
        not_active h = refl

        active_on : (f : List ℕ) → is_active b z.cells f ≡ true → is_active b z1.cells f ≡ true
        active_on = cells_more b (λ x. is_phase phase.Active x.phase) z.cells e c s.cells_there there not_active

        settled_was : (is_settled_by old.phase old.stash ≡ true) × (is_none old.armed ≡ true)
        settled_was = and_both (is_settled_by old.phase old.stash) (is_none old.armed) (s.settled e)

        puts : Puts b later z e c z.wire
        puts = record {
          there = there;
          settled = settled_was.1;
          live = λ h. home;
          loading = λ h. absurd (true≢false (sym h));
          stashed = tt;
          live_on = λ h. refl;
          active_on = not_active;
          wire_on = λ q h. h;
          own = posted_more b z.hosted z.hosted z.cells z1.cells z.wire active_on (λ p f. le_itself (recorded b z.hosted p f)) s.posted;
          paced = λ p f above. paced_more b (later p f) z.hosted z.hosted z.cells z1.cells z.producers z.wire z.wire p f (active_on f) (le_itself (recorded b z.hosted p f)) (λ h. h) (s.paced p f above);
        }

        stands1 : Stands b later z1
        stands1 = put_stands b later z e c z.wire s puts

        more1 : More b z z1
        more1 = put_more b later z e c z.wire s puts

        saved : load b z1 + 2 * length old.stash ≤ load b z + 0
        saved = sums (lefts b z.producers) (cells_load z.cells) (cells_load z1.cells) (kept_load z.kept) (wire_load z.wire) (length old.stash)
            (ap (λ k. cells_load z1.cells + k) (sym (ap (λ p. cell_load p old.stash) phase_is)) ∙ sum_by-set (λ (k : Cell). cell_load k.phase k.stash) z.cells (place b.set e) c (new_cell b.set) (subst (λ k. place b.set e < k) (sym s.cells_there) there))
          where
            sums : (l v v' k w n : ℕ) → v' + 2 * n ≡ v + 2 * 0 → total l v' k w + 2 * n ≤ total l v k w + 0
            sums l v v' k w n e = omega (arith, e)

        active1 : is_active b z1.cells e ≡ true
        active1 = ap (λ (x : Cell). is_phase phase.Active x.phase) (own_cell b z.cells e c s.cells_there there)

        rest : (mid : Alone) → Stands b later mid → More b z mid → mid.homes ≡ z.homes → mid.producers ≡ z.producers → mid.asked ≡ z.asked → is_active b mid.cells e ≡ true
            → Goes b later (2 * length old.stash) (Recovers b z e) mid (map by_entities (for_each entities_after entities.deliver old.stash (entities_at b mid)))
        rest mid t more homes producers asked active = record {
          to = g.to;
          node_is = g.node_is;
          wire_is = g.wire_is;
          stands = g.stands;
          costs = g.costs;
          entered = g.entered;
          more = g.more;
          also_is = record { homes_are = g.also_is.homes_are ∙ homes; producers_are = g.also_is.producers_are ∙ producers; asked_are = g.also_is.asked_are ∙ asked; loaded = active_loaded (cell_in b.set g.to.cells e).phase (g.more.active_on e active) };
        }
          where
            g : Goes b later (2 * length old.stash) (Steady mid) mid (map by_entities (for_each entities_after entities.deliver old.stash (entities_at b mid)))
            g = delivers_goes b later e old.stash mid t (more.homes_on (shard_of b.set e) home)
                (each_map _ _ old.stash (λ x h. (h.0, fits_more b z.hosted mid.hosted z.producers mid.producers x more.recorded_on (λ p f. le_of _ _ (sym (more.queued_on p f))) h.1)) (s.stashed e))

        remembers : Bool → Entities → List Move
        remembers t st = move ∷ (if t then told (fact.Remembered e) ∷ [] else [])

        by : (t : Bool) → Goes b later 0 (Recovers b z e) z (map by_entities (in_turn entities_after (λ st. move ∷ (if t then told (fact.Remembered e) ∷ [] else [])) (for_each entities_after entities.deliver old.stash) (entities_at b z)))
        by false = entities_turn_goes b later (2 * length old.stash) 0 (Recovers b z e) z (λ st. move ∷ []) (for_each entities_after entities.deliver old.stash) z1 refl refl more1 saved refl
            (rest z1 stands1 more1 refl refl refl active1)
        by true = entities_turn_goes b later (2 * length old.stash) 0 (Recovers b z e) z (λ st. move ∷ told (fact.Remembered e) ∷ []) (for_each entities_after entities.deliver old.stash) z2 refl refl (more_both b z z1 z2 more1 (learned_more b z1 z1.homes z1.marks z1.asked z2.hosted learns)) saved (both _ _ (ap not (learns.hosted_on shard (s.hosts shard home))) refl)
            (rest z2 (learned_stands b later z1 z1.homes z1.marks z1.asked z2.hosted stands1 learns) (more_both b z z1 z2 more1 (learned_more b z1 z1.homes z1.marks z1.asked z2.hosted learns)) refl refl refl active1)
          where
            shard : ℕ
            shard = shard_of b.set e

            z2 : Alone
            z2 = learned z1 z1.homes z1.marks z1.asked (entered shard (fact.Remembered e) z1.hosted)

            learns : Learns b z1 z1.homes z1.marks z1.asked z2.hosted
            learns = entry_learns b later z1 shard (fact.Remembered e) stands1 (subst (λ n. shard < n) (sym s.hosted_there) (s.base_is.sharded e)) (s.hosts shard home) (λ f x. refl)
