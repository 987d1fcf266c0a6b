-- Route: where the shard is at home here the message is delivered, else it is kept, and its home asked for.
use Rattle.std.proofs.Common.{◌≡◌, ◌<◌, ◌≤◌, ◌⊎◌, inl, inr, ℕ, ◌+◌, ◌*◌, List, [], ◌∷◌, ◌++◌, length, map, sym, ap, subst, ◌∙◌, refl, true, false, true≢false, arith, length-append}
use Rattle.std.specs.Prelude.{Bool, ◌&&◌, Option, Some, None, is_none, slice_index_or, slice_set, if◌then◌else◌}
use Rattle.std.specs.List.{list_any}
use Rattle.std.proofs.lemmas.List.{length-set, get_or-set_same}
use Rattle.std.proofs.lemmas.List.Sums.{sum_by_push, sum_by-set}
use Rattle.yard_model.specs.declared.fact.Fact.TheVariants as fact
use Rattle.yard_model.specs.declared.packet.Body.TheVariants as body
use Rattle.yard_model.specs.declared.packet.Packet.{Packet}
use Rattle.yard_model.specs.declared.packet.Message.{Message}
use Rattle.yard_model.specs.declared.incarnation.Incarnation.{Incarnation}
use Rattle.yard_model.specs.declared.input.Phase.{Phase}
use Rattle.yard_model.specs.declared.input.Phase.TheVariants as phase
use Rattle.yard_model.specs.Entities as entities
use Rattle.yard_model.specs.Entities.{Cell, Hosted, cell_in, cell_after, is_phase, new_cell, phase_by_post, reach_by_post, entered, entries_in}
use Rattle.yard_model.specs.Move.{told, post}
use Rattle.yard_model.specs.Node.{Node, by_entities}
use Rattle.yard_model.specs.Setting.{shard_of}
use Rattle.yard_model.specs.Words.{at}
use Rattle.plain_laws.proofs.Booleans.{both, number_itself}
use Rattle.settle_laws.specs.Alone.{Base, Alone, node_with, entities_at, is_home_at, recorded, confirmed_by, producer_at, is_live, is_active, Each, runs, Fits, IsOwn, is_asking, is_recovering, is_requesting, is_acking, Stands, weight, cells_load, wire_load, lefts, kept_load, total, load, More, Goes}
use Rattle.settle_laws.proofs.Records.{le_itself}
use Rattle.settle_laws.proofs.Tools.{each_last, any_kept, any_last, none_last, paced_more, more_none, goes_also, goes_if_map}
use Rattle.settle_laws.proofs.Deliver.{Delivered, wire_sums}
use Rattle.yard_model.specs.Words.{is_at}
use Rattle.yard_model.specs.Region as region
use Rattle.yard_model.specs.Region.{Region, kept_of, home}
use Rattle.yard_model.specs.Entities.{is_running_in}
use Rattle.yard_model.specs.Node.{by_region, route}
use Rattle.plain_laws.proofs.Members.{itself_is}
use Rattle.settle_laws.specs.Alone.{region_at}
use Rattle.settle_laws.proofs.Tools.{table_all, goes_map_both}
use Rattle.settle_laws.proofs.Route.{deliver_goes}
use Rattle.yard_model.specs.Region.{no_stamp}

-- what Route leaves
pub record Routed (b : Base) (z : Alone) (m : Message) (to : Alone) : Type 0 where
  pub homes_are : to.homes ≡ z.homes
  pub producers_are : to.producers ≡ z.producers
  pub kept_are : is_home_at b z.homes (shard_of b.set m.entity) ≡ true → to.kept ≡ z.kept
  pub is_there : is_home_at b z.homes (shard_of b.set m.entity) ≡ true → is_live (cell_in b.set to.cells m.entity).phase ≡ true
  pub is_recorded : is_active b z.cells m.entity ≡ true → m.number ≤ recorded b to.hosted m.producer m.entity
  pub is_acked : is_active b z.cells m.entity ≡ true → list_any (is_acking m.producer m.entity (recorded b to.hosted m.producer m.entity)) to.wire ≡ true
  pub is_asked : is_home_at b z.homes (shard_of b.set m.entity) ≡ false → slice_index_or to.asked (shard_of b.set m.entity) false ≡ true
  pub asked_on : (s : ℕ) → slice_index_or z.asked s false ≡ true → slice_index_or to.asked s false ≡ true

-- Keeping.

pub record Keeps (z to : Alone) : Type 0 where
  pub homes_are : to.homes ≡ z.homes
  pub producers_are : to.producers ≡ z.producers
  pub asked_are : to.asked ≡ z.asked
  pub cells_are : to.cells ≡ z.cells
  pub hosted_are : to.hosted ≡ z.hosted

abbrev pub with_kept : Alone → ℕ → List Message → Alone
with_kept z s ms = record z { kept = slice_set z.kept s ms }

pub kept_stands : (b : Base) (later : ℕ → List ℕ → Type 0) (z : Alone) (s : ℕ) (ms : List Message) → s < b.set.config.shards → Stands b later z → Each (λ m. (shard_of b.set m.entity ≡ s) × Fits b z.hosted z.producers m) ms → Stands b later (with_kept z s ms)
kept_stands b later z s ms less i fits = record {
  base_is = i.base_is;
  homes_there = i.homes_there;
  asked_there = i.asked_there;
  kept_there = length-set z.kept s ms ∙ i.kept_there;
  hosted_there = i.hosted_there;
  cells_there = i.cells_there;
  homes = i.homes;
  marks = i.marks;
  running = i.running;
  free = i.free;
  hosts = i.hosts;
  regions_are = i.regions_are;
  lease_is = i.lease_is;
  allocated = i.allocated;
  asking = i.asking;
  settled = i.settled;
  live = i.live;
  loading = i.loading;
  kept = table_all (λ t xs. Each (λ m. (shard_of b.set m.entity ≡ t) × Fits b z.hosted z.producers m) xs) z.kept s ms [] (subst (λ n. s < n) (sym i.kept_there) less) fits i.kept;
  stashed = i.stashed;
  posted = i.posted;
  producing = i.producing;
  bounded = i.bounded;
  paced = i.paced;
}

pub kept_more : (b : Base) (z : Alone) (s : ℕ) (ms : List Message) → More b z (with_kept z s ms)
kept_more b z s ms = record {
  homes_on = λ t h. h;
  live_on = λ e h. h;
  active_on = λ e h. h;
  recorded_on = λ q f. le_itself (recorded b z.hosted q f);
  confirmed_on = λ q f. le_itself (confirmed_by f (producer_at z.producers q));
  queued_on = λ q f. refl;
  holds_on = λ q h. h;
  posted_on = λ q h. h;
  hosts_on = λ t h. h;
  answered = λ q f. inl refl;
}

-- two for each message more, and less two for each less
pub kept_costs : (b : Base) (z : Alone) (s : ℕ) (ms : List Message) → s < length z.kept → load b (with_kept z s ms) + 2 * length (kept_of z.kept s) ≡ load b z + 2 * length ms
kept_costs b z s ms less = sums (lefts b z.producers) (cells_load z.cells) (kept_load z.kept) (kept_load (slice_set z.kept s ms)) (wire_load z.wire) (length (kept_of z.kept s)) (length ms) (sum_by-set length z.kept s ms [] less)
  where
    sums : (l v k k' w x y : ℕ) → k' + x ≡ k + y → total l v k' w + 2 * x ≡ total l v k w + 2 * y
    sums l v k k' w x y e = omega (arith, e)

pub keep_goes : (b : Base) (later : ℕ → List ℕ → Type 0) (z : Alone) (m : Message) → Stands b later z → Fits b z.hosted z.producers m → Goes b later 2 (Keeps z) z (map by_region (region.keep m (region_at b z)))
keep_goes b later z m s fits = goes_if_map b later 2 (Keeps z) z by_region _ (told (fact.Kept b.who m) ∷ []) (told (fact.Dropped b.who m) ∷ [])
    (λ h. record {
      to = with_kept z shard (kept_of z.kept shard ++ m ∷ []);
      node_is = refl;
      wire_is = refl;
      stands = kept_stands b later z shard (kept_of z.kept shard ++ m ∷ []) less s (each_last _ (kept_of z.kept shard) m (s.kept shard) (refl, fits));
      costs = dearer (load b (with_kept z shard (kept_of z.kept shard ++ m ∷ []))) (load b z) (length (kept_of z.kept shard)) (length (kept_of z.kept shard ++ m ∷ [])) (kept_costs b z shard (kept_of z.kept shard ++ m ∷ []) (subst (λ n. shard < n) (sym s.kept_there) less)) (length-append (kept_of z.kept shard) (m ∷ []));
      entered = refl;
      more = kept_more b z shard (kept_of z.kept shard ++ m ∷ []);
      also_is = record { homes_are = refl; producers_are = refl; asked_are = refl; cells_are = refl; hosted_are = refl };
    })
    (λ h. record {
      to = z;
      node_is = refl;
      wire_is = refl;
      stands = s;
      costs = plus (load b z);
      entered = refl;
      more = more_none b z;
      also_is = record { homes_are = refl; producers_are = refl; asked_are = refl; cells_are = refl; hosted_are = refl };
    })
  where
    shard : ℕ
    shard = shard_of b.set m.entity

    less : shard < b.set.config.shards
    less = s.base_is.sharded m.entity

    plus : (n : ℕ) → n ≤ n + 2
    plus n = omega arith

    dearer : (x y k n : ℕ) → x + 2 * k ≡ y + 2 * n → n ≡ k + 1 → x ≤ y + 2
    dearer x y k n e f = omega (arith, e, f)

-- Asking.

pub record Asks (b : Base) (z : Alone) (s : ℕ) (to : Alone) : Type 0 where
  pub homes_are : to.homes ≡ z.homes
  pub producers_are : to.producers ≡ z.producers
  pub kept_are : to.kept ≡ z.kept
  pub cells_are : to.cells ≡ z.cells
  pub hosted_are : to.hosted ≡ z.hosted
  pub entries_are : to.entries ≡ z.entries
  pub is_asked : slice_index_or to.asked s false ≡ true
  pub asked_on : (t : ℕ) → slice_index_or z.asked t false ≡ true → slice_index_or to.asked t false ≡ true

pub ask_post_goes : (b : Base) (later : ℕ → List ℕ → Type 0) (z : Alone) (s : ℕ) → s < b.set.config.shards → Stands b later z → Goes b later 4 (Asks b z s) z (by_region (post b.who b.who (body.GetShardHome s)) ∷ [])
ask_post_goes b later z s less i = record {
  to = to;
  node_is = refl;
  wire_is = refl;
  stands = record {
    base_is = i.base_is;
    homes_there = i.homes_there;
    asked_there = length-set z.asked s true ∙ i.asked_there;
    kept_there = i.kept_there;
    hosted_there = i.hosted_there;
    cells_there = i.cells_there;
    homes = i.homes;
    marks = i.marks;
    running = i.running;
    free = i.free;
    hosts = i.hosts;
    regions_are = i.regions_are;
    lease_is = i.lease_is;
    allocated = i.allocated;
    asking = table_all (λ t x. x ≡ true → (is_home_at b z.homes t ≡ true) ⊎ (list_any (is_asking t) to.wire ≡ true)) z.asked s true false there
        (λ h. inr (any_last (is_asking s) z.wire packet (number_itself s s refl))) (λ t h. wired t (i.asking t h));
    settled = i.settled;
    live = i.live;
    loading = λ f h. any_kept (is_recovering f) z.wire packet (i.loading f h);
    kept = i.kept;
    stashed = i.stashed;
    posted = each_last (IsOwn b z.hosted z.cells) z.wire packet i.posted (refl, refl, less);
    producing = i.producing;
    bounded = i.bounded;
    paced = λ q f above. paced_more b (later q f) z.hosted z.hosted z.cells z.cells z.producers z.wire to.wire q f (λ h. h) (le_itself (recorded b z.hosted q f)) (λ h. none_last (is_requesting q f) z.wire packet h refl) (i.paced q f above);
  };
  costs = wire_sums (lefts b z.producers) (cells_load z.cells) (kept_load z.kept) (wire_load z.wire) (wire_load to.wire) 4 (sum_by_push (λ (p : Packet). weight p.body) z.wire packet);
  entered = refl;
  more = record {
    homes_on = λ t h. h;
    live_on = λ e h. h;
    active_on = λ e h. h;
    recorded_on = λ q f. le_itself (recorded b z.hosted q f);
    confirmed_on = λ q f. le_itself (confirmed_by f (producer_at z.producers q));
    queued_on = λ q f. refl;
    holds_on = λ q h. h;
    posted_on = λ q h. any_kept q z.wire packet h;
    hosts_on = λ t h. h;
    answered = λ q f. inl refl;
  };
  also_is = record {
    homes_are = refl;
    producers_are = refl;
    kept_are = refl;
    cells_are = refl;
    hosted_are = refl;
    entries_are = refl;
    is_asked = get_or-set_same z.asked s true false there;
    asked_on = table_all (λ t x. slice_index_or z.asked t false ≡ true → x ≡ true) z.asked s true false there (λ h. refl) (λ t h. h);
  };
}
  where
    packet : Packet
    packet = record { from = b.who; to = b.who; body = body.GetShardHome s }

    to : Alone
    to = record z { asked = slice_set z.asked s true; wire = z.wire ++ packet ∷ [] }

    there : s < length z.asked
    there = subst (λ n. s < n) (sym i.asked_there) less

    wired : (t : ℕ) → (is_home_at b z.homes t ≡ true) ⊎ (list_any (is_asking t) z.wire ≡ true) → (is_home_at b z.homes t ≡ true) ⊎ (list_any (is_asking t) to.wire ≡ true)
    wired t (inl h) = inl h
    wired t (inr h) = inr (any_kept (is_asking t) z.wire packet h)

pub ask_goes : (b : Base) (later : ℕ → List ℕ → Type 0) (z : Alone) (s : ℕ) (asked : Bool) → slice_index_or z.asked s false ≡ asked → s < b.set.config.shards → Stands b later z → Goes b later 4 (Asks b z s) z (map by_region (if asked then [] else region.post_oldest (body.GetShardHome s) (region_at b z)))
ask_goes b later z s true is less i = record {
  to = z;
  node_is = refl;
  wire_is = refl;
  stands = i;
  costs = plus (load b z);
  entered = refl;
  more = more_none b z;
  also_is = record { homes_are = refl; producers_are = refl; kept_are = refl; cells_are = refl; hosted_are = refl; entries_are = refl; is_asked = is; asked_on = λ t h. h };
}
  where
    plus : (n : ℕ) → n ≤ n + 4
    plus n = omega arith
ask_goes b later z s false is less i = ask_post_goes b later z s less i

-- Route.

pub running_of : (o : Option Hosted) → is_none o ≡ false → runs o ≡ true → is_running_in o ≡ true
running_of None h k = absurd (true≢false h)
running_of (Some x) h k = k

pub home_runs : (b : Base) (later : ℕ → List ℕ → Type 0) (z : Alone) (s : ℕ) → Stands b later z → is_home_at b z.homes s ≡ true → is_running_in (at z.hosted s) ≡ true
home_runs b later z s i home = running_of (at z.hosted s) (i.hosts s home) (i.running s)

-- no other home
pub home_none : (b : Base) (later : ℕ → List ℕ → Type 0) (z : Alone) (s : ℕ) → Stands b later z → is_home_at b z.homes s ≡ false → at z.homes s ≡ None
home_none b later z s i h = by (at z.homes s) refl
  where
    by : (o : Option Incarnation) → at z.homes s ≡ o → at z.homes s ≡ None
    by None e = e
    by (Some x) e = absurd (true≢false (sym (ap (is_at b.who) e ∙ itself_is b.who x (sym (i.homes s x e))) ∙ h))

pub route_goes : (b : Base) (later : ℕ → List ℕ → Type 0) (z : Alone) (m : Message) → Stands b later z → Fits b z.hosted z.producers m → Goes b later 6 (Routed b z m) z (route m (node_with b z))
route_goes b later z m s fits = by (is_home_at b z.homes shard) refl
  where
    shard : ℕ
    shard = shard_of b.set m.entity

    st : Node
    st = node_with b z

    by : (home : Bool) → is_home_at b z.homes shard ≡ home → Goes b later 6 (Routed b z m) z (if is_home_at b z.homes shard && is_running_in (at z.hosted shard) then map by_entities (entities.deliver m (entities_at b z)) else map by_region (region.route_away m (region_at b z)))
    by true home = subst (λ t. Goes b later 6 (Routed b z m) z (if t then map by_entities (entities.deliver m (entities_at b z)) else map by_region (region.route_away m (region_at b z)))) (sym (both _ _ home (home_runs b later z shard s home)))
        (goes_also b later 2 6 (Delivered b z m) (Routed b z m) z (map by_entities (entities.deliver m (entities_at b z))) (omega arith)
        (λ to t more d. record { homes_are = d.homes_are; producers_are = d.producers_are; kept_are = λ h. d.kept_are; is_there = λ h. d.is_there; is_recorded = d.is_recorded; is_acked = d.is_acked; is_asked = λ h. absurd (true≢false (sym home ∙ h)); asked_on = λ t h. ap (λ l. slice_index_or l t false) d.asked_are ∙ h })
        (deliver_goes b later z m s fits home))
    by false home = subst (λ t. Goes b later 6 (Routed b z m) z (if t && is_running_in (at z.hosted shard) then map by_entities (entities.deliver m (entities_at b z)) else map by_region (region.route_away m (region_at b z)))) (sym home)
        (subst (λ o. Goes b later 6 (Routed b z m) z (map by_region (region.route_by m (region_at b z) o))) (sym (home_none b later z shard s home))
        (let g : Goes b later 2 (Keeps z) z (map by_region (region.keep m (region_at b z))) = keep_goes b later z m s fits in
        let k : Keeps z g.to = g.also_is in
        goes_map_both b later later 2 4 (Keeps z) (Routed b z m) z by_region (region.keep m (region_at b z)) _ g
        (goes_also b later 4 4 (Asks b g.to shard) (Routed b z m) g.to _ (le_itself 4)
        (λ to t more a. record {
          homes_are = a.homes_are ∙ k.homes_are;
          producers_are = a.producers_are ∙ k.producers_are;
          kept_are = λ h. absurd (true≢false (sym h ∙ home));
          is_there = λ h. absurd (true≢false (sym h ∙ home));
          is_recorded = λ h. absurd (true≢false (sym (s.live m.entity (live_active (cell_in b.set z.cells m.entity).phase h)) ∙ home));
          is_acked = λ h. absurd (true≢false (sym (s.live m.entity (live_active (cell_in b.set z.cells m.entity).phase h)) ∙ home));
          is_asked = λ h. a.is_asked;
          asked_on = λ t h. a.asked_on t (ap (λ l. slice_index_or l t false) k.asked_are ∙ h);
        })
        (ask_goes b later g.to shard (slice_index_or z.asked shard false) (ap (λ l. slice_index_or l shard false) k.asked_are) (s.base_is.sharded m.entity) g.stands))))
      where
        live_active : (p : Phase) → is_phase phase.Active p ≡ true → is_live p ≡ true
        live_active phase.Absent h = h
        live_active phase.Loading h = refl
        live_active phase.Active h = refl
        live_active phase.Stopping h = refl
