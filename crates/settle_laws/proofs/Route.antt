-- Deliver and Route, whole.
use Rattle.std.proofs.Common.{◌≡◌, ◌<◌, ◌≤◌, inr, ℕ, ◌+◌, ◌-◌, List, [], ◌∷◌, ◌++◌, length, map, sym, ap, subst, ◌∙◌, refl, true, false, true≢false, arith}
use Rattle.std.specs.Prelude.{not, Bool, ◌==◌, ◌&&◌, nat_le, nat_lt, Option, Some, None, is_none, slice_set, if◌then◌else◌, ◌%◌}
use Rattle.std.specs.List.{list_any}
use Rattle.std.proofs.lemmas.List.Sums.{sum_by_push}
use Rattle.yard_model.specs.declared.fact.Fact.TheVariants as fact
use Rattle.yard_model.specs.declared.packet.Body.TheVariants as body
use Rattle.yard_model.specs.declared.packet.Packet.{Packet}
use Rattle.yard_model.specs.declared.packet.Message.{Message}
use Rattle.yard_model.specs.declared.packet.Record.{Record}
use Rattle.yard_model.specs.declared.incarnation.Incarnation.{Incarnation}
use Rattle.yard_model.specs.declared.input.Phase.{Phase}
use Rattle.yard_model.specs.declared.input.Phase.TheVariants as phase
use Rattle.yard_model.specs.Entities as entities
use Rattle.yard_model.specs.Entities.{Cell, Hosted, cell_in, cell_after, is_phase, new_cell, phase_by_post, reach_by_post, entered, entries_in}
use Rattle.yard_model.specs.Move.{told, post}
use Rattle.yard_model.specs.Node.{Act, by_entities}
use Rattle.yard_model.specs.Script.{is_name}
use Rattle.yard_model.specs.Setting.{place, shard_of}
use Rattle.yard_model.specs.SlotLists.{shard_list}
use Rattle.yard_model.specs.SlotReads.{journal, position}
use Rattle.yard_model.specs.Words.{at}
use Rattle.plain_laws.proofs.Booleans.{and_both, both, same_name, same_number, number_itself, at_most}
use Rattle.plain_laws.proofs.Names.{name_itself}
use Rattle.settle_laws.specs.Alone.{Base, Alone, node_with, entities_at, is_home_at, recorded, IsThere, is_live, is_active, is_settled_by, Fits, IsOwn, is_recovering, is_requesting, requests_by, is_acking, IsFast, Stands, weight, cell_load, Goes}
use Rattle.settle_laws.proofs.Records.{le_itself, le_of, le_then, hosted_list}
use Rattle.settle_laws.proofs.Tools.{each_last, any_kept, any_last, none_last, cells_more, posted_more, IsPaced, paced_more, fast_more, goes_none, goes_both, goes_also, goes_if_map}
use Rattle.settle_laws.proofs.Cells.{with_cell, Puts, put_stands, put_more, put_costs, Started, start_goes}
use Rattle.settle_laws.proofs.Deliver.{Delivered, post_goes, stash_goes, stash_message_goes, Writes, wrote_writes, still_writes}
use Rattle.yard_model.specs.Region.{home}
use Rattle.yard_model.specs.Entities.{is_running_in}
use Rattle.settle_laws.proofs.Write.{ack_of, IsNext, Wrote, recorded_goes}

-- More is asked for.

pub request_goes : (b : Base) (later : ℕ → List ℕ → Type 0) (z : Alone) (to : Incarnation) (p : ℕ) (e : List ℕ) (n u : ℕ) → Stands b later z → to ≡ b.who → 0 < p → IsThere b e → n ≤ recorded b z.hosted p e → is_active b z.cells e ≡ true
    → IsFast b (later p e) z.hosted z.cells z.producers p e
    → Goes b later 1 (λ now. (now.homes ≡ z.homes) × (now.producers ≡ z.producers) × (now.kept ≡ z.kept) × (now.asked ≡ z.asked) × (now.hosted ≡ z.hosted)) z (by_entities (post b.who to (body.Request p e n u)) ∷ [])
request_goes b later z to p e n u s to_is above there less active fast = record {
  to = with_cell b z e c wire;
  node_is = ap (λ x. node_with b (record z { cells = slice_set z.cells (place b.set e) x })) same;
  wire_is = refl;
  stands = put_stands b later z e c wire s puts;
  costs = put_costs b z e c wire (cell_load old.phase old.stash) (cell_load old.phase old.stash) 1 1 s.cells_there there refl refl (sum_by_push (λ (p : Packet). weight p.body) z.wire packet) (le_itself (cell_load old.phase old.stash + 1));
  entered = refl;
  more = put_more b later z e c wire s puts;
  also_is = (refl, refl, refl, refl, refl);
}
  where
    old : Cell
    old = cell_in b.set z.cells e

    c : Cell
    c = record { phase = old.phase; passivating = old.passivating; stash = old.stash; armed = old.armed; reach = slice_set old.reach (p - 1) u }

    packet : Packet
    packet = record { from = b.who; to = to; body = body.Request p e n u }

    wire : List Packet
    wire = z.wire ++ packet ∷ []

    phase_stays : (q : Phase) → phase_by_post q (body.Request p e n u) ≡ q
    phase_stays phase.Absent = refl
    phase_stays phase.Loading = refl
    phase_stays phase.Active = refl
    phase_stays phase.Stopping = refl

    same : cell_after old (post b.who to (body.Request p e n u)) ≡ c
    same = ap (λ q. record { phase = q; passivating = old.passivating; stash = old.stash; armed = old.armed; reach = slice_set old.reach (p - 1) u }) (phase_stays old.phase)

    active_on : (f : List ℕ) → is_active b z.cells f ≡ true → is_active b (slice_set z.cells (place b.set e) c) f ≡ true
    active_on = cells_more b (λ x. is_phase phase.Active x.phase) z.cells e c s.cells_there there (λ h. h)

    apart : (q : ℕ) (f : List ℕ) → 0 < q → (t : Bool) → requests_by q f packet.body ≡ t → IsPaced b (later q f) z.hosted (slice_set z.cells (place b.set e) c) z.producers wire q f
    apart q f is false k = paced_more b (later q f) z.hosted z.hosted z.cells (slice_set z.cells (place b.set e) c) z.producers z.wire wire q f (active_on f) (le_itself (recorded b z.hosted q f)) (λ h. none_last (is_requesting q f) z.wire packet h k) (s.paced q f is)
    apart q f is true k =
        let pair : ((p == q) ≡ true) × (is_name e f ≡ true) = and_both (p == q) (is_name e f) k in
        let entity : e ≡ f = same_name e f pair.1 in
        let producer : p ≡ q = same_number p q pair.0 in
        inr (fast_more b (later q f) z.hosted z.hosted z.cells (slice_set z.cells (place b.set e) c) z.producers q f (active_on f) (le_itself (recorded b z.hosted q f))
        (subst (λ g. IsFast b (later q g) z.hosted z.cells z.producers q g) entity (subst (λ r. IsFast b (later r e) z.hosted z.cells z.producers r e) producer fast)))

    puts : Puts b later z e c wire
    puts = record {
      there = there;
      settled = s.settled e;
      live = s.live e;
      loading = λ h. any_kept (is_recovering e) z.wire packet (s.loading e h);
      stashed = s.stashed e;
      live_on = λ h. h;
      active_on = λ h. h;
      wire_on = λ q h. any_kept q z.wire packet h;
      own = each_last (IsOwn b z.hosted (slice_set z.cells (place b.set e) c)) z.wire packet (posted_more b z.hosted z.hosted z.cells (slice_set z.cells (place b.set e) c) z.wire active_on (λ p f. le_itself (recorded b z.hosted p f)) s.posted)
          (refl, to_is, (above, there, active_on e active, less));
      paced = λ q f is. apart q f is (requests_by q f packet.body) refl;
    }

-- Deliver.

pub none_of : {A : Type 0} (o : Option A) → is_none o ≡ true → o ≡ None
none_of None h = refl
none_of (Some x) h = absurd (true≢false (sym h))

pub active_phase : (p : Phase) → p ≡ phase.Active → is_phase phase.Active p ≡ true
active_phase p e = ap (is_phase phase.Active) e

pub written_goes : (b : Base) (later : ℕ → List ℕ → Type 0) (z : Alone) (m : Message) (n : ℕ) (r : Record) → Stands b later z → IsNext b z m → is_none (at z.hosted (shard_of b.set m.entity)) ≡ false → n ≡ recorded b z.hosted m.producer m.entity → r.producer ≡ m.producer
    → Goes b later 2 (Delivered b z m) z (map by_entities (entities.write m r (n + 1) (entities_at b z) None))
written_goes b later z m n r s next hosted n_is by_m = snapped (r.number % b.set.config.snapshot == 0)
  where
    shard : ℕ
    shard = shard_of b.set m.entity

    there : shard < length z.hosted
    there = subst (λ k. shard < k) (sym s.hosted_there) (s.base_is.sharded m.entity)

    one : Writes b z.hosted (entered shard (fact.Wrote m.entity r) z.hosted) m.producer m.entity
    one = subst (λ p. Writes b z.hosted (entered shard (fact.Wrote m.entity r) z.hosted) p m.entity) by_m (wrote_writes b z.hosted m.entity r there hosted)

    two : Writes b z.hosted (entered shard (fact.Snapshot m.entity r.number) (entered shard (fact.Wrote m.entity r) z.hosted)) m.producer m.entity
    two = still_writes b z.hosted (entered shard (fact.Wrote m.entity r) z.hosted) m.producer m.entity (fact.Snapshot m.entity r.number) shard there hosted (λ g x. refl) one

    asks : (now : Alone) → Stands b later now → Wrote b later z m now → Goes b later 1 (Delivered b z m) now (map by_entities (entities.ask_more m (n + 1) (entities_at b z)))
    asks now t w = goes_if_map b later 1 (Delivered b z m) now by_entities _ (post b.who m.origin (body.Request m.producer m.entity (n + 1) (n + 1 + b.set.config.window)) ∷ []) []
        (λ h. goes_also b later 1 1 _ (Delivered b z m) now _ (le_itself 1)
        (λ to u more same. record {
          homes_are = same.0 ∙ w.homes_are;
          producers_are = same.1 ∙ w.producers_are;
          kept_are = same.2 ∙ w.kept_are;
          asked_are = same.3 ∙ w.asked_are;
          is_there = more.live_on m.entity lives;
          is_recorded = λ h. subst (λ l. m.number ≤ recorded b l m.producer m.entity) (sym same.4) w.is_recorded;
          is_acked = λ h. subst (λ l. list_any (is_acking m.producer m.entity (recorded b l m.producer m.entity)) to.wire ≡ true) (sym same.4) (more.posted_on (is_acking m.producer m.entity (recorded b now.hosted m.producer m.entity)) w.is_acked);
        })
        (request_goes b later now m.origin m.producer m.entity (n + 1) (n + 1 + b.set.config.window) t next.fits.0 next.fits.1 next.fits.2 (subst (λ k. k ≤ recorded b now.hosted m.producer m.entity) (next.number_is ∙ ap (λ x. x + 1) (sym n_is)) w.is_recorded) active w.fast_is))
        (λ h. goes_also b later 0 1 (λ to. to ≡ now) (Delivered b z m) now [] (omega arith)
        (λ to u more same. subst (Delivered b z m) (sym same) (record { homes_are = w.homes_are; producers_are = w.producers_are; kept_are = w.kept_are; asked_are = w.asked_are; is_there = lives; is_recorded = λ h. w.is_recorded; is_acked = λ h. w.is_acked }))
        (goes_none b later (λ to. to ≡ now) now t refl))
      where
        active : is_active b now.cells m.entity ≡ true
        active = ap (λ l. is_active b l m.entity) w.cells_are ∙ next.active_is

        live_active : (p : Phase) → is_phase phase.Active p ≡ true → is_live p ≡ true
        live_active phase.Absent h = h
        live_active phase.Loading h = refl
        live_active phase.Active h = refl
        live_active phase.Stopping h = refl

        lives : is_live (cell_in b.set now.cells m.entity).phase ≡ true
        lives = live_active (cell_in b.set now.cells m.entity).phase active

    snapped : (t : Bool) → Goes b later 2 (Delivered b z m) z (map by_entities (told (fact.Wrote m.entity r) ∷ (if t then told (fact.Snapshot m.entity r.number) ∷ [] else []) ++ post b.who m.origin (body.Ack m.producer m.entity (n + 1)) ∷ entities.ask_more m (n + 1) (entities_at b z)))
    snapped true =
        let acts : List Act = by_entities (told (fact.Wrote m.entity r)) ∷ by_entities (told (fact.Snapshot m.entity r.number)) ∷ by_entities (post b.who m.origin (body.Ack m.producer m.entity (n + 1))) ∷ [] in
        let g : Goes b later 1 (Wrote b later z m) z acts = recorded_goes b later z m (entered shard (fact.Snapshot m.entity r.number) (entered shard (fact.Wrote m.entity r) z.hosted)) acts s next two n n_is refl refl (both _ _ (ap not (two.nones shard ∙ hosted)) (both _ _ (ap not (two.nones shard ∙ hosted)) refl)) in
        goes_both b later later 1 1 (Wrote b later z m) (Delivered b z m) z acts _ g (asks g.to g.stands g.also_is)
    snapped false =
        let acts : List Act = by_entities (told (fact.Wrote m.entity r)) ∷ by_entities (post b.who m.origin (body.Ack m.producer m.entity (n + 1))) ∷ [] in
        let g : Goes b later 1 (Wrote b later z m) z acts = recorded_goes b later z m (entered shard (fact.Wrote m.entity r) z.hosted) acts s next one n n_is refl refl (both _ _ (ap not (one.nones shard ∙ hosted)) refl) in
        goes_both b later later 1 1 (Wrote b later z m) (Delivered b z m) z acts _ g (asks g.to g.stands g.also_is)

pub deliver_goes : (b : Base) (later : ℕ → List ℕ → Type 0) (z : Alone) (m : Message) → Stands b later z → Fits b z.hosted z.producers m → is_home_at b z.homes (shard_of b.set m.entity) ≡ true
    → Goes b later 2 (Delivered b z m) z (map by_entities (entities.deliver m (entities_at b z)))
deliver_goes b later z m s fits home = by (cell_in b.set z.cells m.entity).phase refl
  where
    hosted : is_none (at z.hosted (shard_of b.set m.entity)) ≡ false
    hosted = s.hosts (shard_of b.set m.entity) home

    armed : (cell_in b.set z.cells m.entity).armed ≡ None
    armed =
        let m2 : (is_settled_by (cell_in b.set z.cells m.entity).phase (cell_in b.set z.cells m.entity).stash ≡ true) × (is_none (cell_in b.set z.cells m.entity).armed ≡ true) = and_both _ _ (s.settled m.entity) in
        none_of (cell_in b.set z.cells m.entity).armed m2.1

    next_is : (n x k : ℕ) → k ≡ x → n ≤ x + 1 → (nat_le n k) ≡ false → n ≡ x + 1
    next_is n x k e h f = grind (arith, e, h, f)

    at_goes : (n : ℕ) (records : List Record) → n ≡ recorded b z.hosted m.producer m.entity → (cell_in b.set z.cells m.entity).phase ≡ phase.Active → Goes b later 2 (Delivered b z m) z (map by_entities (entities.deliver_at m n records (entities_at b z)))
    at_goes n records n_is is = goes_if_map b later 2 (Delivered b z m) z by_entities (nat_le m.number n) (post b.who m.origin (body.Ack m.producer m.entity n) ∷ []) _
        (λ old. goes_also b later 1 2 (Delivered b z m) (Delivered b z m) z _ (omega arith) (λ to u more d. d)
        (post_goes b later (Delivered b z m) z (ack_of b m n) (by_entities (post b.who m.origin (body.Ack m.producer m.entity n))) s
        (refl, fits.0, (fits.1, fits.2, active_phase _ is, le_of n (recorded b z.hosted m.producer m.entity) n_is)) (λ q f. refl) refl refl
        (record {
          homes_are = refl;
          producers_are = refl;
          kept_are = refl;
          asked_are = refl;
          is_there = ap is_live is;
          is_recorded = λ h. le_then m.number n (recorded b z.hosted m.producer m.entity) (at_most m.number n old) (le_of n (recorded b z.hosted m.producer m.entity) n_is);
          is_acked = λ h. any_last (is_acking m.producer m.entity (recorded b z.hosted m.producer m.entity)) z.wire (ack_of b m n) (both ((m.producer == m.producer) && is_name m.entity m.entity) (n == recorded b z.hosted m.producer m.entity) (both (m.producer == m.producer) (is_name m.entity m.entity) (number_itself m.producer m.producer refl) (name_itself m.entity)) (number_itself n (recorded b z.hosted m.producer m.entity) n_is));
        }) refl))
        (λ new. goes_if_map b later 2 (Delivered b z m) z by_entities (nat_lt (n + 1) m.number) (post b.who m.origin (body.Resend m.producer m.entity (n + 1)) ∷ []) _
        (λ gap. absurd (no_gap m.number n (recorded b z.hosted m.producer m.entity) n_is fits.4 gap))
        (λ none. subst (λ o. Goes b later 2 (Delivered b z m) z (map by_entities (entities.write m (entities.record_of m (entities_at b z) records) (n + 1) (entities_at b z) o))) (sym armed)
        (written_goes b later z m n (entities.record_of m (entities_at b z) records) s (record { fits = fits; number_is = next_is m.number (recorded b z.hosted m.producer m.entity) n n_is fits.4 new; active_is = active_phase _ is }) hosted n_is refl)))
      where
        no_gap : (n k x : ℕ) → k ≡ x → n ≤ x + 1 → nat_lt (k + 1) n ≡ true → ⊥
        no_gap n k x e h f = grind (arith, e, h, f)

    by : (p : Phase) → (cell_in b.set z.cells m.entity).phase ≡ p → Goes b later 2 (Delivered b z m) z (map by_entities (entities.deliver_by m (entities_at b z) (cell_in b.set z.cells m.entity).phase))
    by phase.Absent is = subst (λ q. Goes b later 2 (Delivered b z m) z (map by_entities (entities.deliver_by m (entities_at b z) q))) (sym is)
        (let g : Goes b later 0 (Started b z m.entity) z (map by_entities (entities.start_entity m.entity (entities_at b z))) = start_goes b later z m.entity s fits.2 is home in
        let a : Started b z m.entity g.to = g.also_is in
        goes_both b later later 0 2 (Started b z m.entity) (Delivered b z m) z (map by_entities (entities.start_entity m.entity (entities_at b z))) _ g
        (goes_also b later 2 2 (Delivered b g.to m) (Delivered b z m) g.to _ (le_itself 2)
        (λ to u more d. record { homes_are = d.homes_are ∙ a.homes_are; producers_are = d.producers_are ∙ a.producers_are; kept_are = d.kept_are ∙ a.kept_are; asked_are = d.asked_are ∙ a.asked_are; is_there = d.is_there; is_recorded = λ h. absurd (true≢false (sym h ∙ ap (is_phase phase.Active) is)); is_acked = λ h. absurd (true≢false (sym h ∙ ap (is_phase phase.Active) is)) })
        (stash_goes b later g.to m g.stands (subst (λ l. Fits b l g.to.producers m) (sym a.hosted_are) (subst (λ l. Fits b z.hosted l m) (sym a.producers_are) fits)) a.phase_is)))
    by phase.Loading is = subst (λ q. Goes b later 2 (Delivered b z m) z (map by_entities (entities.deliver_by m (entities_at b z) q))) (sym is) (stash_message_goes b later z m s fits is)
    by phase.Active is = subst (λ q. Goes b later 2 (Delivered b z m) z (map by_entities (entities.deliver_by m (entities_at b z) q))) (sym is)
        (at_goes _ _ (ap (λ l. position m.producer (journal m.entity l)) (hosted_list (shard_list b.lists (shard_of b.set m.entity)) (at z.hosted (shard_of b.set m.entity)) hosted)) is)
    by phase.Stopping is = absurd (true≢false (sym (s.settled m.entity) ∙ ap (λ p. is_settled_by p (cell_in b.set z.cells m.entity).stash && is_none (cell_in b.set z.cells m.entity).armed) is))
