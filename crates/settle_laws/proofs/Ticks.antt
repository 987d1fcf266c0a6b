-- The tick: what is asked for, hosted and sent again.
use Rattle.std.proofs.Common.{◌≡◌, ◌<◌, ◌≤◌, ℕ, zero, suc, ◌+◌, ◌*◌, List, [], ◌∷◌, ◌++◌, length, map, sym, ap, subst, ◌∙◌, refl, true, false, true≢false, arith}
use Rattle.std.specs.Prelude.{Bool, ◌||◌, ◌&&◌, not, fold, Option, Some, None, is_none, slice_index_or, if◌then◌else◌}
use Rattle.yard_model.specs.declared.fact.Fact.{Fact}
use Rattle.yard_model.specs.declared.packet.Body.TheVariants as body
use Rattle.yard_model.specs.declared.incarnation.Incarnation.{Incarnation}
use Rattle.yard_model.specs.declared.input.Phase.{Phase}
use Rattle.yard_model.specs.declared.input.Phase.TheVariants as phase
use Rattle.yard_model.specs.Entities as entities
use Rattle.yard_model.specs.Entities.{Cell, Hosted, cell_in, cell_after, is_phase, new_cell, phase_by_post, reach_by_post, entered, entries_in}
use Rattle.yard_model.specs.Move.{Move, post}
use Rattle.yard_model.specs.Node.{after}
use Rattle.yard_model.specs.Words.{at, is_empty}
use Rattle.settle_laws.specs.Alone.{Base, Alone, node_with, entities_at, is_home_at, is_settled_by, Each, Stands, Goes}
use Rattle.settle_laws.proofs.Records.{le_itself, le_of}
use Rattle.settle_laws.proofs.Tools.{goes_none, goes_also, goes_if_map}
use Rattle.settle_laws.proofs.Deliver.{post_goes}
use Rattle.yard_model.specs.Words.{is_same}
use Rattle.yard_model.specs.Region as region
use Rattle.yard_model.specs.Region.{Region, kept_of, home}
use Rattle.yard_model.specs.Entities.{is_running_in}
use Rattle.yard_model.specs.Node.{by_region}
use Rattle.plain_laws.proofs.Members.{itself_is}
use Rattle.settle_laws.specs.Alone.{region_at}
use Rattle.settle_laws.proofs.Tools.{goes_map_both}
use Rattle.yard_model.specs.Words.{numbers}
use Rattle.std.specs.List.{fold}
use Rattle.settle_laws.specs.Alone.{none_later}
use Rattle.yard_model.specs.Turns.{in_turn, for_each, where_some}
use Rattle.yard_model.specs.Entities.{Entities, entities_after, is_in_phase}
use Rattle.yard_model.specs.Region.{no_stamp}
use Rattle.std.specs.Prelude.{filter}
use Rattle.std.specs.List.{flat_map}
use Rattle.yard_model.specs.declared.incarnation.Slot.TheVariants as slot
use Rattle.yard_model.specs.SlotLists.{SlotLists}
use Rattle.yard_model.specs.SlotReads.{epoch}
use Rattle.yard_model.specs.Node.{release, start, of_region}
use Rattle.yard_model.specs.Entities.{is_hosted}
use Rattle.yard_model.specs.Node.{all_in_turn, acquire}
use Rattle.settle_laws.proofs.Deliver.{post_goes}
use Rattle.yard_model.specs.Node.{by_coordinator, of_coordinator}
use Rattle.yard_model.specs.Coordinator as coordinator
use Rattle.yard_model.specs.Coordinator.{Coordinator, Share, coordinator_after}
use Rattle.yard_model.specs.SlotReads.{allocation}
use Rattle.yard_model.specs.Words.{is_among}
use Rattle.settle_laws.specs.Alone.{coordinator_at}
use Rattle.yard_model.specs.Node.{lead, start_again}
use Rattle.yard_model.specs.Setting.{shards}
use Rattle.settle_laws.proofs.Routes.{ask_post_goes, Asks}
use Rattle.settle_laws.proofs.Packets.{stamp_is}
use Rattle.std.specs.Prelude.{unwrap_or, find}

-- What a tick leaves between its steps.

pub record Ticks (b : Base) (z to : Alone) : Type 0 where
  pub homes_are : to.homes ≡ z.homes
  pub producers_are : to.producers ≡ z.producers
  pub cells_are : to.cells ≡ z.cells
  pub hosted_are : to.hosted ≡ z.hosted
  pub entries_are : to.entries ≡ z.entries
  pub asked_on : (s : ℕ) → slice_index_or z.asked s false ≡ true → slice_index_or to.asked s false ≡ true

pub ticks_none : (b : Base) (z : Alone) → Ticks b z z
ticks_none b z = record { homes_are = refl; producers_are = refl; cells_are = refl; hosted_are = refl; entries_are = refl; asked_on = λ s h. h }

pub ticks_both : (b : Base) (x y z : Alone) → Ticks b x y → Ticks b y z → Ticks b x z
ticks_both b x y z f g = record { homes_are = g.homes_are ∙ f.homes_are; producers_are = g.producers_are ∙ f.producers_are; cells_are = g.cells_are ∙ f.cells_are; hosted_are = g.hosted_are ∙ f.hosted_are; entries_are = g.entries_are ∙ f.entries_are; asked_on = λ s h. g.asked_on s (f.asked_on s h) }

-- numbers below a bound
pub numbers_below : (n a m : ℕ) → a + n ≤ m → Each (λ s. s < m) (numbers a n)
numbers_below zero a m h = tt
numbers_below (suc n) a m h = (first a n m h, numbers_below n (a + 1) m (rest a n m h))
  where
    first : (a n m : ℕ) → a + suc n ≤ m → a < m
    first a n m h = omega (arith, h)

    rest : (a n m : ℕ) → a + suc n ≤ m → a + 1 + n ≤ m
    rest a n m h = omega (arith, h)

pub numbers_length : (a n : ℕ) → length (numbers a n) ≡ n
numbers_length a zero = refl
numbers_length a (suc n) = ap suc (numbers_length (a + 1) n)

pub from_zero : (n : ℕ) → 0 + n ≤ n
from_zero n = omega arith

-- Lead does nothing.

pub or_this : (t : Bool) → t ≡ true → (t || false) ≡ true
or_this true h = refl
or_this false h = h

pub and_none : (t : Bool) → (t && false) ≡ false
and_none true = refl
and_none false = refl

pub own_among : (b : Base) → is_among b.who (b.who ∷ []) ≡ true
own_among b = or_this (is_same b.who b.who) (itself_is b.who b.who refl)

pub lead_none : (b : Base) (z : Alone) (lists : SlotLists) → Stands b none_later z → lead lists (node_with b z) ≡ []
lead_none b z lists i =
    ap (λ t. in_turn after (λ st. if t then map by_coordinator (acquire slot.Coordinator b.who lists.coordinator) else []) (λ st. of_coordinator (coordinator.terminate_lost st.region.view) st) (node_with b z)) (and_none (is_same b.who b.who))
    ∙ (ap (λ rs. map by_coordinator (for_each coordinator_after coordinator.terminate (filter (λ r. not (is_among r (b.who ∷ []))) rs) (coordinator_at b z))) i.regions_are
    ∙ ap (λ t. map by_coordinator (for_each coordinator_after coordinator.terminate (if not t then b.who ∷ [] else []) (coordinator_at b z))) (own_among b))

-- The coordinator's part: HostShard again.

abbrev pub host_moves : Base → List Fact → List Bool → ℕ → List Move
host_moves b entries started s = where_some (λ h. if slice_index_or started s false then [] else post b.who h (body.HostShard s (coordinator.stamp_of entries 0)) ∷ []) (allocation s entries)

pub hosts_again : (b : Base) (entries : List Fact) (started : List Bool) (ss : List ℕ) (z : Alone) → Stands b none_later z → z.entries ≡ entries → Each (λ s. s < b.set.config.shards) ss
    → Goes b none_later (2 * length ss) (Ticks b z) z (map by_coordinator (flat_map (host_moves b entries started) ss))
hosts_again b entries started [] z i same less = goes_none b none_later (Ticks b z) z i (ticks_none b z)
hosts_again b entries started (s ∷ ss) z i same less =
    let g : Goes b none_later 2 (Ticks b z) z (map by_coordinator (host_moves b entries started s)) = one (allocation s entries) refl in
    goes_also b none_later (2 + 2 * length ss) (2 * length (s ∷ ss)) (Ticks b z) (Ticks b z) z _ (two (length ss)) (λ to t more x. x)
    (goes_map_both b none_later none_later 2 (2 * length ss) (Ticks b z) (Ticks b z) z by_coordinator (host_moves b entries started s) (flat_map (host_moves b entries started) ss) g
    (goes_also b none_later (2 * length ss) (2 * length ss) (Ticks b g.to) (Ticks b z) g.to _ (le_itself (2 * length ss)) (λ to t more x. ticks_both b z g.to to g.also_is x)
    (hosts_again b entries started ss g.to g.stands (g.also_is.entries_are ∙ same) less.1)))
  where
    two : (n : ℕ) → 2 + 2 * n ≤ 2 * suc n
    two n = omega arith

    one : (o : Option Incarnation) → allocation s entries ≡ o → Goes b none_later 2 (Ticks b z) z (map by_coordinator (where_some (λ h. if slice_index_or started s false then [] else post b.who h (body.HostShard s (coordinator.stamp_of entries 0)) ∷ []) (allocation s entries)))
    one None e = subst (λ o. Goes b none_later 2 (Ticks b z) z (map by_coordinator (where_some (λ h. if slice_index_or started s false then [] else post b.who h (body.HostShard s (coordinator.stamp_of entries 0)) ∷ []) o))) (sym e)
        (goes_also b none_later 0 2 (Ticks b z) (Ticks b z) z [] (omega arith) (λ to t more x. x) (goes_none b none_later (Ticks b z) z i (ticks_none b z)))
    one (Some h) e = subst (λ o. Goes b none_later 2 (Ticks b z) z (map by_coordinator (where_some (λ h. if slice_index_or started s false then [] else post b.who h (body.HostShard s (coordinator.stamp_of entries 0)) ∷ []) o))) (sym e)
        (goes_if_map b none_later 2 (Ticks b z) z by_coordinator (slice_index_or started s false) [] (post b.who h (body.HostShard s (coordinator.stamp_of entries 0)) ∷ [])
        (λ k. goes_also b none_later 0 2 (Ticks b z) (Ticks b z) z [] (omega arith) (λ to t more x. x) (goes_none b none_later (Ticks b z) z i (ticks_none b z)))
        (λ k. post_goes b none_later (Ticks b z) z (record { from = b.who; to = h; body = body.HostShard s (coordinator.stamp_of entries 0) }) (by_coordinator (post b.who h (body.HostShard s (coordinator.stamp_of entries 0)))) i
        (refl, i.allocated s h (ap (allocation s) same ∙ e), (less.0, stamp_is b entries (ap epoch (sym same) ∙ i.lease_is))) (λ q f. refl) refl refl (record { homes_are = refl; producers_are = refl; cells_are = refl; hosted_are = refl; entries_are = refl; asked_on = λ t k. k }) refl))

abbrev pub no_moves : List Move
no_moves = []

-- nobody leaves
pub begin_none : (b : Base) (z : Alone) → Stands b none_later z → coordinator.begin_quitting (coordinator_at b z) ≡ []
begin_none b z i = ap (λ rs. if is_empty (coordinator.staying k) then [] else coordinator.begin (unwrap_or (find (λ ss. not (is_empty ss)) (map (coordinator.homes_at k) (filter (λ r. is_among r []) rs))) []) k) i.regions_are ∙ same (is_empty (coordinator.staying k))
  where
    k : Coordinator
    k = coordinator_at b z

    same : (t : Bool) → (if t then no_moves else no_moves) ≡ no_moves
    same true = refl
    same false = refl

pub office_goes : (b : Base) (z : Alone) → Stands b none_later z → Goes b none_later (2 * b.set.config.shards) (Ticks b z) z (of_coordinator coordinator.tick_coordinator (node_with b z))
office_goes b z i = subst (λ ms. Goes b none_later (2 * b.set.config.shards) (Ticks b z) z (map by_coordinator (ms ++ flat_map (coordinator.host_again (fold coordinator_after (coordinator_at b z) ms)) (shards (fold coordinator_after (coordinator_at b z) ms).set)))) (sym (begin_none b z i))
    (goes_also b none_later (2 * length (shards b.set)) (2 * b.set.config.shards) (Ticks b z) (Ticks b z) z _ (le_of _ _ (ap (λ n. 2 * n) (numbers_length 0 b.set.config.shards))) (λ to t more x. x)
    (hosts_again b z.entries z.started (shards b.set) z i refl (numbers_below b.set.config.shards 0 b.set.config.shards (from_zero b.set.config.shards))))

-- The region's part: homes are asked for again.

pub asks_again : (b : Base) (test : ℕ → Bool) (ss : List ℕ) (z : Alone) → Stands b none_later z → Each (λ s. s < b.set.config.shards) ss
    → Goes b none_later (4 * length ss) (Ticks b z) z (map by_region (flat_map (λ s. if test s then post b.who b.who (body.GetShardHome s) ∷ [] else []) ss))
asks_again b test [] z i less = goes_none b none_later (Ticks b z) z i (ticks_none b z)
asks_again b test (s ∷ ss) z i less =
    let g : Goes b none_later 4 (Ticks b z) z (map by_region (if test s then post b.who b.who (body.GetShardHome s) ∷ [] else [])) = one in
    goes_also b none_later (4 + 4 * length ss) (4 * length (s ∷ ss)) (Ticks b z) (Ticks b z) z _ (four (length ss)) (λ to t more x. x)
    (goes_map_both b none_later none_later 4 (4 * length ss) (Ticks b z) (Ticks b z) z by_region (if test s then post b.who b.who (body.GetShardHome s) ∷ [] else []) (flat_map (λ s. if test s then post b.who b.who (body.GetShardHome s) ∷ [] else []) ss) g
    (goes_also b none_later (4 * length ss) (4 * length ss) (Ticks b g.to) (Ticks b z) g.to _ (le_itself (4 * length ss)) (λ to t more x. ticks_both b z g.to to g.also_is x)
    (asks_again b test ss g.to g.stands less.1)))
  where
    four : (n : ℕ) → 4 + 4 * n ≤ 4 * suc n
    four n = omega arith

    one : Goes b none_later 4 (Ticks b z) z (map by_region (if test s then post b.who b.who (body.GetShardHome s) ∷ [] else []))
    one = goes_if_map b none_later 4 (Ticks b z) z by_region (test s) (post b.who b.who (body.GetShardHome s) ∷ []) []
        (λ k. asked (ask_post_goes b none_later z s less.0 i))
        (λ k. goes_also b none_later 0 4 (Ticks b z) (Ticks b z) z [] (omega arith) (λ to t more x. x) (goes_none b none_later (Ticks b z) z i (ticks_none b z)))
      where
        asked : Goes b none_later 4 (Asks b z s) z (by_region (post b.who b.who (body.GetShardHome s)) ∷ []) → Goes b none_later 4 (Ticks b z) z (by_region (post b.who b.who (body.GetShardHome s)) ∷ [])
        asked g = goes_also b none_later 4 4 (Asks b z s) (Ticks b z) z _ (le_itself 4) (λ to t more x. record { homes_are = x.homes_are; producers_are = x.producers_are; cells_are = x.cells_are; hosted_are = x.hosted_are; entries_are = x.entries_are; asked_on = x.asked_on }) g

pub region_goes : (b : Base) (z : Alone) → Stands b none_later z → Goes b none_later (4 * b.set.config.shards) (Ticks b z) z (of_region region.tick_region (node_with b z))
region_goes b z i = subst (λ t. Goes b none_later (4 * b.set.config.shards) (Ticks b z) z (map by_region ((if t then [] else post b.who b.who body.Register ∷ []) ++ [] ++ flat_map (region.ask_again (region_at b z)) (shards b.set)))) (sym (itself_is b.who b.who refl))
    (goes_also b none_later (4 * length (shards b.set)) (4 * b.set.config.shards) (Ticks b z) (Ticks b z) z _ (le_of _ _ (ap (λ n. 4 * n) (numbers_length 0 b.set.config.shards))) (λ to t more x. x)
    (asks_again b (λ s. is_none (at z.homes s) && not (is_empty (kept_of z.kept s))) (shards b.set) z i (numbers_below b.set.config.shards 0 b.set.config.shards (from_zero b.set.config.shards))))

-- Shards that are at home are hosted, and no entity loads.

pub starts_none : (b : Base) (z : Alone) (lists : SlotLists) (ss : List ℕ) → Stands b none_later z → for_each after (start_again lists) ss (node_with b z) ≡ []
starts_none b z lists [] i = refl
starts_none b z lists (s ∷ ss) i = ap (λ xs. xs ++ for_each after (start_again lists) ss (fold after (node_with b z) xs)) (one (is_home_at b z.homes s) refl) ∙ starts_none b z lists ss i
  where
    one : (t : Bool) → is_home_at b z.homes s ≡ t → start_again lists s (node_with b z) ≡ []
    one true e = ap (λ t. if is_home_at b z.homes s && not (not t) then all_in_turn (start lists s ∷ release s ∷ []) (node_with b z) else []) (i.hosts s e) ∙ ap (λ t. if t then all_in_turn (start lists s ∷ release s ∷ []) (node_with b z) else []) (and_none (is_home_at b z.homes s))
    one false e = ap (λ t. if t && not (is_hosted (entities_at b z) s) then all_in_turn (start lists s ∷ release s ∷ []) (node_with b z) else []) e

pub each_none : {A M : Type 0} (f : A → List M) (xs : List A) → ((x : A) → f x ≡ []) → flat_map f xs ≡ []
each_none f [] h = refl
each_none f (x ∷ xs) h = ap (λ l. l ++ flat_map f xs) (h x) ∙ each_none f xs h

pub reminds_none : (b : Base) (z : Alone) → Stands b none_later z → ((e : List ℕ) → is_phase phase.Loading (cell_in b.set z.cells e).phase ≡ false) → entities.tick_entities (entities_at b z) ≡ []
reminds_none b z i loaded = each_none _ (shards b.set) (λ s. each_none _ (entities.entities_of (entities_at b z) s) (λ e. one e (cell_in b.set z.cells e).phase refl))
  where
    one : (e : List ℕ) (p : Phase) → (cell_in b.set z.cells e).phase ≡ p → entities.remind_by e (entities_at b z) (cell_in b.set z.cells e).phase ≡ []
    one e phase.Absent k = ap (entities.remind_by e (entities_at b z)) k
    one e phase.Loading k = absurd (true≢false (sym (ap (is_phase phase.Loading) k) ∙ loaded e))
    one e phase.Active k = ap (entities.remind_by e (entities_at b z)) k
    one e phase.Stopping k = absurd (true≢false (sym (i.settled e) ∙ ap (λ p. is_settled_by p (cell_in b.set z.cells e).stash && is_none (cell_in b.set z.cells e).armed) k))
