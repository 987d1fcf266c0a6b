-- The parts of a tick that are of the region, the shards and the entities.
use Rattle.std.proofs.Common.{◌≡◌, ℕ, zero, suc, ◌+◌, ◌≤◌, List, [], ◌∷◌, ◌++◌, map, sym, ap, subst, ◌∙◌, refl, true, false, true≢false, arith}
use Rattle.std.specs.Prelude.{Bool, ◌==◌, ◌&&◌, ◌||◌, not, filter, find, unwrap_or, slice_index_or, fold, Option, Some, None, is_none, if◌then◌else◌}
use Rattle.std.specs.List.{list_all, flat_map}
use Rattle.std.proofs.lemmas.Grind.{flat_map-append}
use Rattle.std.proofs.lemmas.List.Sums.{fold-append}
use Rattle.yard_model.specs.declared.fact.Fact.{Fact}
use Rattle.yard_model.specs.declared.fact.Fact.TheVariants as fact
use Rattle.yard_model.specs.declared.out.Item.{Item}
use Rattle.yard_model.specs.declared.out.Item.TheVariants as item
use Rattle.yard_model.specs.declared.packet.Body.{Body}
use Rattle.yard_model.specs.declared.packet.Body.TheVariants as body
use Rattle.yard_model.specs.declared.packet.Message.{Message}
use Rattle.yard_model.specs.declared.incarnation.Incarnation.{Incarnation}
use Rattle.yard_model.specs.declared.incarnation.Stamp.{Stamp}
use Rattle.yard_model.specs.Trace.{lists_step}
use Rattle.yard_model.specs.declared.incarnation.Slot.TheVariants as slot
use Rattle.yard_model.specs.Entities as entities
use Rattle.yard_model.specs.Entities.{Entities, hosted}
use Rattle.yard_model.specs.Move.{Move, made, released, told, post, item_of}
use Rattle.yard_model.specs.Node.{Node, Act, Rule, by_region, by_entities, by_producer, by_coordinator, move_of, of_coordinator, lead, after, items_of, of_region, of_entities, all_in_turn, is_running, route, release, acquire, acquire_by, start, start_again}
use Rattle.yard_model.specs.Producer.{Producer}
use Rattle.yard_model.specs.Genuine.{is_genuine}
use Rattle.yard_model.specs.Coordinator as coordinator
use Rattle.yard_model.specs.Coordinator.{Coordinator, Moving, coordinator_after}
use Rattle.yard_model.specs.Queries.{Known, is_passivate}
use Rattle.yard_model.specs.Region as region
use Rattle.yard_model.specs.Region.{Region, region_after, kept_step, kept_of}
use Rattle.yard_model.specs.Script.{Script, Setting, setting}
use Rattle.yard_model.specs.Setting.{shard_of, shards}
use Rattle.yard_model.specs.SlotLists.{SlotLists, shard_list}
use Rattle.yard_model.specs.SlotReads.{holder}
use Rattle.yard_model.specs.Turns.{in_turn, for_each, where_some}
use Rattle.yard_model.specs.Words.{numbers, is_at, is_among, is_empty, without}
use Rattle.plain_laws.proofs.Booleans.{and_both, same_number, all_map, not_same}
use Rattle.plain_laws.proofs.Lists.{all_join, all_if, all_some, all_each}
use Rattle.yard_laws.proofs.FreeLaws.{region_is_free}
use Rattle.yard_laws.proofs.PartsLaws.{region_alone, entities_alone, coordinator_items}
use Rattle.actor_laws.specs.Owes.{Hand, facts_in, hand_after}
use Rattle.actor_laws.proofs.Rules.{region_set}
use Rattle.actor_laws.specs.EntitiesStand.{IsEntities}
use Rattle.actor_laws.specs.RegionStands.{IsRegion, is_kept_well}
use Rattle.node_laws.specs.NodeStands.{IsSoundNode}
use Rattle.node_laws.proofs.NodeBeside.{Beside, beside_none, beside_both, beside_if, region_beside, entities_beside, acquire_beside, remembered_beside, deliver_beside}
use Rattle.node_laws.proofs.NodeParts.{set_stays}
use Rattle.query_laws.specs.Shown.{AreCalm, IsRouted, IsTidy, known_after, shown}
use Rattle.query_laws.proofs.ShowBase.{AreShownBeside, Knows, with_producers, shown_append, beside_both as shown_both, known_on, knows_on}
use Rattle.query_laws.proofs.ShowEntities.{tick_entities_shown, tick_entities_tidy}
use Rattle.query_laws.proofs.ShowRegion.{tick_region_shown, tick_region_tidy, ticks_all}
use Rattle.query_laws.proofs.ShowShards.{IsKeptWell, ShowsWell, is_of, again_shown}

-- What goes on beside a shard.

-- the node and its entities have the script's setting
pub record IsSet (c : Script) (st : Node) : Type 0 where
  pub node : st.set ≡ setting c
  pub entities : st.entities.set ≡ setting c

entities_set : (st : Node) (acts : List Act) → (fold after st acts).entities.set ≡ st.entities.set
entities_set st [] = refl
entities_set st (by_region m ∷ acts) = entities_set (after st (by_region m)) acts
entities_set st (by_entities m ∷ acts) = entities_set (after st (by_entities m)) acts
entities_set st (by_producer p m ∷ acts) = entities_set (after st (by_producer p m)) acts
entities_set st (by_coordinator m ∷ acts) = entities_set (after st (by_coordinator m)) acts

pub set_on : (c : Script) (st : Node) (acts : List Act) → IsSet c st → IsSet c (fold after st acts)
set_on c st acts is = record { node = set_stays st acts ∙ is.node; entities = entities_set st acts ∙ is.entities }

-- a message to an entity of another shard
route_beside : (c : Script) (s : ℕ) (m : Message) (st : Node) → IsSet c st → not (shard_of (setting c) m.entity == s) ≡ true → Beside c s st (route m st)
route_beside c s m st is other =
    let t : ℕ = shard_of st.set m.entity in
    beside_if c s st (region.is_home st.region t && is_running st t) (of_entities (entities.deliver m) st) (of_region (region.route_away m) st)
    (λ here. entities_beside c s st (entities.deliver m st.entities) is.entities (deliver_beside (setting c) s m st.entities other))
    (λ away. region_beside c s st (region.route_away m st.region) ((region_is_free st.region).routed m))

releases_beside : (c : Script) (s t : ℕ) (ms : List Message) (st : Node) → IsSet c st → not (t == s) ≡ true → list_all (is_of (setting c) t) ms ≡ true
    → Beside c s st (for_each after (λ m. in_turn after (λ st. by_region (released t) ∷ []) (route m)) ms st)
releases_beside c s t [] st is other good = beside_none c s st
releases_beside c s t (m ∷ ms) st is other good =
    let n : (is_of (setting c) t m ≡ true) × (list_all (is_of (setting c) t) ms ≡ true) = and_both (is_of (setting c) t m) (list_all (is_of (setting c) t) ms) good in
    let mid : Node = after st (by_region (released t)) in
    let mid_set : IsSet c mid = record { node = is.node; entities = is.entities } in
    let acts : List Act = by_region (released t) ∷ route m mid in
    let later : Node = fold after mid (route m mid) in
    beside_both c s st acts (for_each after (λ m. in_turn after (λ st. by_region (released t) ∷ []) (route m)) ms later)
    (beside_both c s st (by_region (released t) ∷ []) (route m mid) (region_beside c s st (released t ∷ []) refl)
    (route_beside c s m mid mid_set (ap (λ x. not (x == s)) (same_number (shard_of (setting c) m.entity) t n.0) ∙ other)))
    (releases_beside c s t ms later (set_on c mid (route m mid) mid_set) other n.1)

start_beside : (c : Script) (s t : ℕ) (lists : SlotLists) (st : Node) → IsSet c st → not (t == s) ≡ true → Beside c s st (start lists t st)
start_beside c s t lists st is other =
    let list : List Fact = shard_list lists t in
    let asks : List Move = acquire (slot.Shard t) st.who list in
    let mid : Node = fold after st (map by_entities asks) in
    beside_if c s st (entities.is_hosted st.entities t) [] (in_turn after (λ st. map by_entities (acquire (slot.Shard t) st.who list)) (of_entities (entities.start_remembered t)) st)
    (λ h. beside_none c s st)
    (λ h. beside_both c s st (map by_entities asks) (map by_entities (entities.start_remembered t mid.entities))
    (entities_beside c s st asks is.entities (acquire_beside (setting c) s t st.who list (holder list) other))
    (entities_beside c s mid (entities.start_remembered t mid.entities) (set_on c st (map by_entities asks) is).entities (remembered_beside (setting c) s t mid.entities)))

-- the start leaves the region
start_region : (t : ℕ) (lists : SlotLists) (st : Node) → (fold after st (start lists t st)).region ≡ st.region
start_region t lists st = by (entities.is_hosted st.entities t)
  where
    asks : List Move
    asks = acquire (slot.Shard t) st.who (shard_list lists t)

    mid : Node
    mid = fold after st (map by_entities asks)

    by : (b : Bool) → (fold after st (if b then [] else map by_entities asks ++ of_entities (entities.start_remembered t) mid)).region ≡ st.region
    by true = refl
    by false = ap (λ (n : Node). n.region) (fold-append after st (map by_entities asks) (of_entities (entities.start_remembered t) mid))
        ∙ (ap (λ (n : Node). n.region) (entities_alone mid (entities.start_remembered t mid.entities)) ∙ ap (λ (n : Node). n.region) (entities_alone st asks))

again_beside : (c : Script) (s t : ℕ) (lists : SlotLists) (st : Node) → IsSet c st → IsKeptWell st → not (t == s) ≡ true → Beside c s st (start_again lists t st)
again_beside c s t lists st is well other =
    let mid : Node = fold after st (start lists t st) in
    let mid_set : IsSet c mid = set_on c st (start lists t st) is in
    let good : list_all (is_of (setting c) t) (kept_of mid.region.kept t) ≡ true =
    subst (λ r. list_all (is_of (setting c) t) (kept_of r.kept t) ≡ true) (sym (start_region t lists st)) (subst (λ set. list_all (is_of set t) (kept_of st.region.kept t) ≡ true) is.node (well.kept t)) in
    let frees : Beside c s mid (release t mid) = beside_if c s mid (region.is_routable mid.region t (is_running mid t)) (for_each after (λ m. in_turn after (λ st. by_region (released t) ∷ []) (route m)) (kept_of mid.region.kept t) mid) []
    (λ e. releases_beside c s t (kept_of mid.region.kept t) mid mid_set other good) (λ e. beside_none c s mid) in
    beside_if c s st (region.is_home st.region t && not (entities.is_hosted st.entities t)) (all_in_turn (start lists t ∷ release t ∷ []) st) []
    (λ e. beside_both c s st (start lists t st) (release t mid ++ []) (start_beside c s t lists st is other)
    (beside_both c s mid (release t mid) [] frees (beside_none c s (fold after mid (release t mid)))))
    (λ e. beside_none c s st)

-- What the queries know of the lists goes along.

pub known_set : (k : Known) (is : List Item) → (known_on k is).world.set ≡ k.world.set
known_set k [] = refl
known_set k (i ∷ is) = known_set (known_after k i) is

pub known_packet : (k : Known) (is : List Item) → (known_on k is).packet ≡ k.packet
known_packet k [] = refl
known_packet k (i ∷ is) = known_packet (known_after k i) is

pub lists_beside : (c : Script) (k : Known) (s : ℕ) (st : Node) (acts : List Act) → k.world.set ≡ setting c → Beside c s st acts → shard_list (known_on k (items_of acts)).world.lists s ≡ shard_list k.world.lists s
lists_beside c k s st acts set b =
    let h : Hand = record { lists = k.world.lists; live = []; version = 1 } in
    let n : Knows c (known_on k (items_of acts)) (fold (hand_after c) h (facts_in (items_of acts))) k.packet = knows_on c k h k.packet (items_of acts) (record { set_is = set; lists_are = refl; packet_is = refl }) in
    ap (λ l. shard_list l s) n.lists_are ∙ b.hand_is h

-- the leases tell what the queries know of each shard from a on that isn't hosted
abbrev pub AreFound : Known → SlotLists → ℕ → Node → Type 0
AreFound k lists a st = (t : ℕ) → a ≤ t → hosted st.entities t ≡ None → shard_list k.world.lists t ≡ shard_list lists t

-- so it is after what goes on beside a shard
pub found_on : (c : Script) (k : Known) (lists : SlotLists) (t : ℕ) (st : Node) (acts : List Act) → k.world.set ≡ setting c → Beside c t st acts → (hosted st.entities t ≡ None → shard_list k.world.lists t ≡ shard_list lists t)
    → hosted (fold after st acts).entities t ≡ None → shard_list (known_on k (items_of acts)).world.lists t ≡ shard_list lists t
found_on c k lists t st acts set b f none = lists_beside c k t st acts set b ∙ f (sym b.hosted_is ∙ none)

-- One after another.

pub shows_both : (k : Known) (st : Node) (xs ys : List Act) → ShowsWell k st xs → ShowsWell (known_on k (items_of xs)) (fold after st xs) ys → ShowsWell k st (xs ++ ys)
shows_both k st xs ys f g = record {
  shows = shown_both k st xs ys f.shows g.shows;
  tidy = subst IsTidy (sym (fold-append after st xs ys)) g.tidy;
  well = subst IsKeptWell (sym (fold-append after st xs ys)) g.well;
}

pub agains_shown : (c : Script) (k : Known) (lists : SlotLists) (a n : ℕ) (st : Node) → k.world.set ≡ setting c → IsSet c st → IsTidy st → IsKeptWell st → AreFound k lists a st → ShowsWell k st (for_each after (start_again lists) (numbers a n) st)
agains_shown c k lists a zero st set is tidy well found = record { shows = λ ps. refl; tidy = tidy; well = well }
agains_shown c k lists a (suc n) st set is tidy well found =
    let acts : List Act = start_again lists a st in
    let first : ShowsWell k st acts = again_shown k a lists st tidy well (found a (omega (arith))) in
    let mid : Node = fold after st acts in
    let next : Known = known_on k (items_of acts) in
    shows_both k st acts (for_each after (start_again lists) (numbers (a + 1) n) mid) first
    (agains_shown c next lists (a + 1) n mid (known_set k (items_of acts) ∙ set) (set_on c st acts is) first.tidy first.well
    (λ t above. found_on c k lists t st acts set (again_beside c t a lists st is well (not_same a t above)) (found t (omega (arith, above)))))

-- acts that are shown, and then others that lead anywhere
pub beside_then : (k : Known) (st later : Node) (xs ys : List Act) (ps : List (Option Producer)) → AreShownBeside k st xs → shown (known_on k (items_of xs)) (with_producers ps (fold after st xs)) (items_of ys) ≡ later → shown k (with_producers ps st) (items_of (xs ++ ys)) ≡ later
beside_then k st later xs ys ps f g =
    ap (shown k (with_producers ps st)) (flat_map-append (λ a. item_of (move_of a)) xs ys)
    ∙ (shown_append k (with_producers ps st) (items_of xs) (items_of ys)
    ∙ (ap (λ n. shown (known_on k (items_of xs)) n (items_of ys)) (f ps) ∙ g))

-- The region's part and the entities'.

-- moves that leave what is kept
abbrev is_unkept : Move → Bool
is_unkept (made (item.Fact (fact.Kept x m))) = false
is_unkept (released s) = false
is_unkept m = true

one_kept : (set : Setting) (kept : List (List Message)) (m : Move) → is_unkept m ≡ true → kept_step set kept m ≡ kept
one_kept set kept (made (item.Fact (fact.Kept x m))) h = absurd (true≢false (sym h))
one_kept set kept (released s) h = absurd (true≢false (sym h))
one_kept set kept m h = refl

kept_stays : (r : Region) (ms : List Move) → list_all is_unkept ms ≡ true → (fold region_after r ms).kept ≡ r.kept
kept_stays r [] h = refl
kept_stays r (m ∷ ms) h =
    let n : (is_unkept m ≡ true) × (list_all is_unkept ms ≡ true) = and_both (is_unkept m) (list_all is_unkept ms) h in
    kept_stays (region_after r m) ms n.1 ∙ one_kept r.set r.kept m n.0

pub region_well : (st : Node) (ms : List Move) → list_all is_unkept ms ≡ true → IsKeptWell st → IsKeptWell (fold after st (map by_region ms))
region_well st ms h well = subst IsKeptWell (sym (region_alone st ms)) (record {
  set_is = region_set st.region ms ∙ well.set_is;
  kept = λ t. subst (λ kept. list_all (is_of st.set t) (kept_of kept t) ≡ true) (sym (kept_stays st.region ms h)) (well.kept t);
})

pub tick_region_well : (k : Known) (st : Node) → IsTidy st → IsKeptWell st → ShowsWell k st (of_region region.tick_region st)
tick_region_well k st tidy well = record {
  shows = tick_region_shown k st tidy.started;
  tidy = tick_region_tidy st tidy;
  well = region_well st (region.tick_region st.region) (ticks_all is_unkept st.region (λ x. refl) (λ x. refl) (λ s x. refl)) well;
}

pub tick_entities_well : (k : Known) (st : Node) → is_passivate k.packet ≡ false → IsTidy st → IsKeptWell st → ShowsWell k st (of_entities entities.tick_entities st)
tick_entities_well k st is tidy well = record {
  shows = tick_entities_shown k st is;
  tidy = tick_entities_tidy st tidy;
  well = subst IsKeptWell (sym (entities_alone st (entities.tick_entities st.entities))) (record { set_is = well.set_is; kept = well.kept });
}

-- The coordinator's acts leave the rest of the node.

abbrev pub is_office : Act → Bool
is_office (by_coordinator m) = true
is_office a = false

pub record IsElse (st later : Node) : Type 0 where
  pub region : later.region ≡ st.region
  pub entities : later.entities ≡ st.entities
  pub producers : later.producers ≡ st.producers
  pub set : later.set ≡ st.set

pub office_else : (st : Node) (acts : List Act) → list_all is_office acts ≡ true → IsElse st (fold after st acts)
office_else st [] h = record { region = refl; entities = refl; producers = refl; set = refl }
office_else st (by_coordinator m ∷ acts) h = let e : IsElse (after st (by_coordinator m)) (fold after (after st (by_coordinator m)) acts) = office_else (after st (by_coordinator m)) acts h in
    record { region = e.region; entities = e.entities; producers = e.producers; set = e.set }
office_else st (by_region m ∷ acts) h = absurd (true≢false (sym h))
office_else st (by_entities m ∷ acts) h = absurd (true≢false (sym h))
office_else st (by_producer p m ∷ acts) h = absurd (true≢false (sym h))

offices : (ms : List Move) → list_all is_office (map by_coordinator ms) ≡ true
offices [] = refl
offices (m ∷ ms) = offices ms

pub office_rule : (p : Coordinator → List Move) (st : Node) → list_all is_office (of_coordinator p st) ≡ true
office_rule p st = all_some is_office (λ k. map by_coordinator (p k)) st.coordinator (λ k. offices (p k))

pub lead_office : (lists : SlotLists) (st : Node) → list_all is_office (lead lists st) ≡ true
lead_office lists st =
    let b : Bool = is_at st.who (region.oldest st.region) && is_none st.coordinator in
    let asks : List Act = if b then map by_coordinator (acquire slot.Coordinator st.who lists.coordinator) else [] in
    let mid : Node = fold after st asks in
    all_join is_office asks (of_coordinator (coordinator.terminate_lost mid.region.view) mid) (all_if is_office b (map by_coordinator (acquire slot.Coordinator st.who lists.coordinator)) [] (offices (acquire slot.Coordinator st.who lists.coordinator)) refl)
    (office_rule (coordinator.terminate_lost mid.region.view) mid)

pub office_tidy : (st : Node) (acts : List Act) → list_all is_office acts ≡ true → IsTidy st → IsTidy (fold after st acts)
office_tidy st acts h tidy =
    let e : IsElse st (fold after st acts) = office_else st acts h in
    record {
      routed = subst (λ r. IsRouted r (fold after st acts).entities) (sym e.region) (subst (IsRouted st.region) (sym e.entities) tidy.routed);
      started = subst AreCalm (sym e.entities) tidy.started;
    }

pub office_well : (st : Node) (acts : List Act) → list_all is_office acts ≡ true → IsKeptWell st → IsKeptWell (fold after st acts)
office_well st acts h well =
    let e : IsElse st (fold after st acts) = office_else st acts h in
    record {
      set_is = ap (λ (r : Region). r.set) e.region ∙ (well.set_is ∙ sym e.set);
      kept = λ t. subst (λ (r : Region). list_all (is_of (fold after st acts).set t) (kept_of r.kept t) ≡ true) (sym e.region) (subst (λ set. list_all (is_of set t) (kept_of st.region.kept t) ≡ true) (sym e.set) (well.kept t));
    }

-- what stands of a node by itself has all this
pub sound_set : (c : Script) (st : Node) → IsSoundNode c st → IsSet c st
sound_set c st is = let e : IsEntities c st.entities = is.entities in record { node = is.set_is; entities = e.set_is }

pub sound_well : (c : Script) (st : Node) → IsSoundNode c st → IsKeptWell st
sound_well c st is =
    let r : IsRegion c st.region = is.region in
    let same : st.region.set ≡ st.set = r.set_is ∙ sym is.set_is in
    record { set_is = same; kept = λ t. subst (λ set. list_all (is_of set t) (kept_of st.region.kept t) ≡ true) same (all_map (is_kept_well c st.region.set t) (is_of st.region.set t) (λ m h. (and_both (is_genuine c m) (is_of st.region.set t m) h).1) (kept_of st.region.kept t) (r.kept_are t)) }

-- What the coordinator tells changes no shard's list.

abbrev is_unsharded_fact : Fact → Bool
is_unsharded_fact (fact.Granted (slot.Shard s) n x) = false
is_unsharded_fact (fact.Freed (slot.Shard s) n why) = false
is_unsharded_fact (fact.Wrote e r) = false
is_unsharded_fact (fact.Snapshot e n) = false
is_unsharded_fact (fact.Remembered e) = false
is_unsharded_fact (fact.Forgotten e) = false
is_unsharded_fact (fact.Resharded s n k) = false
is_unsharded_fact f = true

abbrev pub is_unsharded : Move → Bool
is_unsharded (made (item.Fact f)) = is_unsharded_fact f
is_unsharded m = true

one_list : (set : Setting) (lists : SlotLists) (f : Fact) → is_unsharded_fact f ≡ true → (lists_step set lists f).shards ≡ lists.shards
one_list set lists (fact.Granted (slot.Shard s) n x) h = absurd (true≢false (sym h))
one_list set lists (fact.Granted slot.Coordinator n x) h = refl
one_list set lists (fact.Granted (slot.Queue p) n x) h = refl
one_list set lists (fact.Freed (slot.Shard s) n why) h = absurd (true≢false (sym h))
one_list set lists (fact.Freed slot.Coordinator n why) h = refl
one_list set lists (fact.Freed (slot.Queue p) n why) h = refl
one_list set lists (fact.Wrote e r) h = absurd (true≢false (sym h))
one_list set lists (fact.Snapshot e n) h = absurd (true≢false (sym h))
one_list set lists (fact.Remembered e) h = absurd (true≢false (sym h))
one_list set lists (fact.Forgotten e) h = absurd (true≢false (sym h))
one_list set lists (fact.Resharded s n k) h = absurd (true≢false (sym h))
one_list set lists f h = refl

same_lists : (k : Known) (ms : List Move) → list_all is_unsharded ms ≡ true → (known_on k (flat_map item_of ms)).world.lists.shards ≡ k.world.lists.shards
same_lists k [] h = refl
same_lists k (made (item.Fact f) ∷ ms) h =
    let n : (is_unsharded_fact f ≡ true) × (list_all is_unsharded ms ≡ true) = and_both (is_unsharded_fact f) (list_all is_unsharded ms) h in
    same_lists (known_after k (item.Fact f)) ms n.1 ∙ one_list k.world.set k.world.lists f n.0
same_lists k (made (item.Post p) ∷ ms) h = same_lists (known_after k (item.Post p)) ms h
same_lists k (m ∷ ms) h = same_lists k ms (and_both (is_unsharded m) (list_all is_unsharded ms) h).1

-- acts of the coordinator that tell of no shard
pub record IsAway (k : Known) (st : Node) (acts : List Act) : Type 0 where
  pub office : list_all is_office acts ≡ true
  pub lists : (known_on k (items_of acts)).world.lists.shards ≡ k.world.lists.shards

away_none : (k : Known) (st : Node) → IsAway k st []
away_none k st = record { office = refl; lists = refl }

away_moves : (k : Known) (st : Node) (ms : List Move) → list_all is_unsharded ms ≡ true → IsAway k st (map by_coordinator ms)
away_moves k st ms h = record { office = offices ms; lists = ap (λ is. (known_on k is).world.lists.shards) (coordinator_items ms) ∙ same_lists k ms h }

away_both : (k : Known) (st : Node) (xs ys : List Act) → IsAway k st xs → IsAway (known_on k (items_of xs)) (fold after st xs) ys → IsAway k st (xs ++ ys)
away_both k st xs ys f g = record {
  office = all_join is_office xs ys f.office g.office;
  lists = ap (λ is. (known_on k is).world.lists.shards) (flat_map-append (λ a. item_of (move_of a)) xs ys)
      ∙ (ap (λ (x : Known). x.world.lists.shards) (fold-append known_after k (items_of xs) (items_of ys)) ∙ (g.lists ∙ f.lists));
}

away_rule : (k : Known) (st : Node) (p : Coordinator → List Move) → ((x : Coordinator) → list_all is_unsharded (p x) ≡ true) → IsAway k st (of_coordinator p st)
away_rule k st p h = by st.coordinator
  where
    by : (o : Option Coordinator) → IsAway k st (where_some (λ x. map by_coordinator (p x)) o)
    by None = away_none k st
    by (Some x) = away_moves k st (p x) (h x)

handed_away : (k : Coordinator) (x : Moving) → list_all is_unsharded (coordinator.hand_off k x) ≡ true
handed_away k x = all_some is_unsharded (λ o. post k.who o (body.HandOff x.shard (coordinator.stamp k)) ∷ []) x.owner (λ o. refl)

terminates_away : (k : Coordinator) (rs : List Incarnation) → list_all is_unsharded (for_each coordinator_after coordinator.terminate rs k) ≡ true
terminates_away k [] = refl
terminates_away k (r ∷ rs) =
    let first : List Move = coordinator.terminate r k in
    all_join is_unsharded first (for_each coordinator_after coordinator.terminate rs (fold coordinator_after k first))
    (all_each is_unsharded (λ (x : Moving). if is_at r x.owner then [] else coordinator.hand_off_if_last r k x) k.moving
    (λ x. all_if is_unsharded (is_at r x.owner) [] (coordinator.hand_off_if_last r k x) refl (all_if is_unsharded (is_among r x.awaited && is_empty (without r x.awaited)) (coordinator.hand_off k x) [] (handed_away k x) refl)))
    (terminates_away (fold coordinator_after k first) rs)

pub lead_away : (k : Known) (lists : SlotLists) (st : Node) → IsAway k st (lead lists st)
lead_away k lists st =
    let b : Bool = is_at st.who (region.oldest st.region) && is_none st.coordinator in
    let asks : List Act = if b then map by_coordinator (acquire slot.Coordinator st.who lists.coordinator) else [] in
    let mid : Node = fold after st asks in
    away_both k st asks (of_coordinator (coordinator.terminate_lost mid.region.view) mid) (acquires b)
    (away_rule (known_on k (items_of asks)) mid (coordinator.terminate_lost mid.region.view) (λ x. terminates_away x (filter (λ r. not (is_among r mid.region.view)) (coordinator.registered x))))
  where
    asked : (o : Option Incarnation) → IsAway k st (map by_coordinator (acquire_by slot.Coordinator st.who lists.coordinator o))
    asked None = record { office = refl; lists = refl }
    asked (Some h) = record { office = refl; lists = refl }

    acquires : (b : Bool) → IsAway k st (if b then map by_coordinator (acquire slot.Coordinator st.who lists.coordinator) else [])
    acquires true = asked (holder lists.coordinator)
    acquires false = away_none k st

moved_all : (who : Incarnation) (b : Body) (rs : List Incarnation) → list_all is_unsharded (map (λ r. post who r b) rs) ≡ true
moved_all who b [] = refl
moved_all who b (r ∷ rs) = moved_all who b rs

begins_away : (k : Coordinator) (ss : List ℕ) → list_all is_unsharded (coordinator.begin ss k) ≡ true
begins_away k ss =
    let next : Stamp = coordinator.stamp_of k.entries (k.begun + 1) in
    all_each is_unsharded (λ s. told (fact.Moving s next) ∷ map (λ r. post k.who r (body.BeginHandOff s next)) (coordinator.registered k)) ss (λ s. moved_all k.who (body.BeginHandOff s next) (coordinator.registered k))

ticked_away : (k : Coordinator) → list_all is_unsharded (coordinator.tick_coordinator k) ≡ true
ticked_away k =
    let first : List Move = if is_empty k.moving then coordinator.begin_quitting k else flat_map (coordinator.hand_off_again k) k.moving in
    let mid : Coordinator = fold coordinator_after k first in
    let quitting : List ℕ = unwrap_or (find (λ ss. not (is_empty ss)) (map (coordinator.homes_at k) (filter (λ r. is_among r k.quitting) (coordinator.registered k)))) [] in
    all_join is_unsharded first (flat_map (coordinator.host_again mid) (shards mid.set))
    (all_if is_unsharded (is_empty k.moving) (coordinator.begin_quitting k) (flat_map (coordinator.hand_off_again k) k.moving)
    (all_if is_unsharded (is_empty (coordinator.staying k)) [] (coordinator.begin quitting k) refl (begins_away k quitting))
    (all_each is_unsharded (coordinator.hand_off_again k) k.moving (λ x. all_if is_unsharded (is_empty x.awaited) (coordinator.hand_off k x) (map (λ r. post k.who r (body.BeginHandOff x.shard (coordinator.stamp k))) x.awaited) (handed_away k x) (moved_all k.who (body.BeginHandOff x.shard (coordinator.stamp k)) x.awaited))))
    (all_each is_unsharded (coordinator.host_again mid) (shards mid.set) (λ s. all_some is_unsharded (λ h. if coordinator.is_moving mid s || slice_index_or mid.started s false then [] else post mid.who h (body.HostShard s (coordinator.stamp mid)) ∷ []) (coordinator.home_of mid s)
    (λ h. all_if is_unsharded (coordinator.is_moving mid s || slice_index_or mid.started s false) [] (post mid.who h (body.HostShard s (coordinator.stamp mid)) ∷ []) refl refl)))

pub tick_coordinator_away : (k : Known) (st : Node) → IsAway k st (of_coordinator coordinator.tick_coordinator st)
tick_coordinator_away k st = away_rule k st coordinator.tick_coordinator ticked_away

pub found_away : (k : Known) (lists : SlotLists) (a : ℕ) (st : Node) (acts : List Act) → IsAway k st acts → AreFound k lists a st → AreFound (known_on k (items_of acts)) lists a (fold after st acts)
found_away k lists a st acts is found t above none =
    let e : IsElse st (fold after st acts) = office_else st acts is.office in
    ap (λ l. slice_index_or l t []) is.lists ∙ found t above (ap (λ (x : Entities). hosted x t) (sym e.entities) ∙ none)

pub away_well : (k : Known) (st : Node) (acts : List Act) → IsAway k st acts → AreShownBeside k st acts → IsTidy st → IsKeptWell st → ShowsWell k st acts
away_well k st acts is shows tidy well = record { shows = shows; tidy = office_tidy st acts is.office tidy; well = office_well st acts is.office well }

-- All of the tick but the queues.

abbrev pub front_rules : SlotLists → Node → List Rule
front_rules lists st = lead lists ∷ of_coordinator coordinator.tick_coordinator ∷ of_region region.tick_region ∷ for_each after (start_again lists) (shards st.set) ∷ of_entities entities.tick_entities ∷ []

abbrev pub front : SlotLists → Node → List Act
front lists st = all_in_turn (front_rules lists st) st

pub front_shown : (c : Script) (k : Known) (lists : SlotLists) (st : Node) → k.world.set ≡ setting c → is_passivate k.packet ≡ false → IsSet c st → IsTidy st → IsKeptWell st → AreFound k lists 0 st → AreShownBeside k st (lead lists st)
    → (let led : Node = fold after st (lead lists st) in AreShownBeside (known_on k (items_of (lead lists st))) led (of_coordinator coordinator.tick_coordinator led)) → ShowsWell k st (front lists st)
front_shown c k lists st set packet is tidy well found leads coordinates =
    let first : List Act = lead lists st in
    let one : Known = known_on k (items_of first) in
    let led : Node = fold after st first in
    let led_away : IsAway k st first = lead_away k lists st in
    let led_well : ShowsWell k st first = away_well k st first led_away leads tidy well in
    let second : List Act = of_coordinator coordinator.tick_coordinator led in
    let two : Known = known_on one (items_of second) in
    let mid : Node = fold after led second in
    let mid_away : IsAway one led second = tick_coordinator_away one led in
    let mid_well : ShowsWell one led second = away_well one led second mid_away coordinates led_well.tidy led_well.well in
    let third : List Act = of_region region.tick_region mid in
    let three : Known = known_on two (items_of third) in
    let later : Node = fold after mid third in
    let ticks : ShowsWell two mid third = tick_region_well two mid mid_well.tidy mid_well.well in
    let agains : List Act = for_each after (start_again lists) (shards st.set) later in
    let four : Known = known_on three (items_of agains) in
    let last : Node = fold after later agains in
    let mid_found : AreFound two lists 0 mid = found_away one lists 0 led second mid_away (found_away k lists 0 st first led_away found) in
    let set_two : two.world.set ≡ setting c = known_set one (items_of second) ∙ (known_set k (items_of first) ∙ set) in
    let starts : ShowsWell three later agains = agains_shown c three lists 0 st.set.config.shards later (known_set two (items_of third) ∙ set_two) (set_on c mid third (set_on c led second (set_on c st first is))) ticks.tidy ticks.well
    (λ t above. found_on c two lists t mid third set_two (region_beside c t mid (region.tick_region mid.region) (region_is_free mid.region).ticked) (mid_found t above)) in
    let reminds : List Act = of_entities entities.tick_entities last in
    let ends : ShowsWell four last reminds = tick_entities_well four last (ap is_passivate (known_packet three (items_of agains) ∙ (known_packet two (items_of third) ∙ (known_packet one (items_of second) ∙ known_packet k (items_of first)))) ∙ packet) starts.tidy starts.well in
    shows_both k st first (second ++ (third ++ (agains ++ (reminds ++ [])))) led_well
    (shows_both one led second (third ++ (agains ++ (reminds ++ []))) mid_well
    (shows_both two mid third (agains ++ (reminds ++ [])) ticks
    (shows_both three later agains (reminds ++ []) starts
    (shows_both four last reminds [] ends (record { shows = λ ps. refl; tidy = ends.tidy; well = ends.well })))))
