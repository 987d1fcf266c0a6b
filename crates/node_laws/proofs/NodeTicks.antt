-- The tick of a node.
use Rattle.std.proofs.Common.{◌≡◌, ℕ, zero, suc, ◌+◌, ◌-◌, ◌<◌, ◌≤◌, List, [], ◌∷◌, ◌++◌, map, sym, ap, subst, ◌∙◌, refl, true, arith}
use Rattle.std.specs.Prelude.{Bool, ◌&&◌, ◌==◌, not, fold, Option, Some, None, is_none, IfSome, if◌then◌else◌}
use Rattle.std.specs.List.{list_all}
use Rattle.yard_model.specs.declared.fact.Fact.{Fact}
use Rattle.yard_model.specs.declared.packet.Message.{Message}
use Rattle.yard_model.specs.declared.incarnation.Slot.TheVariants as slot
use Rattle.yard_model.specs.Coordinator as coordinator
use Rattle.yard_model.specs.Coordinator.{Coordinator}
use Rattle.yard_model.specs.Entities as entities
use Rattle.yard_model.specs.Genuine.{is_shard, is_genuine}
use Rattle.yard_model.specs.Move.{Move, released, pushed}
use Rattle.yard_model.specs.Node.{Node, Act, by_region, by_entities, by_coordinator, after, items_of, of_region, of_entities, of_producer, of_coordinator, all_in_turn, is_running, route, release, route_numbers, acquire, start, lead, start_again, send_again, tick}
use Rattle.yard_model.specs.Producer as producer
use Rattle.yard_model.specs.Producer.{Producer}
use Rattle.yard_model.specs.Region as region
use Rattle.yard_model.specs.Script.{Script, IsScript, setting}
use Rattle.yard_model.specs.Setting.{shard_of, shards, producers}
use Rattle.yard_model.specs.SlotLists.{SlotLists, shard_list}
use Rattle.yard_model.specs.SlotReads.{holder}
use Rattle.yard_model.specs.Turns.{in_turn, for_each, where_some}
use Rattle.yard_model.specs.Words.{is_at, at, numbers}
use Rattle.plain_laws.proofs.Booleans.{and_both, same_number, is_below, not_same}
use Rattle.yard_laws.proofs.PartsLaws.{entities_alone}
use Rattle.actor_laws.specs.Owes.{Hand, facts_in, hand_after}
use Rattle.actor_laws.specs.CoordinatorStands as coordinators
use Rattle.actor_laws.specs.EntitiesStand.{IsEntities, EntityRules}
use Rattle.actor_laws.specs.ProducerStands as producing
use Rattle.actor_laws.specs.RegionStands as regions
use Rattle.actor_laws.specs.RegionStands.{is_kept_well}
use Rattle.node_laws.specs.NodeStands.{IsCoordinatorAt, IsSoundNode}
use Rattle.node_laws.proofs.NodeKeeps.{NodeKeeps}
use Rattle.node_laws.specs.NodeFound.{NodeKeepsIf, FindsOffice, FindsShard, Finds, AreLawful}
use Rattle.actor_laws.proofs.CoordinatorLaws.{coordinator_keeps}
use Rattle.node_laws.proofs.NodeBeside.{Beside, beside_none, beside_both, beside_if, region_beside, coordinator_beside, office_beside, entities_beside, acquire_beside, remembered_beside, deliver_beside}
use Rattle.node_laws.proofs.NodeCoordinator.{tick_node}
use Rattle.node_laws.proofs.NodeLeases.{plain_if, both_if, then_plain, if_if, asks_node, lead_node}
use Rattle.node_laws.proofs.NodeMessages.{RouteLaws, routed_node, released_node, release_node, route_numbers_node}
use Rattle.node_laws.proofs.NodePackets.{TurnLaws, weaker, producer_node}
use Rattle.actor_laws.proofs.EntitiesMoves.{set_stays}
use Rattle.node_laws.proofs.NodeParts.{node_none, node_both}
use Rattle.node_laws.proofs.NodeProducers.{repeat_node}
use Rattle.node_laws.proofs.NodeRoutes.{tick_region_node, tick_entities_node}
use Rattle.node_laws.proofs.NodeStarts.{starts_node}

-- What goes on beside a shard.

-- a rule of the coordinator goes on beside every shard
pub coordinated_beside : (c : Script) (s : ℕ) (st : Node) (p : Coordinator → List Move) → IsSoundNode c st → ((k : Coordinator) → coordinators.IsGoodCoordinator c k → coordinators.KeepsCoordinator c k (p k)) → Beside c s st (of_coordinator p st)
coordinated_beside c s st p is keeps = by st.coordinator is.coordinator
  where
    by : (o : Option Coordinator) → IfSome o (IsCoordinatorAt c st.who) → Beside c s st (where_some (λ k. map by_coordinator (p k)) o)
    by None x = beside_none c s st
    by (Some k) x = let j : coordinators.KeepsCoordinator c k (p k) = keeps k x.sound in coordinator_beside c s st (p k) j.facts_are

pub lead_beside : (c : Script) (s : ℕ) (lists : SlotLists) (st : Node) → IsSoundNode c (let asks : List Act = (if is_at st.who (region.oldest st.region) && is_none st.coordinator then map by_coordinator (acquire slot.Coordinator st.who lists.coordinator) else []) in fold after st asks) → Beside c s st (lead lists st)
lead_beside c s lists st is =
    let b : Bool = is_at st.who (region.oldest st.region) && is_none st.coordinator in
    let asks : List Act = if b then map by_coordinator (acquire slot.Coordinator st.who lists.coordinator) else [] in
    let next : Node = fold after st asks in
    beside_both c s st asks (of_coordinator (coordinator.terminate_lost next.region.view) next)
    (beside_if c s st b (map by_coordinator (acquire slot.Coordinator st.who lists.coordinator)) [] (λ e. office_beside c s st lists.coordinator (holder lists.coordinator)) (λ e. beside_none c s st))
    (coordinated_beside c s next (coordinator.terminate_lost next.region.view) is (λ k sound. let r : coordinators.KeepsRules c k = coordinator_keeps c k sound in r.terminates next.region.view))

-- a message to an entity of another shard
route_beside : (c : Script) (s : ℕ) (m : Message) (st : Node) → regions.RegionKeeps → IsScript c → IsSoundNode c st → is_genuine c m ≡ true → not (shard_of (setting c) m.entity == s) ≡ true → Beside c s st (route m st)
route_beside c s m st law script is genuine other =
    let t : ℕ = shard_of st.set m.entity in
    let e : IsEntities c st.entities = is.entities in
    let r : regions.Rules c st.region = law c st.region script is.region in
    let k : regions.KeepsRegion c st.region (region.route_away m st.region) = r.routes m genuine in
    beside_if c s st (region.is_home st.region t && is_running st t) (of_entities (entities.deliver m) st) (of_region (region.route_away m) st)
    (λ here. entities_beside c s st (entities.deliver m st.entities) e.set_is (deliver_beside (setting c) s m st.entities other))
    (λ away. region_beside c s st (region.route_away m st.region) k.free_are)

released_beside : (c : Script) (v : List ℕ → ℕ → ℕ → Bool) (s t : ℕ) (ms : List Message) (st : Node) → RouteLaws → IsScript c → IsSoundNode c st → not (t == s) ≡ true → list_all (is_kept_well c (setting c) t) ms ≡ true
    → Beside c s st (for_each after (λ m. in_turn after (λ st. by_region (released t) ∷ []) (route m)) ms st)
released_beside c v s t [] st laws script is other good = beside_none c s st
released_beside c v s t (m ∷ ms) st laws script is other good =
    let n : (is_kept_well c (setting c) t m ≡ true) × (list_all (is_kept_well c (setting c) t) ms ≡ true) = and_both (is_kept_well c (setting c) t m) (list_all (is_kept_well c (setting c) t) ms) good in
    let its : (is_genuine c m ≡ true) × ((shard_of (setting c) m.entity == t) ≡ true) = and_both (is_genuine c m) (shard_of (setting c) m.entity == t) n.0 in
    let first : NodeKeeps c v st (by_region (released t) ∷ []) = released_node c v t st laws script is in
    let mid : Node = after st (by_region (released t)) in
    let routed : NodeKeeps c v mid (route m mid) = routed_node c v mid m laws script first.stands its.0 in
    let later : Node = fold after mid (route m mid) in
    let one : Beside c s st (by_region (released t) ∷ route m mid) = beside_both c s st (by_region (released t) ∷ []) (route m mid) (region_beside c s st (released t ∷ []) refl)
    (route_beside c s m mid laws.region script first.stands its.0 (ap (λ x. not (x == s)) (same_number (shard_of (setting c) m.entity) t its.1) ∙ other)) in
    beside_both c s st (by_region (released t) ∷ route m mid) (for_each after (λ m. in_turn after (λ st. by_region (released t) ∷ []) (route m)) ms later) one
    (released_beside c v s t ms later laws script routed.stands other n.1)

release_beside : (c : Script) (v : List ℕ → ℕ → ℕ → Bool) (s t : ℕ) (st : Node) → RouteLaws → IsScript c → IsSoundNode c st → not (t == s) ≡ true → Beside c s st (release t st)
release_beside c v s t st laws script is other =
    let r : regions.IsRegion c st.region = is.region in
    beside_if c s st (region.is_routable st.region t (is_running st t)) (for_each after (λ m. in_turn after (λ st. by_region (released t) ∷ []) (route m)) (region.kept_of st.region.kept t) st) []
    (λ e. released_beside c v s t (region.kept_of st.region.kept t) st laws script is other (subst (λ set. list_all (is_kept_well c set t) (region.kept_of st.region.kept t) ≡ true) r.set_is (r.kept_are t)))
    (λ e. beside_none c s st)

start_beside : (c : Script) (s t : ℕ) (lists : SlotLists) (st : Node) → IsSoundNode c st → not (t == s) ≡ true → Beside c s st (start lists t st)
start_beside c s t lists st is other =
    let list : List Fact = shard_list lists t in
    let asks : List Move = acquire (slot.Shard t) st.who list in
    let mid : Node = fold after st (map by_entities asks) in
    let e : IsEntities c st.entities = is.entities in
    beside_if c s st (entities.is_hosted st.entities t) [] (in_turn after (λ st. map by_entities (acquire (slot.Shard t) st.who list)) (of_entities (entities.start_remembered t)) st)
    (λ h. beside_none c s st)
    (λ h. beside_both c s st (map by_entities asks) (map by_entities (entities.start_remembered t mid.entities))
    (entities_beside c s st asks e.set_is (acquire_beside (setting c) s t st.who list (holder list) other))
    (entities_beside c s mid (entities.start_remembered t mid.entities) (ap (λ (x : Node). x.entities.set) (entities_alone st asks) ∙ (set_stays st.entities asks ∙ e.set_is)) (remembered_beside (setting c) s t mid.entities)))

-- The shards, one after another.

-- Start again of one shard
pub again_node : (c : Script) (v : List ℕ → ℕ → ℕ → Bool) (lists : SlotLists) (t : ℕ) (st : Node) → TurnLaws → IsScript c → IsSoundNode c st → AreLawful c lists → is_shard c t ≡ true → NodeKeepsIf (FindsShard lists t st) c v st (start_again lists t st)
again_node c v lists t st laws script is lawful shard =
    let begins : NodeKeepsIf (FindsShard lists t st) c v st (start lists t st) = starts_node c v lists t st laws.starts is (lawful.shards t shard) shard in
    let mid : Node = fold after st (start lists t st) in
    let frees : NodeKeeps c v mid (release t mid) = release_node c v t mid laws.routes script begins.stands in
    if_if (FindsShard lists t st) c v st (region.is_home st.region t && not (entities.is_hosted st.entities t)) (all_in_turn (start lists t ∷ release t ∷ []) st) []
    (λ e. then_plain (FindsShard lists t st) c v st (start lists t st) (release t mid ++ []) begins (node_both c v mid (release t mid) [] frees (node_none c v (fold after mid (release t mid)) frees.stands)))
    (λ e. plain_if (FindsShard lists t st) c v st [] (node_none c v st is))

pub again_beside : (c : Script) (v : List ℕ → ℕ → ℕ → Bool) (s t : ℕ) (lists : SlotLists) (st : Node) → TurnLaws → IsScript c → IsSoundNode c st → AreLawful c lists → is_shard c t ≡ true → not (t == s) ≡ true → Beside c s st (start_again lists t st)
again_beside c v s t lists st laws script is lawful shard other =
    let begins : NodeKeepsIf (FindsShard lists t st) c v st (start lists t st) = starts_node c v lists t st laws.starts is (lawful.shards t shard) shard in
    let mid : Node = fold after st (start lists t st) in
    beside_if c s st (region.is_home st.region t && not (entities.is_hosted st.entities t)) (all_in_turn (start lists t ∷ release t ∷ []) st) []
    (λ e. beside_both c s st (start lists t st) (release t mid ++ []) (start_beside c s t lists st is other)
    (beside_both c s mid (release t mid) [] (release_beside c v s t mid laws.routes script begins.stands other) (beside_none c s (fold after mid (release t mid)))))
    (λ e. beside_none c s st)

-- what is in hand of the shards from a on is what was found
abbrev pub FindsFrom : SlotLists → ℕ → Node → Hand → Type 0
FindsFrom lists a st h = (s : ℕ) → a ≤ s → FindsShard lists s st h

-- so it is after what goes on beside them
pub found_beside : (c : Script) (lists : SlotLists) (s : ℕ) (st : Node) (acts : List Act) (h : Hand) → Beside c s st acts → FindsShard lists s st h → FindsShard lists s (fold after st acts) (fold (hand_after c) h (facts_in (items_of acts)))
found_beside c lists s st acts h b f = λ none. b.hand_is h ∙ f (sym b.hosted_is ∙ none)

pub agains_node : (c : Script) (v : List ℕ → ℕ → ℕ → Bool) (lists : SlotLists) (a n : ℕ) (st : Node) → TurnLaws → IsScript c → IsSoundNode c st → AreLawful c lists → a + n ≤ c.config.shards → NodeKeepsIf (FindsFrom lists a st) c v st (for_each after (start_again lists) (numbers a n) st)
agains_node c v lists a zero st laws script is lawful below = plain_if (FindsFrom lists a st) c v st [] (node_none c v st is)
agains_node c v lists a (suc n) st laws script is lawful below =
    let shard : is_shard c a ≡ true = is_below a c.config.shards (omega (arith, below)) in
    let acts : List Act = start_again lists a st in
    let first : NodeKeepsIf (FindsShard lists a st) c v st acts = again_node c v lists a st laws script is lawful shard in
    let mid : Node = fold after st acts in
    let rest : NodeKeepsIf (FindsFrom lists (a + 1) mid) c v mid (for_each after (start_again lists) (numbers (a + 1) n) mid) = agains_node c v lists (a + 1) n mid laws script first.stands lawful (omega (arith, below)) in
    both_if (FindsFrom lists a st) (FindsFrom lists (a + 1) mid) c v st acts (for_each after (start_again lists) (numbers (a + 1) n) mid)
    (weaker (FindsFrom lists a st) (FindsShard lists a st) c v st acts (λ h f. f a (omega (arith))) first) rest
    (λ h i f. λ s above. found_beside c lists s st acts h (again_beside c v s a lists st laws script is lawful shard (not_same a s above)) (f s (omega (arith, above))))

-- acts that go on beside every shard, and then others
then_found : (c : Script) (v : List ℕ → ℕ → ℕ → Bool) (lists : SlotLists) (st : Node) (acts rest : List Act) → NodeKeeps c v st acts → ((s : ℕ) → Beside c s st acts)
    → NodeKeepsIf (FindsFrom lists 0 (fold after st acts)) c v (fold after st acts) rest → NodeKeepsIf (FindsFrom lists 0 st) c v st (acts ++ rest)
then_found c v lists st acts rest first b k = both_if (FindsFrom lists 0 st) (FindsFrom lists 0 (fold after st acts)) c v st acts rest (plain_if (FindsFrom lists 0 st) c v st acts first) k (λ h i f. λ s above. found_beside c lists s st acts h (b s) (f s above))

-- The queues, one pair after another.

pub sends_again : (c : Script) (v : List ℕ → ℕ → ℕ → Bool) (p : ℕ) (e : List ℕ) (st : Node) → TurnLaws → IsScript c → IsSoundNode c st → 0 < p → NodeKeeps c v st (send_again p e st)
sends_again c v p e st laws script is above =
    let marks : List Act = of_producer p (λ k. map (pushed e) (producer.to_repeat e k)) st in
    let first : NodeKeeps c v st marks = producer_node c v st p (λ k. map (pushed e) (producer.to_repeat e k)) is (λ k g. repeat_node c v st p k e is above g) in
    let mid : Node = fold after st marks in
    let routes : List Act = route_numbers p e (producer.to_repeat e) mid in
    let second : NodeKeeps c v mid routes = route_numbers_node c v p e (producer.to_repeat e) mid laws.routes script first.stands (λ k g. repeated c mid p e k laws first.stands above g) in
    node_both c v st marks (routes ++ []) first (node_both c v mid routes [] second (node_none c v (fold after mid routes) second.stands))
  where
    repeated : (c : Script) (st : Node) (p : ℕ) (e : List ℕ) (k : Producer) → TurnLaws → IsSoundNode c st → 0 < p → at st.producers (p - 1) ≡ Some k → list_all (producing.is_sent_well c e k) (producer.to_repeat e k) ≡ true
    repeated c st p e k laws is above g = (laws.sends c k (is.producers p k above g).stands).repeated_well e

pub names_again : (c : Script) (v : List ℕ → ℕ → ℕ → Bool) (p : ℕ) (es : List (List ℕ)) (st : Node) → TurnLaws → IsScript c → IsSoundNode c st → 0 < p → NodeKeeps c v st (for_each after (send_again p) es st)
names_again c v p [] st laws script is above = node_none c v st is
names_again c v p (e ∷ es) st laws script is above =
    let first : NodeKeeps c v st (send_again p e st) = sends_again c v p e st laws script is above in
    let mid : Node = fold after st (send_again p e st) in
    node_both c v st (send_again p e st) (for_each after (send_again p) es mid) first (names_again c v p es mid laws script first.stands above)

queues_again : (c : Script) (v : List ℕ → ℕ → ℕ → Bool) (es : List (List ℕ)) (a n : ℕ) (st : Node) → TurnLaws → IsScript c → IsSoundNode c st → 0 < a → NodeKeeps c v st (for_each after (λ p. for_each after (send_again p) es) (numbers a n) st)
queues_again c v es a zero st laws script is above = node_none c v st is
queues_again c v es a (suc n) st laws script is above =
    let acts : List Act = for_each after (send_again a) es st in
    let first : NodeKeeps c v st acts = names_again c v a es st laws script is above in
    let mid : Node = fold after st acts in
    node_both c v st acts (for_each after (λ p. for_each after (send_again p) es) (numbers (a + 1) n) mid) first (queues_again c v es (a + 1) n mid laws script first.stands (omega (arith, above)))

-- The tick.

pub ticks_node : (c : Script) (v : List ℕ → ℕ → ℕ → Bool) (lists : SlotLists) (st : Node) → TurnLaws → IsScript c → IsSoundNode c st → AreLawful c lists → NodeKeepsIf (Finds lists st) c v st (tick lists st)
ticks_node c v lists st laws script is lawful =
    let leads : List Act = lead lists st in
    let one : Node = fold after st leads in
    let led : NodeKeepsIf (FindsOffice lists st) c v st leads = lead_node c v lists st laws.begins is lawful.coordinator in
    let asked : NodeKeepsIf (FindsOffice lists st) c v st (if is_at st.who (region.oldest st.region) && is_none st.coordinator then map by_coordinator (acquire slot.Coordinator st.who lists.coordinator) else []) = asks_node c v lists st laws.begins is lawful.coordinator in
    let coordinates : List Act = of_coordinator coordinator.tick_coordinator one in
    let two : Node = fold after one coordinates in
    let coordinated : NodeKeeps c v one coordinates = tick_node c v one led.stands in
    let reminds : List Act = of_region region.tick_region two in
    let three : Node = fold after two reminds in
    let reminded : NodeKeeps c v two reminds = tick_region_node c v two laws.routes.region script coordinated.stands in
    let starts : List Act = for_each after (start_again lists) (shards st.set) three in
    let started : NodeKeepsIf (FindsFrom lists 0 three) c v three starts = subst (λ set. NodeKeepsIf (FindsFrom lists 0 three) c v three (for_each after (start_again lists) (shards set) three)) (sym is.set_is) (agains_node c v lists 0 c.config.shards three laws script reminded.stands lawful (omega (arith))) in
    let four : Node = fold after three starts in
    let entity_acts : List Act = of_entities entities.tick_entities four in
    let five : Node = fold after four entity_acts in
    let entity_kept : NodeKeeps c v four entity_acts = tick_entities_node c v four (rules_at c four laws started.stands) started.stands in
    let repeats : List Act = for_each after (λ p. for_each after (send_again p) st.set.names) (producers st.set) five in
    let repeated : NodeKeeps c v five repeats = queues_again c v st.set.names 1 st.set.config.producers five laws script entity_kept.stands (omega (arith)) in
    let last : NodeKeeps c v four (entity_acts ++ (repeats ++ [])) = node_both c v four entity_acts (repeats ++ []) entity_kept (node_both c v five repeats [] repeated (node_none c v (fold after five repeats) repeated.stands)) in
    let from_three : NodeKeepsIf (FindsFrom lists 0 three) c v three (starts ++ (entity_acts ++ (repeats ++ []))) = then_plain (FindsFrom lists 0 three) c v three starts (entity_acts ++ (repeats ++ [])) started last in
    let from_two : NodeKeepsIf (FindsFrom lists 0 two) c v two (reminds ++ (starts ++ (entity_acts ++ (repeats ++ [])))) = then_found c v lists two reminds (starts ++ (entity_acts ++ (repeats ++ []))) reminded (λ s. reminds_beside c s two laws script coordinated.stands) from_three in
    let from_one : NodeKeepsIf (FindsFrom lists 0 one) c v one (coordinates ++ (reminds ++ (starts ++ (entity_acts ++ (repeats ++ []))))) = then_found c v lists one coordinates (reminds ++ (starts ++ (entity_acts ++ (repeats ++ [])))) coordinated
    (λ s. coordinated_beside c s one coordinator.tick_coordinator led.stands (λ k sound. let r : coordinators.KeepsRules c k = coordinator_keeps c k sound in r.ticks)) from_two in
    both_if (Finds lists st) (FindsFrom lists 0 one) c v st leads (coordinates ++ (reminds ++ (starts ++ (entity_acts ++ (repeats ++ []))))) (weaker (Finds lists st) (FindsOffice lists st) c v st leads (λ h f. f.office) led) from_one
    (λ h i f. λ s above. found_beside c lists s st leads h (lead_beside c s lists st asked.stands) (f.shards s))
  where
    rules_at : (c : Script) (x : Node) → TurnLaws → IsSoundNode c x → EntityRules c x.entities
    rules_at c x laws k = laws.routes.entities c x.entities k.entities

    reminds_beside : (c : Script) (s : ℕ) (x : Node) → TurnLaws → IsScript c → IsSoundNode c x → Beside c s x (of_region region.tick_region x)
    reminds_beside c s x laws script k =
        let r : regions.Rules c x.region = laws.routes.region c x.region script k.region in
        let kept : regions.KeepsRegion c x.region (region.tick_region x.region) = r.ticks in
        region_beside c s x (region.tick_region x.region) kept.free_are
