-- What each input of a node tells and posts is carried by what is in hand.
use Rattle.std.proofs.Common.{◌≡◌, ℕ, zero, suc, ◌+◌, ◌-◌, ◌≤◌, List, [], ◌∷◌, ◌++◌, map, sym, ap, subst, ◌∙◌, refl, true, arith}
use Rattle.std.specs.Prelude.{Bool, ◌&&◌, ◌==◌, not, nat_le, fold, is_none, if◌then◌else◌}
use Rattle.yard_model.specs.declared.fact.Fact.{Fact}
use Rattle.yard_model.specs.declared.incarnation.Incarnation.{Incarnation}
use Rattle.yard_model.specs.declared.incarnation.Slot.TheVariants as slot
use Rattle.yard_model.specs.declared.incarnation.Stamp.{Stamp}
use Rattle.yard_model.specs.declared.input.Input.{Input}
use Rattle.yard_model.specs.declared.input.Input.TheVariants as input
use Rattle.yard_model.specs.declared.packet.Body.{Body}
use Rattle.yard_model.specs.declared.packet.Body.TheVariants as body
use Rattle.yard_model.specs.Coordinator as coordinator
use Rattle.yard_model.specs.Entities as entities
use Rattle.yard_model.specs.Entities.{hosted}
use Rattle.yard_model.specs.Genuine.{is_node, is_shard, is_producer, is_brought}
use Rattle.yard_model.specs.Move.{Move, post}
use Rattle.yard_model.specs.Node.{Node, Act, by_region, by_entities, by_coordinator, by_producer, after, of_region, of_entities, of_coordinator, of_producer, items_of, all_in_turn, acquire, start, release, lead, start_again, send_again, tick, view_packet, shard_home, host_shard, hand_off, packet, turn, produce}
use Rattle.yard_model.specs.Producer as producer
use Rattle.yard_model.specs.Region as region
use Rattle.yard_model.specs.Script.{Script, IsScript}
use Rattle.yard_model.specs.Setting.{shards, producers}
use Rattle.yard_model.specs.SlotLists.{SlotLists, shard_list, queue_list}
use Rattle.yard_model.specs.SlotReads.{holder}
use Rattle.yard_model.specs.Turns.{for_each}
use Rattle.yard_model.specs.Words.{at, is_at, numbers}
use Rattle.yard_model.specs.World.{all_sends}
use Rattle.yard_laws.specs.Entries.{NextFollows, EntitiesFollow}
use Rattle.plain_laws.proofs.Booleans.{and_both, is_below, not_same}
use Rattle.yard_laws.proofs.PartsLaws.{region_alone, entities_items}
use Rattle.actor_laws.specs.Owes.{Hand}
use Rattle.node_laws.specs.Carried.{is_carried_body, IsBrought, Carries, TurnCarries}
use Rattle.actor_laws.specs.CoordinatorStands as coordinators
use Rattle.actor_laws.specs.EntitiesStand.{EntityRules}
use Rattle.node_laws.specs.NodeFound.{NodeKeepsIf, FindsOffice, FindsShard, Finds, AreLawful}
use Rattle.node_laws.specs.NodeStands.{IsSoundNode, NodeInHand}
use Rattle.node_laws.specs.NodeTurns.{IsPromised, MayTake}
use Rattle.actor_laws.specs.RegionStands as regions
use Rattle.node_laws.proofs.CarriedEntities.{start_quiet, ask_to_passivate_quiet, arm_quiet, passivate_quiet, hand_off_quiet, stop_quiet, ticks_quiet, recovered_carried}
use Rattle.node_laws.proofs.CarriedLists.{are_carried, carries_on}
use Rattle.node_laws.proofs.CarriedQueues.{ack_carry, request_carry, resend_carry, send_carry, queues_carry}
use Rattle.node_laws.proofs.CarriedRoutes.{Carrying, Any, carry_both, carry_then, carry_if, carry_none, carry_end, Quiet, carry_quiet, quiet_both, quiet_if, region_quiet, entities_quiet, office_quiet, queue_quiet, coordinated_quiet, produced_quiet, acquire_quiet, register_quiet, begin_quiet, learn_quiet, leave_quiet, tick_region_quiet, view_quiet, route_carry, release_carry}
use Rattle.actor_laws.proofs.CoordinatorLaws.{coordinator_keeps}
use Rattle.node_laws.proofs.NodeBeside.{Beside, region_beside}
use Rattle.node_laws.proofs.NodeCoordinator.{calm_quiet, coordinate_calm, terminate_lost_calm, tick_calm, rebalance_calm, tick_node}
use Rattle.node_laws.proofs.NodeKeeps.{NodeKeeps}
use Rattle.node_laws.proofs.NodeLeases.{plain_if, if_if, region_hand, asks_node, lead_node}
use Rattle.node_laws.proofs.NodeMessages.{RouteLaws}
use Rattle.node_laws.proofs.NodePackets.{TurnLaws, weaker}
use Rattle.node_laws.proofs.NodeParts.{node_none}
use Rattle.node_laws.proofs.NodeProducers.{above_zero}
use Rattle.node_laws.proofs.NodeRoutes.{answer_node, tick_region_node, tick_entities_node}
use Rattle.node_laws.proofs.NodeStarts.{learn_node, starts_node}
use Rattle.node_laws.proofs.NodeTicks.{coordinated_beside, lead_beside, again_node, again_beside, FindsFrom, found_beside, agains_node}

-- Quiet rules of the node.

lead_quiet : (lists : SlotLists) (st : Node) → Quiet (lead lists st)
lead_quiet lists st =
    let b : Bool = is_at st.who (region.oldest st.region) && is_none st.coordinator in
    let takes : List Act = map by_coordinator (acquire slot.Coordinator st.who lists.coordinator) in
    let asks : List Act = if b then takes else [] in
    let next : Node = fold after st asks in
    quiet_both asks (of_coordinator (coordinator.terminate_lost next.region.view) next)
    (quiet_if b takes [] (office_quiet (acquire slot.Coordinator st.who lists.coordinator) (acquire_quiet slot.Coordinator st.who lists.coordinator (holder lists.coordinator))) refl)
    (coordinated_quiet (coordinator.terminate_lost next.region.view) next (λ k. calm_quiet next.region.view (coordinator.terminate_lost next.region.view k) (terminate_lost_calm next.region.view next.region.view k)))

view_packet_quiet : (lists : SlotLists) (n : ℕ) (xs : List Incarnation) (st : Node) → Quiet (view_packet lists n xs st)
view_packet_quiet lists n xs st =
    let takes : List Act = of_region (region.take_view n xs) st in
    let mid : Node = fold after st takes in
    let leads : List Act = lead lists mid in
    let later : Node = fold after mid leads in
    let asks : List Act = of_region region.register later in
    quiet_if (nat_le n st.region.version) [] (takes ++ (leads ++ (asks ++ []))) refl
    (quiet_both takes (leads ++ (asks ++ [])) (region_quiet (region.take_view n xs st.region) (view_quiet n xs st.region))
    (quiet_both leads (asks ++ []) (lead_quiet lists mid) (quiet_both asks [] (region_quiet (region.register later.region) (register_quiet later.region)) refl)))

start_acts_quiet : (lists : SlotLists) (s : ℕ) (st : Node) → Quiet (start lists s st)
start_acts_quiet lists s st =
    let list : List Fact = shard_list lists s in
    let asks : List Act = map by_entities (acquire (slot.Shard s) st.who list) in
    let mid : Node = fold after st asks in
    quiet_if (entities.is_hosted st.entities s) [] (asks ++ of_entities (entities.start_remembered s) mid) refl
    (quiet_both asks (of_entities (entities.start_remembered s) mid) (entities_quiet (acquire (slot.Shard s) st.who list) (acquire_quiet (slot.Shard s) st.who list (holder list)))
    (entities_quiet (entities.start_remembered s mid.entities) (start_quiet s mid.entities)))

hand_off_acts_quiet : (s : ℕ) (stamp : Stamp) (from : Incarnation) (st : Node) → Quiet (hand_off s stamp from st)
hand_off_acts_quiet s stamp from st =
    let hands : List Act = of_entities (entities.hand_off s stamp from) st in
    let answers : List Act = by_region (post st.who from (body.ShardStopped s stamp)) ∷ [] in
    quiet_if (region.takes_hand_off s stamp st.region) (if entities.is_hosted st.entities s then hands else answers) []
    (quiet_if (entities.is_hosted st.entities s) hands answers (entities_quiet (entities.hand_off s stamp from st.entities) (hand_off_quiet s stamp from st.entities)) refl) refl

-- ShardHome and HostShard.

-- the region learns of a home first
learned_carry : (c : Script) (v : List ℕ → ℕ → ℕ → Bool) (lists : SlotLists) (st : Node) (s : ℕ) (h : Incarnation) (stamp : Stamp) (rest : List Act) → regions.RegionKeeps → IsScript c → IsSoundNode c st → is_shard c s ≡ true → is_node c h ≡ true
    → (let mid : Node = fold after st (of_region (region.learn s h stamp) st) in Carrying (FindsShard lists s mid) c mid rest) → Carrying (FindsShard lists s st) c st (of_region (region.learn s h stamp) st ++ rest)
learned_carry c v lists st s h stamp rest law script is shard node k =
    let ms : List Move = region.learn s h stamp st.region in
    let mid : Node = fold after st (map by_region ms) in
    let r : regions.Rules c st.region = law c st.region script is.region in
    let kept : regions.KeepsRegion c st.region ms = r.learns s h stamp shard node in
    carry_both (FindsShard lists s st) (FindsShard lists s mid) c v st (map by_region ms) rest (plain_if (FindsShard lists s st) c v st (map by_region ms) (learn_node c v st s h stamp law script is shard node))
    (carry_quiet (FindsShard lists s st) c st (map by_region ms) (region_quiet ms (learn_quiet s h stamp st.region))) k
    (λ g i p. λ none. ap (λ (x : Hand). shard_list x.lists s) (region_hand c st ms g kept.free_are) ∙ p (sym (ap (λ (x : Node). hosted x.entities s) (region_alone st ms)) ∙ none))

released_last : (c : Script) (v : List ℕ → ℕ → ℕ → Bool) (s : ℕ) (st : Node) → RouteLaws → IsScript c → IsSoundNode c st → Carrying Any c st (all_in_turn (release s ∷ []) st)
released_last c v s st laws script is = carry_end Any c st (release s st) (release_carry c v s st laws script is)

home_carry : (c : Script) (v : List ℕ → ℕ → ℕ → Bool) (lists : SlotLists) (st : Node) (s : ℕ) (h : Incarnation) (stamp : Stamp) → TurnLaws → IsScript c → IsSoundNode c st → AreLawful c lists
    → is_shard c s ≡ true → is_node c h ≡ true → Carrying (FindsShard lists s st) c st (shard_home lists s h stamp st)
home_carry c v lists st s h stamp laws script is lawful shard node =
    let mid : Node = fold after st (of_region (region.learn s h stamp) st) in
    let first : NodeKeeps c v st (of_region (region.learn s h stamp) st) = learn_node c v st s h stamp laws.routes.region script is shard node in
    let begin : List Act = if region.is_home mid.region s then start lists s mid else [] in
    let begins : NodeKeepsIf (FindsShard lists s mid) c v mid begin = if_if (FindsShard lists s mid) c v mid (region.is_home mid.region s) (start lists s mid) []
    (λ e. starts_node c v lists s mid laws.starts first.stands (lawful.shards s shard) shard)
    (λ e. plain_if (FindsShard lists s mid) c v mid [] (node_none c v mid first.stands)) in
    let later : Node = fold after mid begin in
    carry_if (FindsShard lists s st) c st (region.takes_home s h stamp st.region)
    (all_in_turn (of_region (region.learn s h stamp) ∷ (λ st. if region.is_home st.region s then start lists s st else []) ∷ release s ∷ []) st) []
    (λ e. learned_carry c v lists st s h stamp (begin ++ all_in_turn (release s ∷ []) later) laws.routes.region script is shard node
    (carry_then (FindsShard lists s mid) c v mid begin (all_in_turn (release s ∷ []) later) begins
    (carry_quiet (FindsShard lists s mid) c mid begin (quiet_if (region.is_home mid.region s) (start lists s mid) [] (start_acts_quiet lists s mid) refl))
    (released_last c v s later laws.routes script begins.stands)))
    (λ e. carry_none (FindsShard lists s st) c st)

host_carry : (c : Script) (v : List ℕ → ℕ → ℕ → Bool) (lists : SlotLists) (st : Node) (s : ℕ) (stamp : Stamp) (from : Incarnation) → TurnLaws → IsScript c → IsSoundNode c st → AreLawful c lists
    → is_shard c s ≡ true → is_node c from ≡ true → Carrying (FindsShard lists s st) c st (host_shard lists s stamp from st)
host_carry c v lists st s stamp from laws script is lawful shard node =
    let mid : Node = fold after st (of_region (region.learn s st.who stamp) st) in
    let first : NodeKeeps c v st (of_region (region.learn s st.who stamp) st) = learn_node c v st s st.who stamp laws.routes.region script is shard is.who_is in
    let begin : List Act = start lists s mid in
    let begins : NodeKeepsIf (FindsShard lists s mid) c v mid begin = starts_node c v lists s mid laws.starts first.stands (lawful.shards s shard) shard in
    let later : Node = fold after mid begin in
    let answers : List Act = of_region (λ r. post r.who from (body.ShardStarted s) ∷ []) later in
    let told_it : NodeKeeps c v later answers = answered later begins.stands in
    let last : Node = fold after later answers in
    carry_if (FindsShard lists s st) c st (region.takes_host s stamp st.region)
    (all_in_turn (of_region (region.learn s st.who stamp) ∷ start lists s ∷ of_region (λ r. post r.who from (body.ShardStarted s) ∷ []) ∷ release s ∷ []) st) []
    (λ e. learned_carry c v lists st s st.who stamp (begin ++ (answers ++ all_in_turn (release s ∷ []) last)) laws.routes.region script is shard is.who_is
    (carry_then (FindsShard lists s mid) c v mid begin (answers ++ all_in_turn (release s ∷ []) last) begins (carry_quiet (FindsShard lists s mid) c mid begin (start_acts_quiet lists s mid))
    (carry_then Any c v later answers (all_in_turn (release s ∷ []) last) (plain_if Any c v later answers told_it) (carry_quiet Any c later answers refl) (released_last c v s last laws.routes script told_it.stands))))
    (λ e. carry_none (FindsShard lists s st) c st)
  where
    answered : (x : Node) → IsSoundNode c x → NodeKeeps c v x (by_region (post x.region.who from (body.ShardStarted s)) ∷ [])
    answered x k = subst (λ w. NodeKeeps c v x (by_region (post w from (body.ShardStarted s)) ∷ [])) (sym k.region_who) (answer_node c v x from (body.ShardStarted s) laws.routes.region script k node shard)

-- The shards, one after another.

again_carry : (c : Script) (v : List ℕ → ℕ → ℕ → Bool) (lists : SlotLists) (t : ℕ) (st : Node) → TurnLaws → IsScript c → IsSoundNode c st → AreLawful c lists → is_shard c t ≡ true → Carrying (FindsShard lists t st) c st (start_again lists t st)
again_carry c v lists t st laws script is lawful shard =
    let begins : NodeKeepsIf (FindsShard lists t st) c v st (start lists t st) = starts_node c v lists t st laws.starts is (lawful.shards t shard) shard in
    let mid : Node = fold after st (start lists t st) in
    carry_if (FindsShard lists t st) c st (region.is_home st.region t && not (entities.is_hosted st.entities t)) (all_in_turn (start lists t ∷ release t ∷ []) st) []
    (λ e. carry_then (FindsShard lists t st) c v st (start lists t st) (release t mid ++ []) begins (carry_quiet (FindsShard lists t st) c st (start lists t st) (start_acts_quiet lists t st)) (released_last c v t mid laws.routes script begins.stands))
    (λ e. carry_none (FindsShard lists t st) c st)

agains_carry : (c : Script) (v : List ℕ → ℕ → ℕ → Bool) (lists : SlotLists) (a n : ℕ) (st : Node) → TurnLaws → IsScript c → IsSoundNode c st → AreLawful c lists → a + n ≤ c.config.shards → Carrying (FindsFrom lists a st) c st (for_each after (start_again lists) (numbers a n) st)
agains_carry c v lists a zero st laws script is lawful below = carry_none (FindsFrom lists a st) c st
agains_carry c v lists a (suc n) st laws script is lawful below =
    let shard : is_shard c a ≡ true = is_below a c.config.shards (omega (arith, below)) in
    let acts : List Act = start_again lists a st in
    let first : NodeKeepsIf (FindsShard lists a st) c v st acts = again_node c v lists a st laws script is lawful shard in
    let mid : Node = fold after st acts in
    let carried : Carrying (FindsShard lists a st) c st acts = again_carry c v lists a st laws script is lawful shard in
    carry_both (FindsFrom lists a st) (FindsFrom lists (a + 1) mid) c v st acts (for_each after (start_again lists) (numbers (a + 1) n) mid)
    (weaker (FindsFrom lists a st) (FindsShard lists a st) c v st acts (λ h f. f a (omega (arith))) first)
    (λ h i f k. carried h i (f a (omega (arith))) k)
    (agains_carry c v lists (a + 1) n mid laws script first.stands lawful (omega (arith, below)))
    (λ h i f. λ s above. found_beside c lists s st acts h (again_beside c v s a lists st laws script is lawful shard (not_same a s above)) (f s (omega (arith, above))))

-- quiet acts that go on beside every shard, and then others
then_found : (c : Script) (v : List ℕ → ℕ → ℕ → Bool) (lists : SlotLists) (st : Node) (acts rest : List Act) → NodeKeeps c v st acts → Quiet acts → ((s : ℕ) → Beside c s st acts)
    → Carrying (FindsFrom lists 0 (fold after st acts)) c (fold after st acts) rest → Carrying (FindsFrom lists 0 st) c st (acts ++ rest)
then_found c v lists st acts rest first quiet b k = carry_both (FindsFrom lists 0 st) (FindsFrom lists 0 (fold after st acts)) c v st acts rest (plain_if (FindsFrom lists 0 st) c v st acts first) (carry_quiet (FindsFrom lists 0 st) c st acts quiet) k
    (λ h i f. λ s above. found_beside c lists s st acts h (b s) (f s above))

-- The tick.

ticks_carry : (c : Script) (v : List ℕ → ℕ → ℕ → Bool) (lists : SlotLists) (st : Node) → TurnLaws → IsScript c → IsSoundNode c st → AreLawful c lists → Carrying (Finds lists st) c st (tick lists st)
ticks_carry c v lists st laws script is lawful =
    let leads : List Act = lead lists st in
    let one : Node = fold after st leads in
    let led : NodeKeepsIf (FindsOffice lists st) c v st leads = lead_node c v lists st laws.begins is lawful.coordinator in
    let asked : NodeKeepsIf (FindsOffice lists st) c v st (if is_at st.who (region.oldest st.region) && is_none st.coordinator then map by_coordinator (acquire slot.Coordinator st.who lists.coordinator) else []) = asks_node c v lists st laws.begins is lawful.coordinator in
    let coordinates : List Act = of_coordinator coordinator.tick_coordinator one in
    let two : Node = fold after one coordinates in
    let coordinated : NodeKeeps c v one coordinates = tick_node c v one led.stands in
    let reminds : List Act = of_region region.tick_region two in
    let three : Node = fold after two reminds in
    let reminded : NodeKeeps c v two reminds = tick_region_node c v two laws.routes.region script coordinated.stands in
    let starts : List Act = for_each after (start_again lists) (shards st.set) three in
    let started : NodeKeepsIf (FindsFrom lists 0 three) c v three starts = subst (λ set. NodeKeepsIf (FindsFrom lists 0 three) c v three (for_each after (start_again lists) (shards set) three)) (sym is.set_is) (agains_node c v lists 0 c.config.shards three laws script reminded.stands lawful (omega (arith))) in
    let starts_carried : Carrying (FindsFrom lists 0 three) c three starts = subst (λ set. Carrying (FindsFrom lists 0 three) c three (for_each after (start_again lists) (shards set) three)) (sym is.set_is) (agains_carry c v lists 0 c.config.shards three laws script reminded.stands lawful (omega (arith))) in
    let four : Node = fold after three starts in
    let entity_acts : List Act = of_entities entities.tick_entities four in
    let five : Node = fold after four entity_acts in
    let entity_kept : NodeKeeps c v four entity_acts = tick_entities_node c v four (rules_at c four laws started.stands) started.stands in
    let repeats : List Act = for_each after (λ p. for_each after (send_again p) st.set.names) (producers st.set) five in
    let last : Carrying Any c four (entity_acts ++ (repeats ++ [])) = carry_then Any c v four entity_acts (repeats ++ []) (plain_if Any c v four entity_acts entity_kept)
    (carry_quiet Any c four entity_acts (entities_quiet (entities.tick_entities four.entities) (ticks_quiet four.entities)))
    (carry_end Any c five repeats (queues_carry c v st.set.names 1 st.set.config.producers five laws script entity_kept.stands (omega (arith)))) in
    let from_three : Carrying (FindsFrom lists 0 three) c three (starts ++ (entity_acts ++ (repeats ++ []))) = carry_then (FindsFrom lists 0 three) c v three starts (entity_acts ++ (repeats ++ [])) started starts_carried last in
    let from_two : Carrying (FindsFrom lists 0 two) c two (reminds ++ (starts ++ (entity_acts ++ (repeats ++ [])))) = then_found c v lists two reminds (starts ++ (entity_acts ++ (repeats ++ []))) reminded
    (region_quiet (region.tick_region two.region) (tick_region_quiet two.region)) (λ s. reminds_beside c s two laws script coordinated.stands) from_three in
    let from_one : Carrying (FindsFrom lists 0 one) c one (coordinates ++ (reminds ++ (starts ++ (entity_acts ++ (repeats ++ []))))) = then_found c v lists one coordinates (reminds ++ (starts ++ (entity_acts ++ (repeats ++ [])))) coordinated
    (coordinated_quiet coordinator.tick_coordinator one (λ k. calm_quiet [] (coordinator.tick_coordinator k) (tick_calm [] k)))
    (λ s. coordinated_beside c s one coordinator.tick_coordinator led.stands (λ k sound. let r : coordinators.KeepsRules c k = coordinator_keeps c k sound in r.ticks)) from_two in
    carry_both (Finds lists st) (FindsFrom lists 0 one) c v st leads (coordinates ++ (reminds ++ (starts ++ (entity_acts ++ (repeats ++ []))))) (weaker (Finds lists st) (FindsOffice lists st) c v st leads (λ h f. f.office) led)
    (carry_quiet (Finds lists st) c st leads (lead_quiet lists st)) from_one
    (λ h i f. λ s above. found_beside c lists s st leads h (lead_beside c s lists st asked.stands) (f.shards s))
  where
    rules_at : (c : Script) (x : Node) → TurnLaws → IsSoundNode c x → EntityRules c x.entities
    rules_at c x laws k = laws.routes.entities c x.entities k.entities

    reminds_beside : (c : Script) (s : ℕ) (x : Node) → TurnLaws → IsScript c → IsSoundNode c x → Beside c s x (of_region region.tick_region x)
    reminds_beside c s x laws script k =
        let r : regions.Rules c x.region = laws.routes.region c x.region script k.region in
        let kept : regions.KeepsRegion c x.region (region.tick_region x.region) = r.ticks in
        region_beside c s x (region.tick_region x.region) kept.free_are

-- Each packet.

-- the laws that a turn rests on, and those of what entities write
pub record CarryLaws : Type 0 where
  pub turns : TurnLaws
  pub writes : NextFollows
  pub follows : EntitiesFollow

recovered_carry : (c : Script) (st : Node) (e : List ℕ) → CarryLaws → IsSoundNode c st → is_brought c e ≡ true → Carrying Any c st (of_entities (entities.recovered e) st)
recovered_carry c st e laws is brought = λ h i p k. ap (are_carried c h) (entities_items (entities.recovered e st.entities))
    ∙ recovered_carried c st.entities e h laws.writes laws.follows is.entities brought i.entities (k.stashed e)

packet_carry : (c : Script) (v : List ℕ → ℕ → ℕ → Bool) (lists : SlotLists) (st : Node) (from : Incarnation) (b : Body) (h : Hand) → CarryLaws → IsScript c → IsSoundNode c st → AreLawful c lists → IsPromised c v st from b
    → NodeInHand c h st → Finds lists st h → Carries h.lists st → is_carried_body c h.lists b ≡ true → are_carried c h (items_of (packet lists from b st)) ≡ true
packet_carry c v lists st from (body.View n xs) h laws script is lawful may i finds k brought = carry_quiet Any c st (packet lists from (body.View n xs) st) (view_packet_quiet lists n xs st) h i tt k
packet_carry c v lists st from body.RegisterAck h laws script is lawful may i finds k brought = refl
packet_carry c v lists st from (body.ShardHome s home stamp) h laws script is lawful may i finds k brought =
    let g : (is_shard c s ≡ true) × (is_node c home ≡ true) = and_both (is_shard c s) (is_node c home) may.genuine in
    home_carry c v lists st s home stamp laws.turns script is lawful g.0 g.1 h i (finds.shards s) k
packet_carry c v lists st from (body.HostShard s stamp) h laws script is lawful may i finds k brought = host_carry c v lists st s stamp from laws.turns script is lawful may.genuine may.from_is h i (finds.shards s) k
packet_carry c v lists st from (body.BeginHandOff s stamp) h laws script is lawful may i finds k brought =
    carry_quiet Any c st (packet lists from (body.BeginHandOff s stamp) st) (region_quiet (region.begin_hand_off s stamp from st.region) (begin_quiet s stamp from st.region)) h i tt k
packet_carry c v lists st from (body.HandOff s stamp) h laws script is lawful may i finds k brought = carry_quiet Any c st (packet lists from (body.HandOff s stamp) st) (hand_off_acts_quiet s stamp from st) h i tt k
packet_carry c v lists st from (body.Recovered e) h laws script is lawful may i finds k brought = recovered_carry c st e laws is may.genuine h i tt k
packet_carry c v lists st from (body.Passivate e) h laws script is lawful may i finds k brought =
    carry_quiet Any c st (packet lists from (body.Passivate e) st) (entities_quiet (entities.passivate e st.entities) (passivate_quiet e st.entities)) h i tt k
packet_carry c v lists st from (body.StopEntity e) h laws script is lawful may i finds k brought =
    carry_quiet Any c st (packet lists from (body.StopEntity e) st) (entities_quiet (entities.stop e st.entities) (stop_quiet e st.entities)) h i tt k
packet_carry c v lists st from (body.Sequenced m) h laws script is lawful may i finds k brought = route_carry c st m is h i brought k
packet_carry c v lists st from (body.Request p e n u) h laws script is lawful may i finds k brought =
    request_carry c v p e n u st laws.turns script is (above_zero p c.config.producers (and_both (is_producer c p) (is_brought c e) (and_both (is_producer c p && is_brought c e) (u == n + c.config.window) may.genuine).0).0).0 may.promised h i tt k
packet_carry c v lists st from (body.Ack p e n) h laws script is lawful may i finds k brought =
    ack_carry c v p e n st laws.turns script is (above_zero p c.config.producers (and_both (is_producer c p) (is_brought c e) may.genuine).0).0 may.promised h i tt k
packet_carry c v lists st from (body.Resend p e f) h laws script is lawful may i finds k brought =
    resend_carry c v p e f st laws.turns script is (above_zero p c.config.producers (and_both (is_producer c p) (is_brought c e) may.genuine).0).0 h i tt k
packet_carry c v lists st from b h laws script is lawful may i finds k brought = carry_quiet Any c st (packet lists from b st)
    (coordinated_quiet (coordinator.coordinate from b st.region.view) st (λ x. calm_quiet st.region.view (coordinator.coordinate from b st.region.view x) (coordinate_calm st.region.view from b x))) h i tt k

-- Each input.

input_carry : CarryLaws → (c : Script) (v : List ℕ → ℕ → ℕ → Bool) (lists : SlotLists) (st : Node) (i : Input) (h : Hand) → IsScript c → IsSoundNode c st → AreLawful c lists → MayTake c v st i
    → NodeInHand c h st → Finds lists st h → Carries h.lists st → IsBrought c h.lists i → are_carried c h (items_of (turn (all_sends c) lists i st)) ≡ true
input_carry laws c v lists st (input.Packet p) h script is lawful may hand finds k brought = packet_carry c v lists st p.from p.body h laws script is lawful may hand finds k brought
input_carry laws c v lists st input.Tick h script is lawful may hand finds k brought = ticks_carry c v lists st laws.turns script is lawful h hand finds k
input_carry laws c v lists st input.Leave h script is lawful may hand finds k brought = carry_quiet Any c st (of_region region.leave st) (region_quiet (region.leave st.region) (leave_quiet st.region)) h hand tt k
input_carry laws c v lists st (input.Rebalance n) h script is lawful may hand finds k brought =
    carry_quiet Any c st (of_coordinator (coordinator.rebalance n) st) (coordinated_quiet (coordinator.rebalance n) st (λ x. calm_quiet [] (coordinator.rebalance n x) (rebalance_calm [] n x))) h hand tt k
input_carry laws c v lists st (input.Produce p) h script is lawful may hand finds k brought =
    let takes : List Move = acquire (slot.Queue p) st.who (queue_list lists p) in
    carry_quiet Any c st (produce lists p st) (quiet_if (is_none (at st.producers (p - 1))) (map (by_producer p) takes) [] (queue_quiet p takes (acquire_quiet (slot.Queue p) st.who (queue_list lists p) (holder (queue_list lists p)))) refl) h hand tt k
input_carry laws c v lists st (input.Rest p) h script is lawful may hand finds k brought = carry_quiet Any c st (of_producer p producer.give_back st) (produced_quiet p producer.give_back st (λ x. refl)) h hand tt k
input_carry laws c v lists st (input.Send p) h script is lawful may hand finds k brought = send_carry c v p st laws.turns script is may h hand tt k
input_carry laws c v lists st (input.Passivate e) h script is lawful may hand finds k brought =
    carry_quiet Any c st (of_entities (entities.ask_to_passivate e) st) (entities_quiet (entities.ask_to_passivate e st.entities) (ask_to_passivate_quiet e st.entities)) h hand tt k
input_carry laws c v lists st (input.FailWrite e x) h script is lawful may hand finds k brought =
    carry_quiet Any c st (of_entities (entities.arm e x) st) (entities_quiet (entities.arm e x st.entities) (arm_quiet e x st.entities)) h hand tt k

pub turn_carries : CarryLaws → TurnCarries
turn_carries laws c v lists st i h script is viewed lawful may hand finds k brought = carries_on c h st (turn (all_sends c) lists i st) (input_carry laws c v lists st i h script is lawful may hand finds k brought) k
