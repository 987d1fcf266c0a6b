-- The rules of a node that ask for leases: View, ShardHome and HostShard.
use Rattle.std.proofs.Common.{◌≡◌, ℕ, ◌+◌, List, [], ◌∷◌, ◌++◌, map, sym, ap, subst, ◌∙◌, refl, true, false, true≢false}
use Rattle.std.specs.Prelude.{Bool, ◌&&◌, ◌==◌, not, nat_le, fold, Option, Some, None, is_none, is_some, IfSome, IsTrue, if◌then◌else◌}
use Rattle.std.specs.Option.{option_map}
use Rattle.std.specs.List.{list_all, flat_map}
use Rattle.std.proofs.lemmas.List.Sums.{fold-append}
use Rattle.yard_model.specs.declared.fact.Fact.{Fact}
use Rattle.yard_model.specs.declared.fact.Fact.TheVariants as fact
use Rattle.yard_model.specs.declared.incarnation.Incarnation.{Incarnation}
use Rattle.yard_model.specs.declared.incarnation.Slot.TheVariants as slot
use Rattle.yard_model.specs.Coordinator as coordinator
use Rattle.yard_model.specs.Coordinator.{Coordinator, coordinator_after, new_coordinator}
use Rattle.yard_model.specs.Genuine.{is_node}
use Rattle.yard_model.specs.Lawful.{own, is_held, may_follow}
use Rattle.yard_model.specs.Members.{are_of_different_nodes}
use Rattle.yard_model.specs.Move.{Move, viewed, told}
use Rattle.yard_model.specs.Setting.{shards}
use Rattle.yard_model.specs.Node.{Node, Act, by_region, by_coordinator, after, items_of, of_region, of_coordinator, all_in_turn, acquire_by, acquire, coordinator_part, lead, view_packet}
use Rattle.yard_model.specs.Region as region
use Rattle.yard_model.specs.Region.{Region, region_after}
use Rattle.yard_model.specs.Script.{Script, IsScript}
use Rattle.yard_model.specs.SlotLists.{SlotLists}
use Rattle.yard_model.specs.SlotReads.{holder, holder_step, epoch, regions}
use Rattle.yard_model.specs.Turns.{where_some}
use Rattle.yard_model.specs.Words.{is_at, is_same, is_among}
use Rattle.yard_model.proofs.FollowLaws.{own_more}
use Rattle.plain_laws.proofs.Booleans.{and_both, both, number_itself}
use Rattle.yard_laws.proofs.PartsLaws.{region_alone, coordinator_alone, region_items}
use Rattle.actor_laws.specs.Owes.{Hand, facts_in, hand_after, guard_in_hand, guarded_in_hand, is_own_post}
use Rattle.actor_laws.proofs.Rules.{is_viewless, region_view, lost_all, register_viewless}
use Rattle.plain_laws.proofs.Lists.{all_join}
use Rattle.actor_laws.specs.Held.{held_in_hand}
use Rattle.actor_laws.specs.CoordinatorStands.{IsGoodCoordinator, CoordinatorBegins}
use Rattle.actor_laws.specs.RegionStands as regions_law
use Rattle.actor_laws.specs.Moves.{facts_of}
use Rattle.actor_laws.specs.EntitiesStand.{InHand}
use Rattle.yard_laws.specs.Free.{is_free_move}
use Rattle.node_laws.specs.NodeStands.{IsSoundNode, IsViewed, NodeInHand}
use Rattle.node_laws.proofs.NodeKeeps.{NodeKeeps}
use Rattle.node_laws.specs.NodeFound.{NodeKeepsIf, FindsOffice}
use Rattle.node_laws.proofs.NodeCoordinator.{terminate_node, calm_takes_none, terminate_lost_calm, coordinator_stays, terminated_viewed}
use Rattle.actor_laws.proofs.EntitiesMoves.{guarded_both, held_both}
use Rattle.plain_laws.proofs.Members.{itself_is}
use Rattle.node_laws.proofs.NodeParts.{own_both, node_none, node_both, free_hands, free_facts, region_node, facts_both, items_both, who_stays}
use Rattle.node_laws.proofs.NodeRoutes.{register_node}

-- In turn.

pub plain_if : (P : Hand → Type 0) (c : Script) (v : List ℕ → ℕ → ℕ → Bool) (st : Node) (acts : List Act) → NodeKeeps c v st acts → NodeKeepsIf P c v st acts
plain_if P c v st acts k = record { stands = k.stands; posts_are = k.posts_are; own_are = k.own_are; held_are = λ h i p. k.held_are h i; guarded_are = λ h i p. k.guarded_are h i; goes_along = λ h i p. k.goes_along h i }

pub both_if : (P Q : Hand → Type 0) (c : Script) (v : List ℕ → ℕ → ℕ → Bool) (st : Node) (xs ys : List Act) → NodeKeepsIf P c v st xs → NodeKeepsIf Q c v (fold after st xs) ys
    → ((h : Hand) → NodeInHand c h st → P h → Q (fold (hand_after c) h (facts_in (items_of xs)))) → NodeKeepsIf P c v st (xs ++ ys)
both_if P Q c v st xs ys f g on =
    let mid : Node = fold after st xs in
    record {
      stands = subst (IsSoundNode c) (sym (fold-append after st xs ys)) g.stands;
      posts_are = ap (list_all (is_own_post c st.who)) (items_both xs ys) ∙ all_join (is_own_post c st.who) (items_of xs) (items_of ys) f.posts_are (subst (λ w. list_all (is_own_post c w) (items_of ys) ≡ true) (who_stays st xs) g.posts_are);
      own_are = own_both c st xs ys f.own_are g.own_are;
      held_are = λ h i p. ap (held_in_hand c st.who h) (facts_both xs ys)
          ∙ held_both c st.who h (facts_in (items_of xs)) (facts_in (items_of ys)) (f.held_are h i p)
          (subst (λ w. held_in_hand c w (fold (hand_after c) h (facts_in (items_of xs))) (facts_in (items_of ys)) ≡ true) (who_stays st xs) (g.held_are (fold (hand_after c) h (facts_in (items_of xs))) (f.goes_along h i p) (on h i p)));
      guarded_are = λ h i p. ap (guarded_in_hand c v st.who h) (facts_both xs ys)
          ∙ guarded_both c v st.who h (facts_in (items_of xs)) (facts_in (items_of ys)) (f.guarded_are h i p)
          (subst (λ w. guarded_in_hand c v w (fold (hand_after c) h (facts_in (items_of xs))) (facts_in (items_of ys)) ≡ true) (who_stays st xs) (g.guarded_are (fold (hand_after c) h (facts_in (items_of xs))) (f.goes_along h i p) (on h i p)));
      goes_along = λ h i p. subst (λ x. NodeInHand c (fold (hand_after c) h (facts_in (items_of (xs ++ ys)))) x) (sym (fold-append after st xs ys))
          (subst (λ x. NodeInHand c x (fold after mid ys)) (sym (ap (fold (hand_after c) h) (facts_both xs ys) ∙ fold-append (hand_after c) h (facts_in (items_of xs)) (facts_in (items_of ys))))
          (g.goes_along (fold (hand_after c) h (facts_in (items_of xs))) (f.goes_along h i p) (on h i p)));
    }

-- and then acts that ask for nothing
pub then_plain : (P : Hand → Type 0) (c : Script) (v : List ℕ → ℕ → ℕ → Bool) (st : Node) (xs ys : List Act) → NodeKeepsIf P c v st xs → NodeKeeps c v (fold after st xs) ys → NodeKeepsIf P c v st (xs ++ ys)
then_plain P c v st xs ys f g = both_if P (λ h. Unit {0}) c v st xs ys f (plain_if (λ h. Unit {0}) c v (fold after st xs) ys g) (λ h i p. tt)

pub if_if : (P : Hand → Type 0) (c : Script) (v : List ℕ → ℕ → ℕ → Bool) (st : Node) (b : Bool) (xs ys : List Act) → (b ≡ true → NodeKeepsIf P c v st xs) → (b ≡ false → NodeKeepsIf P c v st ys) → NodeKeepsIf P c v st (if b then xs else ys)
if_if P c v st true xs ys f g = f refl
if_if P c v st false xs ys f g = g refl

-- The coordinator's slot.

no_office : (o : Option Coordinator) → is_none o ≡ true → o ≡ None
no_office None h = refl
no_office (Some k) h = absurd (true≢false (sym h))

office_node : (c : Script) (v : List ℕ → ℕ → ℕ → Bool) (lists : SlotLists) (st : Node) → CoordinatorBegins → IsSoundNode c st → own c slot.Coordinator lists.coordinator ≡ true → st.coordinator ≡ None
    → (o : Option Incarnation) → holder lists.coordinator ≡ o → NodeKeepsIf (FindsOffice lists st) c v st (map by_coordinator (acquire_by slot.Coordinator st.who lists.coordinator o))
office_node c v lists st begins is own_is none (Some x) held = record {
  stands = subst (λ o. IsSoundNode c (record st { coordinator = option_map (λ k. coordinator_after k (told (fact.Held slot.Coordinator st.who x.node))) o })) (sym none) (record {
    who_is = is.who_is;
    set_is = is.set_is;
    region = is.region;
    region_who = is.region_who;
    different = is.different;
    entities = is.entities;
    entities_who = is.entities_who;
    producers_full = is.producers_full;
    producers = is.producers;
    coordinator = tt;
  });
  posts_are = refl;
  own_are = both (is_same st.who st.who) true (itself_is st.who st.who refl) refl;
  held_are = λ h i p. refl;
  guarded_are = λ h i p. refl;
  goes_along = λ h i p. subst (λ o. NodeInHand c h (record st { coordinator = option_map (λ k. coordinator_after k (told (fact.Held slot.Coordinator st.who x.node))) o })) (sym none) (record {
    entities = i.entities;
    queues_there = i.queues_there;
    producers = i.producers;
    coordinator = tt;
  });
}
office_node c v lists st begins is own_is none None free =
    let list : List Fact = lists.coordinator in
    let f : Fact = fact.Granted slot.Coordinator (epoch list + 1) st.who in
    let follows : may_follow c slot.Coordinator list f ≡ true = both (not (is_held list) && (epoch list + 1 == epoch list + 1)) (is_node c st.who)
    (both (not (is_held list)) (epoch list + 1 == epoch list + 1) (ap (λ o. not (is_some o)) free) (number_itself (epoch list + 1) (epoch list + 1) refl)) is.who_is in
    let new_own : own c slot.Coordinator (list ++ f ∷ []) ≡ true = own_more c slot.Coordinator list f own_is follows in
    record {
      stands = record {
        who_is = is.who_is;
        set_is = is.set_is;
        region = is.region;
        region_who = is.region_who;
        different = is.different;
        entities = is.entities;
        entities_who = is.entities_who;
        producers_full = is.producers_full;
        producers = is.producers;
        coordinator = record { sound = subst (λ s. IsGoodCoordinator c (new_coordinator s st.who (list ++ f ∷ []))) (sym is.set_is) (begins c st.who (list ++ f ∷ []) is.who_is new_own (fold-append holder_step None list (f ∷ []))); who_is = refl };
      };
      posts_are = refl;
      own_are = both (is_same st.who st.who) true (itself_is st.who st.who refl) refl;
      held_are = λ h i p. refl;
      guarded_are = λ h i p. both (guard_in_hand c v st.who h f) true (both (may_follow c slot.Coordinator h.lists.coordinator f) true (ap (λ l. may_follow c slot.Coordinator l f) (p none) ∙ follows) refl) refl;
      goes_along = λ h i p. record { entities = in_hand_still h i; queues_there = i.queues_there; producers = i.producers; coordinator = ap (λ l. l ++ f ∷ []) (p none) };
    }
  where
    in_hand_still : (h : Hand) → NodeInHand c h st → InHand c (hand_after c h (fact.Granted slot.Coordinator (epoch lists.coordinator + 1) st.who)) st.entities
    in_hand_still h i = let e : InHand c h st.entities = i.entities in record { there = e.there; lists_are = e.lists_are; version_is = e.version_is; live_are = e.live_are }

-- Lead.

-- the slot is asked for, where the node is the oldest of its view and doesn't hold it
pub asks_node : (c : Script) (v : List ℕ → ℕ → ℕ → Bool) (lists : SlotLists) (st : Node) → CoordinatorBegins → IsSoundNode c st → own c slot.Coordinator lists.coordinator ≡ true
    → NodeKeepsIf (FindsOffice lists st) c v st (if is_at st.who (region.oldest st.region) && is_none st.coordinator then map by_coordinator (acquire slot.Coordinator st.who lists.coordinator) else [])
asks_node c v lists st begins is own_is = if_if (FindsOffice lists st) c v st (is_at st.who (region.oldest st.region) && is_none st.coordinator) (map by_coordinator (acquire slot.Coordinator st.who lists.coordinator)) []
    (λ e. office_node c v lists st begins is own_is (no_office st.coordinator (and_both (is_at st.who (region.oldest st.region)) (is_none st.coordinator) e).1) (holder lists.coordinator) refl)
    (λ e. plain_if (FindsOffice lists st) c v st [] (node_none c v st is))

pub lead_node : (c : Script) (v : List ℕ → ℕ → ℕ → Bool) (lists : SlotLists) (st : Node) → CoordinatorBegins → IsSoundNode c st → own c slot.Coordinator lists.coordinator ≡ true → NodeKeepsIf (FindsOffice lists st) c v st (lead lists st)
lead_node c v lists st begins is own_is =
    let asks : List Act = if is_at st.who (region.oldest st.region) && is_none st.coordinator then map by_coordinator (acquire slot.Coordinator st.who lists.coordinator) else [] in
    let next : Node = fold after st asks in
    let first : NodeKeepsIf (FindsOffice lists st) c v st asks = asks_node c v lists st begins is own_is in
    then_plain (FindsOffice lists st) c v st asks (of_coordinator (coordinator.terminate_lost next.region.view) next) first (terminate_node c v next first.stands)

-- after it each registered region is in the view
ended_viewed : (st : Node) (o : Option Coordinator) → st.coordinator ≡ o → IsViewed (fold after st (where_some (λ k. map by_coordinator (coordinator.terminate_lost st.region.view k)) o))
ended_viewed st None e = subst (λ o. IfSome o (λ k. list_all (λ r. is_among r st.region.view) (regions k.entries) ≡ true)) (sym e) tt
ended_viewed st (Some k) e =
    let ms : List Move = coordinator.terminate_lost st.region.view k in
    let later : Coordinator = fold coordinator_after k ms in
    let same : fold after st (map by_coordinator ms) ≡ record st { coordinator = Some later } = coordinator_alone st ms ∙ ap (λ o. record st { coordinator = o })
    (ap (λ o. fold (coordinator_part st.set st.who) o (map by_coordinator ms)) e ∙ coordinator_stays st.set st.who k ms (calm_takes_none st.region.view ms (terminate_lost_calm st.region.view st.region.view k))) in
    subst IsViewed (sym same) (terminated_viewed st.region.view k)

pub lead_viewed : (lists : SlotLists) (st : Node) → IsViewed (fold after st (lead lists st))
lead_viewed lists st =
    let b : Bool = is_at st.who (region.oldest st.region) && is_none st.coordinator in
    let asks : List Act = if b then map by_coordinator (acquire slot.Coordinator st.who lists.coordinator) else [] in
    let next : Node = fold after st asks in
    subst IsViewed (sym (fold-append after st asks (of_coordinator (coordinator.terminate_lost next.region.view) next))) (ended_viewed next next.coordinator refl)

-- View.

region_viewed : (st : Node) (ms : List Move) → list_all is_viewless ms ≡ true → IsViewed st → IsViewed (fold after st (map by_region ms))
region_viewed st ms same h = subst IsViewed (sym (region_alone st ms)) (by st.coordinator h)
  where
    by : (o : Option Coordinator) → IfSome o (λ k. list_all (λ r. is_among r st.region.view) (regions k.entries) ≡ true) → IfSome o (λ k. list_all (λ r. is_among r (fold region_after st.region ms).view) (regions k.entries) ≡ true)
    by None j = tt
    by (Some k) j = ap (λ view. list_all (λ r. is_among r view) (regions k.entries)) (region_view st.region ms same) ∙ j

-- free facts leave what is in hand
pub region_hand : (c : Script) (st : Node) (ms : List Move) (h : Hand) → IsTrue (list_all is_free_move ms) → fold (hand_after c) h (facts_in (items_of (map by_region ms))) ≡ h
region_hand c st ms h free = ap (λ is. fold (hand_after c) h (facts_in is)) (region_items ms) ∙ free_hands c h (facts_of ms) (free_facts ms free)

taken_view : (v : ℕ) (xs : List Incarnation) (r : Region) → (fold region_after r (region.take_view v xs r)).view ≡ xs
taken_view v xs r = region_view (region_after (region_after r (viewed xs)) (told (fact.View r.who v))) (flat_map (region.forget_lost xs r) (shards r.set)) (lost_all is_viewless (λ x s. refl) xs r)

pub view_keeps : (c : Script) (v : List ℕ → ℕ → ℕ → Bool) (lists : SlotLists) (st : Node) (n : ℕ) (xs : List Incarnation) → regions_law.RegionKeeps → CoordinatorBegins → IsScript c → IsSoundNode c st
    → own c slot.Coordinator lists.coordinator ≡ true → list_all (is_node c) xs ≡ true → are_of_different_nodes xs ≡ true → NodeKeepsIf (FindsOffice lists st) c v st (view_packet lists n xs st)
view_keeps c v lists st n xs law begins script is own_is nodes different =
    let ms : List Move = region.take_view n xs st.region in
    let r : regions_law.Rules c st.region = law c st.region script is.region in
    let kept : regions_law.KeepsRegion c st.region ms = r.views n xs nodes in
    let first : NodeKeeps c v st (map by_region ms) = region_node c v st ms is kept (ap are_of_different_nodes (taken_view n xs st.region) ∙ different) in
    let mid : Node = fold after st (map by_region ms) in
    let leads : List Act = lead lists mid in
    let second : NodeKeepsIf (FindsOffice lists mid) c v mid leads = lead_node c v lists mid begins first.stands own_is in
    let later : Node = fold after mid leads in
    let asks : NodeKeeps c v later (all_in_turn (of_region region.register ∷ []) later) = node_both c v later (of_region region.register later) [] (register_node c v later law script second.stands) (node_none c v (fold after later (of_region region.register later)) (let k : NodeKeeps c v later (of_region region.register later) = register_node c v later law script second.stands in k.stands)) in
    if_if (FindsOffice lists st) c v st (nat_le n st.region.version) [] (all_in_turn (of_region (region.take_view n xs) ∷ lead lists ∷ of_region region.register ∷ []) st)
    (λ e. plain_if (FindsOffice lists st) c v st [] (node_none c v st is))
    (λ e. both_if (FindsOffice lists st) (FindsOffice lists mid) c v st (map by_region ms) (all_in_turn (lead lists ∷ of_region region.register ∷ []) mid) (plain_if (FindsOffice lists st) c v st (map by_region ms) first)
    (then_plain (FindsOffice lists mid) c v mid leads (all_in_turn (of_region region.register ∷ []) later) second asks)
    (λ h i p. λ none. ap (λ (x : Hand). x.lists.coordinator) (region_hand c st ms h kept.free_are) ∙ p (sym (ap (λ (x : Node). x.coordinator) (region_alone st ms)) ∙ none)))

pub view_viewed : (lists : SlotLists) (st : Node) (n : ℕ) (xs : List Incarnation) → IsViewed st → IsViewed (fold after st (view_packet lists n xs st))
view_viewed lists st n xs h = step (nat_le n st.region.version)
  where
    ms : List Move
    ms = region.take_view n xs st.region

    mid : Node
    mid = fold after st (map by_region ms)

    leads : List Act
    leads = lead lists mid

    later : Node
    later = fold after mid leads

    rest : List Act
    rest = all_in_turn (of_region region.register ∷ []) later

    step : (b : Bool) → IsViewed (fold after st (if b then [] else all_in_turn (of_region (region.take_view n xs) ∷ lead lists ∷ of_region region.register ∷ []) st))
    step true = h
    step false = subst IsViewed (sym (fold-append after st (map by_region ms) (leads ++ rest) ∙ (fold-append after mid leads rest ∙ fold-append after later (map by_region (region.register later.region)) [])))
        (region_viewed later (region.register later.region) (register_viewless later.region) (lead_viewed lists mid))
