-- A node's rules: one after another, and those of its region and of its entities.
use Rattle.std.proofs.Common.{◌≡◌, ℕ, ◌-◌, List, [], ◌∷◌, ◌++◌, length, map, sym, ap, subst, ◌∙◌, refl, true, false}
use Rattle.std.specs.Prelude.{Bool, ◌||◌, fold, slice_index_or, Option, Some, None, IfSome, if◌then◌else◌}
use Rattle.std.specs.List.{list_all, flat_map}
use Rattle.std.proofs.lemmas.Grind.{flat_map-append}
use Rattle.std.proofs.lemmas.List.Sums.{fold-append}
use Rattle.yard_model.specs.declared.fact.Fact.{Fact}
use Rattle.yard_model.specs.declared.fact.Fact.TheVariants as fact
use Rattle.yard_model.specs.declared.out.Item.TheVariants as item
use Rattle.yard_model.specs.declared.incarnation.Incarnation.{Incarnation}
use Rattle.yard_model.specs.declared.incarnation.Slot.TheVariants as slot
use Rattle.yard_model.specs.Coordinator.{Coordinator}
use Rattle.yard_model.specs.Entities.{entities_after}
use Rattle.yard_model.specs.Members.{are_of_different_nodes}
use Rattle.yard_model.specs.Move.{Move, made, item_of}
use Rattle.yard_model.specs.Node.{Node, Act, by_region, by_entities, move_of, after, items_of}
use Rattle.yard_model.specs.Region.{region_after}
use Rattle.yard_model.specs.Script.{Script, Setting, setting}
use Rattle.plain_laws.proofs.Booleans.{true_is_not_false, and_both, both, all_map, right_of}
use Rattle.plain_laws.proofs.Lists.{all_join}
use Rattle.yard_laws.specs.Free.{is_free, is_free_move}
use Rattle.yard_laws.proofs.PartsLaws.{region_alone, entities_alone, region_items, entities_items}
use Rattle.actor_laws.specs.Owes.{Hand, facts_in, hand_after, guard_in_hand, guarded_in_hand, is_own_post}
use Rattle.actor_laws.proofs.Rules.{region_who}
use Rattle.actor_laws.specs.Held.{slot_told, is_grant, is_slot_held, held_in_hand}
use Rattle.actor_laws.specs.Moves.{is_own_move, facts_of}
use Rattle.actor_laws.specs.EntitiesStand as entities
use Rattle.actor_laws.specs.EntitiesStand.{IsEntities, InHand, is_entity_fact}
use Rattle.actor_laws.specs.RegionStands as regions
use Rattle.actor_laws.specs.RegionStands.{is_region_fact}
use Rattle.node_laws.specs.NodeStands.{is_own_fact, IsSoundNode, NodeInHand}
use Rattle.node_laws.proofs.NodeKeeps.{NodeKeeps}
use Rattle.node_laws.specs.NodeFound.{NodeKeepsIf}
use Rattle.actor_laws.proofs.EntitiesMoves as moves
use Rattle.actor_laws.proofs.EntitiesMoves.{facts_append, guarded_both, held_both}

-- In turn.

pub items_both : (xs ys : List Act) → items_of (xs ++ ys) ≡ items_of xs ++ items_of ys
items_both xs ys = flat_map-append (λ a. item_of (move_of a)) xs ys

pub facts_both : (xs ys : List Act) → facts_in (items_of (xs ++ ys)) ≡ facts_in (items_of xs) ++ facts_in (items_of ys)
facts_both xs ys = ap facts_in (items_both xs ys) ∙ facts_append (items_of xs) (items_of ys)

pub who_stays : (st : Node) (acts : List Act) → (fold after st acts).who ≡ st.who
who_stays st [] = refl
who_stays st (a ∷ acts) = who_stays (after st a) acts

pub set_stays : (st : Node) (acts : List Act) → (fold after st acts).set ≡ st.set
set_stays st [] = refl
set_stays st (a ∷ acts) = set_stays (after st a) acts

pub own_both : (c : Script) (st : Node) (xs ys : List Act) → list_all (is_own_fact st.who) (facts_in (items_of xs)) ≡ true → list_all (is_own_fact (fold after st xs).who) (facts_in (items_of ys)) ≡ true → list_all (is_own_fact st.who) (facts_in (items_of (xs ++ ys))) ≡ true
own_both c st xs ys f g = ap (list_all (is_own_fact st.who)) (facts_both xs ys)
    ∙ all_join (is_own_fact st.who) (facts_in (items_of xs)) (facts_in (items_of ys)) f (subst (λ w. list_all (is_own_fact w) (facts_in (items_of ys)) ≡ true) (who_stays st xs) g)

pub node_none : (c : Script) (v : List ℕ → ℕ → ℕ → Bool) (st : Node) → IsSoundNode c st → NodeKeeps c v st []
node_none c v st is = record { stands = is; posts_are = refl; own_are = refl; held_are = λ h i. refl; guarded_are = λ h i. refl; goes_along = λ h i. i }

pub node_both : (c : Script) (v : List ℕ → ℕ → ℕ → Bool) (st : Node) (xs ys : List Act) → NodeKeeps c v st xs → NodeKeeps c v (fold after st xs) ys → NodeKeeps c v st (xs ++ ys)
node_both c v st xs ys f g =
    let mid : Node = fold after st xs in
    record {
      stands = subst (IsSoundNode c) (sym (fold-append after st xs ys)) g.stands;
      posts_are = ap (list_all (is_own_post c st.who)) (items_both xs ys) ∙ all_join (is_own_post c st.who) (items_of xs) (items_of ys) f.posts_are (subst (λ w. list_all (is_own_post c w) (items_of ys) ≡ true) (who_stays st xs) g.posts_are);
      own_are = own_both c st xs ys f.own_are g.own_are;
      held_are = λ h i. ap (held_in_hand c st.who h) (facts_both xs ys)
          ∙ held_both c st.who h (facts_in (items_of xs)) (facts_in (items_of ys)) (f.held_are h i)
          (subst (λ w. held_in_hand c w (fold (hand_after c) h (facts_in (items_of xs))) (facts_in (items_of ys)) ≡ true) (who_stays st xs) (g.held_are (fold (hand_after c) h (facts_in (items_of xs))) (f.goes_along h i)));
      guarded_are = λ h i. ap (guarded_in_hand c v st.who h) (facts_both xs ys)
          ∙ guarded_both c v st.who h (facts_in (items_of xs)) (facts_in (items_of ys)) (f.guarded_are h i)
          (subst (λ w. guarded_in_hand c v w (fold (hand_after c) h (facts_in (items_of xs))) (facts_in (items_of ys)) ≡ true) (who_stays st xs) (g.guarded_are (fold (hand_after c) h (facts_in (items_of xs))) (f.goes_along h i)));
      goes_along = λ h i. subst (λ x. NodeInHand c (fold (hand_after c) h (facts_in (items_of (xs ++ ys)))) x) (sym (fold-append after st xs ys))
          (subst (λ x. NodeInHand c x (fold after mid ys)) (sym (ap (fold (hand_after c) h) (facts_both xs ys) ∙ fold-append (hand_after c) h (facts_in (items_of xs)) (facts_in (items_of ys))))
          (g.goes_along (fold (hand_after c) h (facts_in (items_of xs))) (f.goes_along h i)));
    }

pub node_if : (c : Script) (v : List ℕ → ℕ → ℕ → Bool) (st : Node) (b : Bool) (xs ys : List Act) → (b ≡ true → NodeKeeps c v st xs) → (b ≡ false → NodeKeeps c v st ys) → NodeKeeps c v st (if b then xs else ys)
node_if c v st true xs ys f g = f refl
node_if c v st false xs ys f g = g refl

-- what moves post is their own
own_items : (c : Script) (who : Incarnation) (ms : List Move) → list_all (is_own_move c who) ms ≡ true → list_all (is_own_post c who) (flat_map item_of ms) ≡ true
own_items c who [] h = refl
own_items c who (m ∷ ms) h =
    let n : (is_own_move c who m ≡ true) × (list_all (is_own_move c who) ms ≡ true) = and_both (is_own_move c who m) (list_all (is_own_move c who) ms) h in
    all_join (is_own_post c who) (item_of m) (flat_map item_of ms) n.0 (own_items c who ms n.1)

-- Free facts.

free_hand : (c : Script) (h : Hand) (f : Fact) → is_free f ≡ true → hand_after c h f ≡ h
free_hand c h (fact.At n) e = refl
free_hand c h fact.Nothing e = refl
free_hand c h fact.WireFull e = refl
free_hand c h fact.Settled e = refl
free_hand c h (fact.Up x) e = refl
free_hand c h (fact.View x n) e = refl
free_hand c h (fact.Sent k p) e = refl
free_hand c h (fact.Got k) e = refl
free_hand c h (fact.Held s x n) e = refl
free_hand c h (fact.Moving s stamp) e = refl
free_hand c h (fact.Home x s k) e = refl
free_hand c h (fact.Forget x s) e = refl
free_hand c h (fact.Kept x m) e = refl
free_hand c h (fact.Dropped x m) e = refl
free_hand c h (fact.Stashed x m) e = refl
free_hand c h (fact.Armed e k) i = refl
free_hand c h (fact.Waits p e k) i = refl
free_hand c h (fact.SentAsk k x) e = refl
free_hand c h (fact.SentJob k x g) e = refl
free_hand c h (fact.SentDone k x g) e = refl
free_hand c h (fact.Given g x) e = refl
free_hand c h (fact.Did x g) e = refl
free_hand c h f e = absurd (true_is_not_false (sym e))

free_guard : (c : Script) (v : List ℕ → ℕ → ℕ → Bool) (who : Incarnation) (h : Hand) (f : Fact) → is_free f ≡ true → guard_in_hand c v who h f ≡ true
free_guard c v who h (fact.At n) e = refl
free_guard c v who h fact.Nothing e = refl
free_guard c v who h fact.WireFull e = refl
free_guard c v who h fact.Settled e = refl
free_guard c v who h (fact.Up x) e = refl
free_guard c v who h (fact.View x n) e = refl
free_guard c v who h (fact.Sent k p) e = refl
free_guard c v who h (fact.Got k) e = refl
free_guard c v who h (fact.Held s x n) e = refl
free_guard c v who h (fact.Moving s stamp) e = refl
free_guard c v who h (fact.Home x s k) e = refl
free_guard c v who h (fact.Forget x s) e = refl
free_guard c v who h (fact.Kept x m) e = refl
free_guard c v who h (fact.Dropped x m) e = refl
free_guard c v who h (fact.Stashed x m) e = refl
free_guard c v who h (fact.Armed e k) i = refl
free_guard c v who h (fact.Waits p e k) i = refl
free_guard c v who h (fact.SentAsk k x) e = refl
free_guard c v who h (fact.SentJob k x g) e = refl
free_guard c v who h (fact.SentDone k x g) e = refl
free_guard c v who h (fact.Given g x) e = refl
free_guard c v who h (fact.Did x g) e = refl
free_guard c v who h f e = absurd (true_is_not_false (sym e))

pub free_hands : (c : Script) (h : Hand) (fs : List Fact) → list_all is_free fs ≡ true → fold (hand_after c) h fs ≡ h
free_hands c h [] e = refl
free_hands c h (f ∷ fs) e =
    let m : (is_free f ≡ true) × (list_all is_free fs ≡ true) = and_both (is_free f) (list_all is_free fs) e in
    ap (λ x. fold (hand_after c) x fs) (free_hand c h f m.0) ∙ free_hands c h fs m.1

free_guards : (c : Script) (v : List ℕ → ℕ → ℕ → Bool) (who : Incarnation) (h : Hand) (fs : List Fact) → list_all is_free fs ≡ true → guarded_in_hand c v who h fs ≡ true
free_guards c v who h [] e = refl
free_guards c v who h (f ∷ fs) e =
    let m : (is_free f ≡ true) × (list_all is_free fs ≡ true) = and_both (is_free f) (list_all is_free fs) e in
    both (guard_in_hand c v who h f) (guarded_in_hand c v who (hand_after c h f) fs) (free_guard c v who h f m.0) (free_guards c v who (hand_after c h f) fs m.1)

pub free_facts : (ms : List Move) → list_all is_free_move ms ≡ true → list_all is_free (facts_of ms) ≡ true
free_facts [] h = refl
free_facts (made (item.Fact f) ∷ ms) h =
    let m : (is_free f ≡ true) × (list_all is_free_move ms ≡ true) = and_both (is_free f) (list_all is_free_move ms) h in
    both (is_free f) (list_all is_free (facts_of ms)) m.0 (free_facts ms m.1)
free_facts (made (item.Post p) ∷ ms) h = free_facts ms h
free_facts (m ∷ ms) h = free_facts ms h

-- what a region tells is of its own incarnation
region_own : (who : Incarnation) (f : Fact) → is_region_fact who f ≡ true → is_own_fact who f ≡ true
region_own who (fact.View x v) h = h
region_own who (fact.Home x s k) h = h
region_own who (fact.Forget x s) h = h
region_own who (fact.Kept x m) h = h
region_own who (fact.Dropped x m) h = h
region_own who f h = absurd (true_is_not_false (sym h))

-- and of no slot
region_told : (set : Setting) (who : Incarnation) (f : Fact) → is_region_fact who f ≡ true → slot_told set f ≡ None
region_told set who (fact.View x v) h = refl
region_told set who (fact.Home x s k) h = refl
region_told set who (fact.Forget x s) h = refl
region_told set who (fact.Kept x m) h = refl
region_told set who (fact.Dropped x m) h = refl
region_told set who f h = absurd (true_is_not_false (sym h))

region_held : (c : Script) (who : Incarnation) (h : Hand) (fs : List Fact) → list_all (is_region_fact who) fs ≡ true → held_in_hand c who h fs ≡ true
region_held c who h [] e = refl
region_held c who h (f ∷ fs) e =
    let m : (is_region_fact who f ≡ true) × (list_all (is_region_fact who) fs ≡ true) = and_both (is_region_fact who f) (list_all (is_region_fact who) fs) e in
    both (is_grant f || is_slot_held who h (slot_told (setting c) f)) (held_in_hand c who (hand_after c h f) fs)
    (right_of (is_grant f) (is_slot_held who h (slot_told (setting c) f)) (ap (is_slot_held who h) (region_told (setting c) who f m.0))) (region_held c who (hand_after c h f) fs m.1)

-- The region's moves.

pub region_node : (c : Script) (v : List ℕ → ℕ → ℕ → Bool) (st : Node) (ms : List Move) → IsSoundNode c st → regions.KeepsRegion c st.region ms → are_of_different_nodes (fold region_after st.region ms).view ≡ true → NodeKeeps c v st (map by_region ms)
region_node c v st ms is k different =
    let later : Node = record st { region = fold region_after st.region ms } in
    let same : fold after st (map by_region ms) ≡ later = region_alone st ms in
    let facts : facts_in (items_of (map by_region ms)) ≡ facts_of ms = ap facts_in (region_items ms) in
    let free : list_all is_free (facts_of ms) ≡ true = free_facts ms k.free_are in
    let ours : list_all (is_region_fact st.who) (facts_of ms) ≡ true = subst (λ w. list_all (is_region_fact w) (facts_of ms) ≡ true) is.region_who k.facts_are in
    record {
      stands = subst (IsSoundNode c) (sym same) (record {
        who_is = is.who_is;
        set_is = is.set_is;
        region = k.stands;
        region_who = region_who st.region ms ∙ is.region_who;
        different = different;
        entities = is.entities;
        entities_who = is.entities_who;
        producers_full = is.producers_full;
        producers = is.producers;
        coordinator = is.coordinator;
      });
      posts_are = ap (list_all (is_own_post c st.who)) (region_items ms) ∙ subst (λ w. list_all (is_own_post c w) (flat_map item_of ms) ≡ true) is.region_who (own_items c st.region.who ms k.posts_are);
      own_are = ap (list_all (is_own_fact st.who)) facts ∙ all_map (is_region_fact st.who) (is_own_fact st.who) (region_own st.who) (facts_of ms) ours;
      held_are = λ h i. ap (held_in_hand c st.who h) facts ∙ region_held c st.who h (facts_of ms) ours;
      guarded_are = λ h i. ap (guarded_in_hand c v st.who h) facts ∙ free_guards c v st.who h (facts_of ms) free;
      goes_along = λ h i. subst (λ x. NodeInHand c (fold (hand_after c) h (facts_in (items_of (map by_region ms)))) x) (sym same)
          (subst (λ x. NodeInHand c x later) (sym (ap (fold (hand_after c) h) facts ∙ free_hands c h (facts_of ms) free))
          (record { entities = i.entities; queues_there = i.queues_there; producers = i.producers; coordinator = i.coordinator }));
    }

-- The entities' moves.

pub record AreElse (h g : Hand) : Type 0 where
  pub coordinator : g.lists.coordinator ≡ h.lists.coordinator
  pub queues : g.lists.queues ≡ h.lists.queues

entity_else : (c : Script) (who : Incarnation) (h : Hand) (f : Fact) → is_entity_fact who f ≡ true → AreElse h (hand_after c h f)
entity_else c who h (fact.Start x e) k = record { coordinator = refl; queues = refl }
entity_else c who h (fact.Active x e n s) k = record { coordinator = refl; queues = refl }
entity_else c who h (fact.Stop x e) k = record { coordinator = refl; queues = refl }
entity_else c who h (fact.WriteFailed x e) k = record { coordinator = refl; queues = refl }
entity_else c who h (fact.Armed e a) k = record { coordinator = refl; queues = refl }
entity_else c who h (fact.Stashed x m) k = record { coordinator = refl; queues = refl }
entity_else c who h (fact.Dropped x m) k = record { coordinator = refl; queues = refl }
entity_else c who h (fact.Held s x n) k = record { coordinator = refl; queues = refl }
entity_else c who h (fact.Granted (slot.Shard s) n x) k = record { coordinator = refl; queues = refl }
entity_else c who h (fact.Freed (slot.Shard s) n why) k = record { coordinator = refl; queues = refl }
entity_else c who h (fact.Wrote e r) k = record { coordinator = refl; queues = refl }
entity_else c who h (fact.Snapshot e n) k = record { coordinator = refl; queues = refl }
entity_else c who h (fact.Remembered e) k = record { coordinator = refl; queues = refl }
entity_else c who h (fact.Forgotten e) k = record { coordinator = refl; queues = refl }
entity_else c who h f k = absurd (true_is_not_false (sym k))

pub entities_else : (c : Script) (who : Incarnation) (h : Hand) (fs : List Fact) → list_all (is_entity_fact who) fs ≡ true → AreElse h (fold (hand_after c) h fs)
entities_else c who h [] k = record { coordinator = refl; queues = refl }
entities_else c who h (f ∷ fs) k =
    let m : (is_entity_fact who f ≡ true) × (list_all (is_entity_fact who) fs ≡ true) = and_both (is_entity_fact who f) (list_all (is_entity_fact who) fs) k in
    let one : AreElse h (hand_after c h f) = entity_else c who h f m.0 in
    let more : AreElse (hand_after c h f) (fold (hand_after c) (hand_after c h f) fs) = entities_else c who (hand_after c h f) fs m.1 in
    record { coordinator = more.coordinator ∙ one.coordinator; queues = more.queues ∙ one.queues }

-- what entities tell is their own
entity_own : (who : Incarnation) (f : Fact) → is_entity_fact who f ≡ true → is_own_fact who f ≡ true
entity_own who (fact.Start x e) h = h
entity_own who (fact.Active x e n s) h = h
entity_own who (fact.Stop x e) h = h
entity_own who (fact.WriteFailed x e) h = h
entity_own who (fact.Granted (slot.Shard s) n x) h = h
entity_own who (fact.Granted slot.Coordinator n x) h = absurd (true_is_not_false (sym h))
entity_own who (fact.Granted (slot.Queue p) n x) h = absurd (true_is_not_false (sym h))
entity_own who (fact.Stashed x m) h = h
entity_own who (fact.Dropped x m) h = h
entity_own who (fact.Held s x n) h = h
entity_own who (fact.Up x) h = absurd (true_is_not_false (sym h))
entity_own who (fact.Gone x) h = absurd (true_is_not_false (sym h))
entity_own who (fact.View x v) h = absurd (true_is_not_false (sym h))
entity_own who (fact.Home x s k) h = absurd (true_is_not_false (sym h))
entity_own who (fact.Forget x s) h = absurd (true_is_not_false (sym h))
entity_own who (fact.Kept x m) h = absurd (true_is_not_false (sym h))
entity_own who (fact.Reshard n k) h = absurd (true_is_not_false (sym h))
entity_own who (fact.Resharded s n k) h = absurd (true_is_not_false (sym h))
entity_own who (fact.Upgrade v) h = absurd (true_is_not_false (sym h))
entity_own who f h = refl

-- by moves whose facts are guarded with hands of one kind
pub entities_if : (P : Hand → Type 0) (c : Script) (v : List ℕ → ℕ → ℕ → Bool) (st : Node) (ms : List Move) → IsSoundNode c st → IsEntities c (fold entities_after st.entities ms) → list_all (is_own_move c st.entities.who) ms ≡ true
    → list_all (is_entity_fact st.entities.who) (facts_of ms) ≡ true → ((h : Hand) → InHand c h st.entities → P h → held_in_hand c st.entities.who h (facts_of ms) ≡ true) → ((h : Hand) → InHand c h st.entities → P h → guarded_in_hand c v st.entities.who h (facts_of ms) ≡ true)
    → ((h : Hand) → InHand c h st.entities → P h → InHand c (fold (hand_after c) h (facts_of ms)) (fold entities_after st.entities ms)) → NodeKeepsIf P c v st (map by_entities ms)
entities_if P c v st ms is stands own_are told_are holding guarded goes =
    let later : Node = record st { entities = fold entities_after st.entities ms } in
    let same : fold after st (map by_entities ms) ≡ later = entities_alone st ms in
    let facts : facts_in (items_of (map by_entities ms)) ≡ facts_of ms = ap facts_in (entities_items ms) in
    record {
      stands = subst (IsSoundNode c) (sym same) (record {
        who_is = is.who_is;
        set_is = is.set_is;
        region = is.region;
        region_who = is.region_who;
        different = is.different;
        entities = stands;
        entities_who = moves.who_stays st.entities ms ∙ is.entities_who;
        producers_full = is.producers_full;
        producers = is.producers;
        coordinator = is.coordinator;
      });
      posts_are = ap (list_all (is_own_post c st.who)) (entities_items ms) ∙ subst (λ w. list_all (is_own_post c w) (flat_map item_of ms) ≡ true) is.entities_who (own_items c st.entities.who ms own_are);
      own_are = ap (list_all (is_own_fact st.who)) facts ∙ all_map (is_entity_fact st.who) (is_own_fact st.who) (entity_own st.who) (facts_of ms) (subst (λ w. list_all (is_entity_fact w) (facts_of ms) ≡ true) is.entities_who told_are);
      held_are = λ h i p. ap (held_in_hand c st.who h) facts ∙ subst (λ w. held_in_hand c w h (facts_of ms) ≡ true) is.entities_who (holding h i.entities p);
      guarded_are = λ h i p. ap (guarded_in_hand c v st.who h) facts ∙ subst (λ w. guarded_in_hand c v w h (facts_of ms) ≡ true) is.entities_who (guarded h i.entities p);
      goes_along = λ h i p. subst (λ x. NodeInHand c (fold (hand_after c) h (facts_in (items_of (map by_entities ms)))) x) (sym same)
          (subst (λ x. NodeInHand c (fold (hand_after c) h x) later) (sym facts) (along h i p));
    }
  where
    along : (h : Hand) → NodeInHand c h st → P h → NodeInHand c (fold (hand_after c) h (facts_of ms)) (record st { entities = fold entities_after st.entities ms })
    along h i p =
        let e : AreElse h (fold (hand_after c) h (facts_of ms)) = entities_else c st.entities.who h (facts_of ms) told_are in
        record {
          entities = goes h i.entities p;
          queues_there = ap length e.queues ∙ i.queues_there;
          producers = λ p x above at_p. ap (λ l. queue_in l p) e.queues ∙ i.producers p x above at_p;
          coordinator = coordinated (fold (hand_after c) h (facts_of ms)) e.coordinator st.coordinator i.coordinator;
        }
      where
        queue_in : List (List Fact) → ℕ → List Fact
        queue_in l p = slice_index_or l (p - 1) []

        coordinated : (g : Hand) → g.lists.coordinator ≡ h.lists.coordinator → (o : Option Coordinator) → IfSome o (λ x. h.lists.coordinator ≡ x.entries) → IfSome o (λ x. g.lists.coordinator ≡ x.entries)
        coordinated g e None j = tt
        coordinated g e (Some x) j = e ∙ j

pub entities_node : (c : Script) (v : List ℕ → ℕ → ℕ → Bool) (st : Node) (ms : List Move) → IsSoundNode c st → entities.KeepsEntities c st.entities ms → NodeKeeps c v st (map by_entities ms)
entities_node c v st ms is k =
    let x : NodeKeepsIf (λ h. Unit {0}) c v st (map by_entities ms) = entities_if (λ h. Unit {0}) c v st ms is k.stands k.posts_are k.facts_are (λ h i p. k.held_are h i) (λ h i p. k.guarded_are v h i) (λ h i p. k.goes_along h i) in
    record { stands = x.stands; posts_are = x.posts_are; own_are = x.own_are; held_are = λ h i. x.held_are h i tt; guarded_are = λ h i. x.guarded_are h i tt; goes_along = λ h i. x.goes_along h i tt }
