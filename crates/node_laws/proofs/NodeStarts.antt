-- The rules of a node that start a shard: ShardHome and HostShard.
use Rattle.std.proofs.Common.{◌≡◌, ℕ, List, [], ◌∷◌, ◌++◌, map, sym, ap, subst, ◌∙◌, refl, true, false, true≢false}
use Rattle.std.specs.Prelude.{Bool, not, fold, Option, Some, None, is_none, if◌then◌else◌}
use Rattle.yard_model.specs.declared.fact.Fact.{Fact}
use Rattle.yard_model.specs.declared.packet.Body.TheVariants as body
use Rattle.yard_model.specs.declared.incarnation.Incarnation.{Incarnation}
use Rattle.yard_model.specs.declared.incarnation.Slot.TheVariants as slot
use Rattle.yard_model.specs.declared.incarnation.Stamp.{Stamp}
use Rattle.yard_model.specs.Entities as entities
use Rattle.yard_model.specs.Entities.{Entities, Hosted, hosted, entities_after}
use Rattle.yard_model.specs.Genuine.{is_node, is_shard}
use Rattle.yard_model.specs.Lawful.{own}
use Rattle.yard_model.specs.Move.{Move, post}
use Rattle.yard_model.specs.Node.{Node, Act, by_region, by_entities, after, of_region, of_entities, all_in_turn, acquire, start, release, shard_home, host_shard}
use Rattle.yard_model.specs.Region as region
use Rattle.yard_model.specs.Script.{Script, IsScript}
use Rattle.yard_model.specs.SlotLists.{SlotLists, shard_list}
use Rattle.yard_model.specs.Turns.{in_turn}
use Rattle.yard_laws.proofs.PartsLaws.{region_alone, entities_alone}
use Rattle.actor_laws.specs.Owes.{Hand}
use Rattle.actor_laws.specs.RegionStands as regions
use Rattle.actor_laws.specs.ShardStart.{KeepsFound, ShardStarts}
use Rattle.node_laws.specs.NodeStands.{IsSoundNode}
use Rattle.node_laws.proofs.NodeKeeps.{NodeKeeps}
use Rattle.node_laws.specs.NodeFound.{NodeKeepsIf, FindsShard}
use Rattle.node_laws.proofs.NodeLeases.{plain_if, both_if, then_plain, if_if, region_hand}
use Rattle.node_laws.proofs.NodeMessages.{RouteLaws, release_node}
use Rattle.node_laws.proofs.NodeParts.{node_none, node_both, entities_if}
use Rattle.node_laws.proofs.NodeRoutes.{region_rule, learn_viewless, answer_node}

-- The start.

pub not_hosted : (o : Option Hosted) → not (is_none o) ≡ false → o ≡ None
not_hosted None h = refl
not_hosted (Some x) h = absurd (true≢false h)

-- acts of the entities, one list after another
acts_joined : (st : Node) (ms : List Move) (f : Entities → List Move) → map by_entities ms ++ map by_entities (f (fold after st (map by_entities ms)).entities) ≡ map by_entities (ms ++ f (fold entities_after st.entities ms))
acts_joined st ms f = ap (λ (x : Node). map by_entities ms ++ map by_entities (f x.entities)) (entities_alone st ms) ∙ joined ms
  where
    joined : (xs : List Move) → map by_entities xs ++ map by_entities (f (fold entities_after st.entities ms)) ≡ map by_entities (xs ++ f (fold entities_after st.entities ms))
    joined [] = refl
    joined (x ∷ xs) = ap (λ l. by_entities x ∷ l) (joined xs)

-- a shard that isn't hosted is acquired, by the list that was found
pub starts_node : (c : Script) (v : List ℕ → ℕ → ℕ → Bool) (lists : SlotLists) (s : ℕ) (st : Node) → ShardStarts → IsSoundNode c st → own c (slot.Shard s) (shard_list lists s) ≡ true → is_shard c s ≡ true → NodeKeepsIf (FindsShard lists s st) c v st (start lists s st)
starts_node c v lists s st law is own_is shard =
    let list : List Fact = shard_list lists s in
    let asks : List Move = acquire (slot.Shard s) st.who list in
    let turn : List Move = asks ++ entities.start_remembered s (fold entities_after st.entities asks) in
    if_if (FindsShard lists s st) c v st (entities.is_hosted st.entities s) [] (in_turn after (λ st. map by_entities (acquire (slot.Shard s) st.who list)) (of_entities (entities.start_remembered s)) st)
    (λ e. plain_if (FindsShard lists s st) c v st [] (node_none c v st is))
    (λ e.
    let away : hosted st.entities s ≡ None = not_hosted (hosted st.entities s) e in
    let k : KeepsFound c s list st.entities turn = subst (λ w. let ms : List Move = acquire (slot.Shard s) w list in KeepsFound c s list st.entities (ms ++ entities.start_remembered s (fold entities_after st.entities ms))) is.entities_who (law c st.entities s list is.entities away shard own_is) in
    subst (NodeKeepsIf (FindsShard lists s st) c v st) (sym (acts_joined st asks (entities.start_remembered s)))
    (entities_if (FindsShard lists s st) c v st turn is k.stands k.posts_are k.facts_are (λ h i p. k.held_are h i (p away)) (λ h i p. k.guarded_are v h i (p away)) (λ h i p. k.goes_along h i (p away))))

-- ShardHome and HostShard.

pub learn_node : (c : Script) (v : List ℕ → ℕ → ℕ → Bool) (st : Node) (s : ℕ) (h : Incarnation) (stamp : Stamp) → regions.RegionKeeps → IsScript c → IsSoundNode c st → is_shard c s ≡ true → is_node c h ≡ true → NodeKeeps c v st (of_region (region.learn s h stamp) st)
learn_node c v st s h stamp law script is shard node = let r : regions.Rules c st.region = law c st.region script is.region in region_rule c v st (region.learn s h stamp st.region) is (r.learns s h stamp shard node) (learn_viewless s h stamp st.region)

-- the region learns of a home first, which leaves what the node has in hand as it is
learned_then : (c : Script) (v : List ℕ → ℕ → ℕ → Bool) (lists : SlotLists) (st : Node) (s : ℕ) (h : Incarnation) (stamp : Stamp) (rest : List Act) → regions.RegionKeeps → IsScript c → IsSoundNode c st → is_shard c s ≡ true → is_node c h ≡ true
    → (let mid : Node = fold after st (of_region (region.learn s h stamp) st) in NodeKeepsIf (FindsShard lists s mid) c v mid rest) → NodeKeepsIf (FindsShard lists s st) c v st (of_region (region.learn s h stamp) st ++ rest)
learned_then c v lists st s h stamp rest law script is shard node k =
    let ms : List Move = region.learn s h stamp st.region in
    let mid : Node = fold after st (map by_region ms) in
    let r : regions.Rules c st.region = law c st.region script is.region in
    let kept : regions.KeepsRegion c st.region ms = r.learns s h stamp shard node in
    both_if (FindsShard lists s st) (FindsShard lists s mid) c v st (map by_region ms) rest (plain_if (FindsShard lists s st) c v st (map by_region ms) (learn_node c v st s h stamp law script is shard node)) k
    (λ g i p. λ none. ap (λ (x : Hand). shard_list x.lists s) (region_hand c st ms g kept.free_are) ∙ p (sym (ap (λ (x : Node). hosted x.entities s) (region_alone st ms)) ∙ none))

-- and at the end the kept messages are released
released_last : (c : Script) (v : List ℕ → ℕ → ℕ → Bool) (s : ℕ) (st : Node) → RouteLaws → IsScript c → IsSoundNode c st → NodeKeeps c v st (all_in_turn (release s ∷ []) st)
released_last c v s st laws script is =
    let k : NodeKeeps c v st (release s st) = release_node c v s st laws script is in
    node_both c v st (release s st) [] k (node_none c v (fold after st (release s st)) k.stands)

pub home_node : (c : Script) (v : List ℕ → ℕ → ℕ → Bool) (lists : SlotLists) (st : Node) (s : ℕ) (h : Incarnation) (stamp : Stamp) → RouteLaws → ShardStarts → IsScript c → IsSoundNode c st
    → own c (slot.Shard s) (shard_list lists s) ≡ true → is_shard c s ≡ true → is_node c h ≡ true → NodeKeepsIf (FindsShard lists s st) c v st (shard_home lists s h stamp st)
home_node c v lists st s h stamp laws starts script is own_is shard node =
    let mid : Node = fold after st (of_region (region.learn s h stamp) st) in
    let first : NodeKeeps c v st (of_region (region.learn s h stamp) st) = learn_node c v st s h stamp laws.region script is shard node in
    let begin : List Act = if region.is_home mid.region s then start lists s mid else [] in
    let begins : NodeKeepsIf (FindsShard lists s mid) c v mid begin = if_if (FindsShard lists s mid) c v mid (region.is_home mid.region s) (start lists s mid) []
    (λ e. starts_node c v lists s mid starts first.stands own_is shard)
    (λ e. plain_if (FindsShard lists s mid) c v mid [] (node_none c v mid first.stands)) in
    let later : Node = fold after mid begin in
    if_if (FindsShard lists s st) c v st (region.takes_home s h stamp st.region)
    (all_in_turn (of_region (region.learn s h stamp) ∷ (λ st. if region.is_home st.region s then start lists s st else []) ∷ release s ∷ []) st) []
    (λ e. learned_then c v lists st s h stamp (begin ++ all_in_turn (release s ∷ []) later) laws.region script is shard node
    (then_plain (FindsShard lists s mid) c v mid begin (all_in_turn (release s ∷ []) later) begins (released_last c v s later laws script begins.stands)))
    (λ e. plain_if (FindsShard lists s st) c v st [] (node_none c v st is))

pub host_node : (c : Script) (v : List ℕ → ℕ → ℕ → Bool) (lists : SlotLists) (st : Node) (s : ℕ) (stamp : Stamp) (from : Incarnation) → RouteLaws → ShardStarts → IsScript c → IsSoundNode c st
    → own c (slot.Shard s) (shard_list lists s) ≡ true → is_shard c s ≡ true → is_node c from ≡ true → NodeKeepsIf (FindsShard lists s st) c v st (host_shard lists s stamp from st)
host_node c v lists st s stamp from laws starts script is own_is shard node =
    let mid : Node = fold after st (of_region (region.learn s st.who stamp) st) in
    let first : NodeKeeps c v st (of_region (region.learn s st.who stamp) st) = learn_node c v st s st.who stamp laws.region script is shard is.who_is in
    let begin : List Act = start lists s mid in
    let begins : NodeKeepsIf (FindsShard lists s mid) c v mid begin = starts_node c v lists s mid starts first.stands own_is shard in
    let later : Node = fold after mid begin in
    let answers : List Act = of_region (λ r. post r.who from (body.ShardStarted s) ∷ []) later in
    let told_it : NodeKeeps c v later answers = answered later begins.stands in
    let last : NodeKeeps c v later (answers ++ all_in_turn (release s ∷ []) (fold after later answers)) = node_both c v later answers (all_in_turn (release s ∷ []) (fold after later answers)) told_it (released_last c v s (fold after later answers) laws script told_it.stands) in
    if_if (FindsShard lists s st) c v st (region.takes_host s stamp st.region)
    (all_in_turn (of_region (region.learn s st.who stamp) ∷ start lists s ∷ of_region (λ r. post r.who from (body.ShardStarted s) ∷ []) ∷ release s ∷ []) st) []
    (λ e. learned_then c v lists st s st.who stamp (begin ++ (answers ++ all_in_turn (release s ∷ []) (fold after later answers))) laws.region script is shard is.who_is
    (then_plain (FindsShard lists s mid) c v mid begin (answers ++ all_in_turn (release s ∷ []) (fold after later answers)) begins last))
    (λ e. plain_if (FindsShard lists s st) c v st [] (node_none c v st is))
  where
    answered : (x : Node) → IsSoundNode c x → NodeKeeps c v x (by_region (post x.region.who from (body.ShardStarted s)) ∷ [])
    answered x k = subst (λ w. NodeKeeps c v x (by_region (post w from (body.ShardStarted s)) ∷ [])) (sym k.region_who) (answer_node c v x from (body.ShardStarted s) laws.region script k node shard)
