-- A node's rules of one actor, and routing.
use Rattle.std.proofs.Common.{◌≡◌, ℕ, List, [], ◌∷◌, ◌++◌, length, map, sym, ap, subst, ◌∙◌, refl, true, false}
use Rattle.std.specs.Prelude.{Bool, ◌&&◌, not, nat_lt, sum_by, slice_index_or, Option, Some, None, is_none, if◌then◌else◌}
use Rattle.std.specs.List.{list_all, flat_map}
use Rattle.yard_model.specs.declared.fact.Fact.TheVariants as fact
use Rattle.yard_model.specs.declared.packet.Body.{Body}
use Rattle.yard_model.specs.declared.packet.Body.TheVariants as body
use Rattle.yard_model.specs.declared.packet.Message.{Message}
use Rattle.yard_model.specs.declared.incarnation.Incarnation.{Incarnation}
use Rattle.yard_model.specs.declared.incarnation.Keep.{Keep}
use Rattle.yard_model.specs.declared.incarnation.Stamp.{Stamp}
use Rattle.yard_model.specs.Entities as entities
use Rattle.yard_model.specs.Genuine.{is_node, is_shard, is_brought, is_genuine_body}
use Rattle.yard_model.specs.Members.{are_of_different_nodes}
use Rattle.yard_model.specs.Move.{Move, told, post, marked}
use Rattle.yard_model.specs.Node.{Node, by_region, of_region, of_entities, is_running, route, hand_off}
use Rattle.yard_model.specs.Region as region
use Rattle.yard_model.specs.Region.{Region}
use Rattle.yard_model.specs.Script.{Script, Setting, IsScript}
use Rattle.yard_model.specs.Setting.{shard_of, shards}
use Rattle.yard_model.specs.Words.{is_at, is_same, is_below, is_empty}
use Rattle.plain_laws.proofs.Booleans.{and_both}
use Rattle.plain_laws.proofs.Lists.{all_join, all_if, all_some, all_each}
use Rattle.actor_laws.proofs.Rules.{is_viewless, region_view, register_viewless}
use Rattle.actor_laws.specs.EntitiesStand.{IsEntities, IsMessage, EntityRules}
use Rattle.actor_laws.specs.RegionStands as regions
use Rattle.node_laws.specs.NodeStands.{IsSoundNode}
use Rattle.node_laws.proofs.NodeKeeps.{NodeKeeps}
use Rattle.node_laws.proofs.NodeParts.{node_none, node_if, region_node, entities_node}
use Rattle.actor_laws.proofs.EntitiesStops.{running_hosted}

-- The region's rules but View leave its view.

pub oldest_viewless : (b : Body) (r : Region) → list_all is_viewless (region.post_oldest b r) ≡ true
oldest_viewless b r = all_some is_viewless (λ x. post r.who x b ∷ []) (region.oldest r) (λ x. refl)

keep_viewless : (m : Message) (r : Region) → list_all is_viewless (region.keep m r) ≡ true
keep_viewless m r = all_if is_viewless (nat_lt (sum_by length r.kept) r.set.config.buffer) (told (fact.Kept r.who m) ∷ []) (told (fact.Dropped r.who m) ∷ []) refl refl

pub route_viewless : (m : Message) (r : Region) (o : Option Incarnation) → list_all is_viewless (region.route_by m r o) ≡ true
route_viewless m r None = all_join is_viewless (region.keep m r) (region.ask (shard_of r.set m.entity) r) (keep_viewless m r)
    (all_if is_viewless (slice_index_or r.asked (shard_of r.set m.entity) false) [] (region.post_oldest (body.GetShardHome (shard_of r.set m.entity)) r) refl (oldest_viewless (body.GetShardHome (shard_of r.set m.entity)) r))
route_viewless m r (Some h) = all_if is_viewless (is_same h r.who) (region.keep m r) (post r.who h (body.Sequenced m) ∷ []) (keep_viewless m r) refl

forget_viewless : (s : ℕ) (r : Region) → list_all is_viewless (region.forget s r) ≡ true
forget_viewless s r = all_if is_viewless (is_none (region.home r s)) [] (told (fact.Forget r.who s) ∷ []) refl refl

pub begin_viewless : (s : ℕ) (stamp : Stamp) (from : Incarnation) (r : Region) → list_all is_viewless (region.begin_hand_off s stamp from r) ≡ true
begin_viewless s stamp from r =
    let first : List Move = if is_below (region.mark r s) stamp then marked s stamp ∷ region.forget s r else [] in
    all_if is_viewless (is_below stamp (region.mark r s)) [] (first ++ post r.who from (body.BeginHandOffAck s stamp) ∷ []) refl
    (all_join is_viewless first (post r.who from (body.BeginHandOffAck s stamp) ∷ []) (all_if is_viewless (is_below (region.mark r s) stamp) (marked s stamp ∷ region.forget s r) [] (forget_viewless s r) refl) refl)

pub learn_viewless : (s : ℕ) (h : Incarnation) (stamp : Stamp) (r : Region) → list_all is_viewless (region.learn s h stamp r) ≡ true
learn_viewless s h stamp r = all_if is_viewless (is_at h (region.home r s)) [] (told (fact.Home r.who s h) ∷ []) refl refl

pub tick_viewless : (r : Region) → list_all is_viewless (region.tick_region r) ≡ true
tick_viewless r =
    let mid : List Move = if r.leaving && region.is_some_home r then region.post_oldest body.GracefulShutdownReq r else [] in
    let last : List Move = flat_map (region.ask_again r) (shards r.set) in
    all_join is_viewless (region.register r ++ mid) last
    (all_join is_viewless (region.register r) mid (register_viewless r) (all_if is_viewless (r.leaving && region.is_some_home r) (region.post_oldest body.GracefulShutdownReq r) [] (oldest_viewless body.GracefulShutdownReq r) refl))
    (all_each is_viewless (region.ask_again r) (shards r.set) (λ s. all_if is_viewless (is_none (region.home r s) && not (is_empty (region.kept_of r.kept s))) (region.post_oldest (body.GetShardHome s) r) [] (oldest_viewless (body.GetShardHome s) r) refl))

-- such a rule of the region at its node
pub region_rule : (c : Script) (v : List ℕ → ℕ → ℕ → Bool) (st : Node) (ms : List Move) → IsSoundNode c st → regions.KeepsRegion c st.region ms → list_all is_viewless ms ≡ true → NodeKeeps c v st (map by_region ms)
region_rule c v st ms is k same = region_node c v st ms is k (ap are_of_different_nodes (region_view st.region ms same) ∙ is.different)

pub acknowledged_node : (c : Script) (v : List ℕ → ℕ → ℕ → Bool) (st : Node) (from : Incarnation) → regions.RegionKeeps → IsScript c → IsSoundNode c st → is_node c from ≡ true → NodeKeeps c v st (of_region (region.registered_by from) st)
acknowledged_node c v st from law script is node = let r : regions.Rules c st.region = law c st.region script is.region in region_rule c v st (region.registered_by from st.region) is (r.registered from node) refl

pub begin_hand_off_node : (c : Script) (v : List ℕ → ℕ → ℕ → Bool) (st : Node) (s : ℕ) (stamp : Stamp) (from : Incarnation) → regions.RegionKeeps → IsScript c → IsSoundNode c st → is_shard c s ≡ true → is_node c from ≡ true → NodeKeeps c v st (of_region (region.begin_hand_off s stamp from) st)
begin_hand_off_node c v st s stamp from law script is there node = let r : regions.Rules c st.region = law c st.region script is.region in
    region_rule c v st (region.begin_hand_off s stamp from st.region) is (r.hands_off s stamp from there node) (begin_viewless s stamp from st.region)

pub leave_node : (c : Script) (v : List ℕ → ℕ → ℕ → Bool) (st : Node) → regions.RegionKeeps → IsScript c → IsSoundNode c st → NodeKeeps c v st (of_region region.leave st)
leave_node c v st law script is = let r : regions.Rules c st.region = law c st.region script is.region in region_rule c v st (region.leave st.region) is r.leaves (oldest_viewless body.GracefulShutdownReq st.region)

pub register_node : (c : Script) (v : List ℕ → ℕ → ℕ → Bool) (st : Node) → regions.RegionKeeps → IsScript c → IsSoundNode c st → NodeKeeps c v st (of_region region.register st)
register_node c v st law script is = let r : regions.Rules c st.region = law c st.region script is.region in region_rule c v st (region.register st.region) is r.registers (register_viewless st.region)

pub tick_region_node : (c : Script) (v : List ℕ → ℕ → ℕ → Bool) (st : Node) → regions.RegionKeeps → IsScript c → IsSoundNode c st → NodeKeeps c v st (of_region region.tick_region st)
tick_region_node c v st law script is = let r : regions.Rules c st.region = law c st.region script is.region in region_rule c v st (region.tick_region st.region) is r.ticks (tick_viewless st.region)

-- a post of the node's own
pub answer_node : (c : Script) (v : List ℕ → ℕ → ℕ → Bool) (st : Node) (to : Incarnation) (b : Body) → regions.RegionKeeps → IsScript c → IsSoundNode c st → is_node c to ≡ true → is_genuine_body c b ≡ true → NodeKeeps c v st (by_region (post st.who to b) ∷ [])
answer_node c v st to b law script is node genuine = let r : regions.Rules c st.region = law c st.region script is.region in
    subst (λ w. NodeKeeps c v st (by_region (post w to b) ∷ [])) is.region_who (region_rule c v st (post st.region.who to b ∷ []) is (r.answers to b node genuine) refl)

-- The entities' rules.

pub same_set : (c : Script) (st : Node) → IsSoundNode c st → st.set ≡ st.entities.set
same_set c st is = let e : IsEntities c st.entities = is.entities in is.set_is ∙ sym e.set_is

pub recovered_node : (c : Script) (v : List ℕ → ℕ → ℕ → Bool) (st : Node) (e : List ℕ) → EntityRules c st.entities → IsSoundNode c st → is_brought c e ≡ true → NodeKeeps c v st (of_entities (entities.recovered e) st)
recovered_node c v st e r is brought = entities_node c v st (entities.recovered e st.entities) is (r.recovers e brought)

pub ask_to_passivate_node : (c : Script) (v : List ℕ → ℕ → ℕ → Bool) (st : Node) (e : List ℕ) → EntityRules c st.entities → IsSoundNode c st → is_brought c e ≡ true → NodeKeeps c v st (of_entities (entities.ask_to_passivate e) st)
ask_to_passivate_node c v st e r is brought = entities_node c v st (entities.ask_to_passivate e st.entities) is (r.asks_to_passivate e brought)

pub arm_node : (c : Script) (v : List ℕ → ℕ → ℕ → Bool) (st : Node) (e : List ℕ) (k : Keep) → EntityRules c st.entities → IsSoundNode c st → is_brought c e ≡ true → NodeKeeps c v st (of_entities (entities.arm e k) st)
arm_node c v st e k r is brought = entities_node c v st (entities.arm e k st.entities) is (r.arms e k brought)

pub passivate_node : (c : Script) (v : List ℕ → ℕ → ℕ → Bool) (st : Node) (e : List ℕ) → EntityRules c st.entities → IsSoundNode c st → is_brought c e ≡ true → NodeKeeps c v st (of_entities (entities.passivate e) st)
passivate_node c v st e r is brought = entities_node c v st (entities.passivate e st.entities) is (r.passivates e brought)

pub stop_node : (c : Script) (v : List ℕ → ℕ → ℕ → Bool) (st : Node) (e : List ℕ) → EntityRules c st.entities → IsSoundNode c st → is_brought c e ≡ true → NodeKeeps c v st (of_entities (entities.stop e) st)
stop_node c v st e r is brought = entities_node c v st (entities.stop e st.entities) is (r.stops e brought)

pub tick_entities_node : (c : Script) (v : List ℕ → ℕ → ℕ → Bool) (st : Node) → EntityRules c st.entities → IsSoundNode c st → NodeKeeps c v st (of_entities entities.tick_entities st)
tick_entities_node c v st r is = entities_node c v st (entities.tick_entities st.entities) is r.ticks

pub hand_off_node : (c : Script) (v : List ℕ → ℕ → ℕ → Bool) (st : Node) (s : ℕ) (stamp : Stamp) (from : Incarnation) → regions.RegionKeeps → EntityRules c st.entities → IsScript c → IsSoundNode c st → is_shard c s ≡ true → is_node c from ≡ true → NodeKeeps c v st (hand_off s stamp from st)
hand_off_node c v st s stamp from law r script is there node = node_if c v st (region.takes_hand_off s stamp st.region)
    (if entities.is_hosted st.entities s then of_entities (entities.hand_off s stamp from) st else by_region (post st.who from (body.ShardStopped s stamp)) ∷ []) []
    (λ takes. node_if c v st (entities.is_hosted st.entities s) (of_entities (entities.hand_off s stamp from) st) (by_region (post st.who from (body.ShardStopped s stamp)) ∷ [])
    (λ hosted. entities_node c v st (entities.hand_off s stamp from st.entities) is (r.hands_off s stamp from hosted node))
    (λ gone. answer_node c v st from (body.ShardStopped s stamp) law script is node there))
    (λ not_taken. node_none c v st is)

-- Routing.

pub route_node : (c : Script) (v : List ℕ → ℕ → ℕ → Bool) (st : Node) (m : Message) → regions.RegionKeeps → EntityRules c st.entities → IsScript c → IsSoundNode c st → IsMessage c m → NodeKeeps c v st (route m st)
route_node c v st m law r script is good =
    let s : ℕ = shard_of st.set m.entity in
    let k : regions.Rules c st.region = law c st.region script is.region in
    node_if c v st (region.is_home st.region s && is_running st s) (of_entities (entities.deliver m) st) (of_region (region.route_away m) st)
    (λ here. entities_node c v st (entities.deliver m st.entities) is (r.delivers m good
    (subst (λ (set : Setting). entities.is_hosted st.entities (shard_of set m.entity) ≡ true) (same_set c st is) (running_hosted (entities.hosted st.entities s) (and_both (region.is_home st.region s) (is_running st s) here).1))))
    (λ away. region_rule c v st (region.route_away m st.region) is (k.routes m good.genuine) (route_viewless m st.region (region.home st.region (shard_of st.region.set m.entity))))
