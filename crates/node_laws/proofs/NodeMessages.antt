-- A node's rules that route several messages.
use Rattle.std.proofs.Common.{◌≡◌, ℕ, ◌-◌, List, [], ◌∷◌, refl, true}
use Rattle.std.specs.Prelude.{Bool, ◌==◌, fold, Option, Some, None}
use Rattle.std.specs.List.{list_all}
use Rattle.yard_model.specs.declared.packet.Message.{Message}
use Rattle.yard_model.specs.Genuine.{is_genuine}
use Rattle.yard_model.specs.Move.{released}
use Rattle.yard_model.specs.Node.{Node, Act, by_region, after, is_running, route, release, route_numbers}
use Rattle.yard_model.specs.Producer as producer
use Rattle.yard_model.specs.Producer.{Producer}
use Rattle.yard_model.specs.Region as region
use Rattle.yard_model.specs.Script.{Script, Setting, IsScript}
use Rattle.yard_model.specs.Setting.{shard_of}
use Rattle.yard_model.specs.Turns.{in_turn, for_each, where_some}
use Rattle.yard_model.specs.Words.{at}
use Rattle.plain_laws.proofs.Booleans.{and_both}
use Rattle.actor_laws.specs.EntitiesStand.{EntitiesStandLaw}
use Rattle.actor_laws.specs.Messages.{GenuineIsMessage}
use Rattle.actor_laws.specs.ProducerStands.{is_sent_well}
use Rattle.actor_laws.specs.RegionStands as regions
use Rattle.actor_laws.specs.RegionStands.{is_kept_well}
use Rattle.node_laws.specs.NodeStands.{IsSoundNode}
use Rattle.node_laws.proofs.NodeKeeps.{NodeKeeps}
use Rattle.node_laws.proofs.NodeParts.{node_none, node_both, node_if}
use Rattle.node_laws.proofs.NodeRoutes.{route_node, region_rule}

-- the laws of the actors that routing rests on
pub record RouteLaws : Type 0 where
  pub region : regions.RegionKeeps
  pub entities : EntitiesStandLaw
  pub message : GenuineIsMessage

pub routed_node : (c : Script) (v : List ℕ → ℕ → ℕ → Bool) (st : Node) (m : Message) → RouteLaws → IsScript c → IsSoundNode c st → is_genuine c m ≡ true → NodeKeeps c v st (route m st)
routed_node c v st m laws script is good = route_node c v st m laws.region (laws.entities c st.entities is.entities) script is (laws.message c m script good)

-- a message for each number
pub route_each_node : (c : Script) (v : List ℕ → ℕ → ℕ → Bool) (e : List ℕ) (k : Producer) (ns : List ℕ) (st : Node) → RouteLaws → IsScript c → IsSoundNode c st → list_all (is_sent_well c e k) ns ≡ true
    → NodeKeeps c v st (for_each after (λ n. route (producer.message_of e k n)) ns st)
route_each_node c v e k [] st laws script is good = node_none c v st is
route_each_node c v e k (n ∷ ns) st laws script is good =
    let m : (is_sent_well c e k n ≡ true) × (list_all (is_sent_well c e k) ns ≡ true) = and_both (is_sent_well c e k n) (list_all (is_sent_well c e k) ns) good in
    let acts : List Act = route (producer.message_of e k n) st in
    let first : NodeKeeps c v st acts = routed_node c v st (producer.message_of e k n) laws script is m.0 in
    node_both c v st acts (for_each after (λ n. route (producer.message_of e k n)) ns (fold after st acts)) first (route_each_node c v e k ns (fold after st acts) laws script first.stands m.1)

pub route_numbers_node : (c : Script) (v : List ℕ → ℕ → ℕ → Bool) (p : ℕ) (e : List ℕ) (f : Producer → List ℕ) (st : Node) → RouteLaws → IsScript c → IsSoundNode c st
    → ((k : Producer) → at st.producers (p - 1) ≡ Some k → list_all (is_sent_well c e k) (f k) ≡ true) → NodeKeeps c v st (route_numbers p e f st)
route_numbers_node c v p e f st laws script is good = by (at st.producers (p - 1)) refl
  where
    by : (o : Option Producer) → at st.producers (p - 1) ≡ o → NodeKeeps c v st (where_some (λ k. for_each after (λ n. route (producer.message_of e k n)) (f k) st) o)
    by None h = node_none c v st is
    by (Some k) h = route_each_node c v e k (f k) st laws script is (good k h)

-- the oldest kept message of a shard is taken out
pub released_node : (c : Script) (v : List ℕ → ℕ → ℕ → Bool) (s : ℕ) (st : Node) → RouteLaws → IsScript c → IsSoundNode c st → NodeKeeps c v st (by_region (released s) ∷ [])
released_node c v s st laws script is = let r : regions.Rules c st.region = laws.region c st.region script is.region in region_rule c v st (released s ∷ []) is (r.releases s) refl

-- the kept messages of a shard
pub release_each_node : (c : Script) (v : List ℕ → ℕ → ℕ → Bool) (s : ℕ) (set : Setting) (ms : List Message) (st : Node) → RouteLaws → IsScript c → IsSoundNode c st → list_all (is_kept_well c set s) ms ≡ true
    → NodeKeeps c v st (for_each after (λ m. in_turn after (λ st. by_region (released s) ∷ []) (route m)) ms st)
release_each_node c v s set [] st laws script is good = node_none c v st is
release_each_node c v s set (m ∷ ms) st laws script is good =
    let n : (is_kept_well c set s m ≡ true) × (list_all (is_kept_well c set s) ms ≡ true) = and_both (is_kept_well c set s m) (list_all (is_kept_well c set s) ms) good in
    let genuine : is_genuine c m ≡ true = (and_both (is_genuine c m) (shard_of set m.entity == s) n.0).0 in
    let first : NodeKeeps c v st (by_region (released s) ∷ []) = released_node c v s st laws script is in
    let mid : Node = after st (by_region (released s)) in
    let acts : List Act = by_region (released s) ∷ route m mid in
    let one : NodeKeeps c v st acts = node_both c v st (by_region (released s) ∷ []) (route m mid) first (routed_node c v mid m laws script first.stands genuine) in
    let later : Node = fold after st acts in
    node_both c v st acts (for_each after (λ m. in_turn after (λ st. by_region (released s) ∷ []) (route m)) ms later) one (release_each_node c v s set ms later laws script one.stands n.1)

pub release_node : (c : Script) (v : List ℕ → ℕ → ℕ → Bool) (s : ℕ) (st : Node) → RouteLaws → IsScript c → IsSoundNode c st → NodeKeeps c v st (release s st)
release_node c v s st laws script is =
    let k : regions.IsRegion c st.region = is.region in
    node_if c v st (region.is_routable st.region s (is_running st s)) (for_each after (λ m. in_turn after (λ st. by_region (released s) ∷ []) (route m)) (region.kept_of st.region.kept s) st) []
    (λ b. release_each_node c v s st.region.set (region.kept_of st.region.kept s) st laws script is (k.kept_are s)) (λ b. node_none c v st is)
