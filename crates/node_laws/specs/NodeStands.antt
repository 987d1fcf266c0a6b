-- What stands of a node by itself between its rules: its actors stand, and are of one incarnation. What a rule keeps and tells.
use Rattle.std.specs.Prelude.{Bool, false, ◌≡◌, ℕ, ◌-◌, ◌<◌, true, length, Some, IfSome}
use Rattle.std.specs.List.{list_all}
use Rattle.yard_model.specs.declared.fact.Fact.{Fact}
use Rattle.yard_model.specs.declared.fact.Fact.TheVariants as fact
use Rattle.yard_model.specs.declared.incarnation.Incarnation.{Incarnation}
use Rattle.yard_model.specs.Coordinator.{Coordinator}
use Rattle.yard_model.specs.Genuine.{is_node}
use Rattle.yard_model.specs.Members.{are_of_different_nodes}
use Rattle.yard_model.specs.Node.{Node}
use Rattle.yard_model.specs.Producer.{Producer}
use Rattle.yard_model.specs.Script.{Script, setting}
use Rattle.yard_model.specs.SlotLists.{queue_list}
use Rattle.yard_model.specs.SlotReads.{regions}
use Rattle.yard_model.specs.Words.{at, is_among, is_same}
use Rattle.actor_laws.specs.Owes.{Hand}
use Rattle.actor_laws.specs.CoordinatorStands.{IsGoodCoordinator}
use Rattle.actor_laws.specs.EntitiesStand.{IsEntities, InHand}
use Rattle.actor_laws.specs.ProducerStands.{IsProducer}
use Rattle.actor_laws.specs.RegionStands.{IsRegion}

-- a producer of a node, at its place
pub record IsProducerAt (c : Script) (who : Incarnation) (p : ℕ) (k : Producer) : Type 0 where
  pub stands : IsProducer c k
  pub who_is : k.who ≡ who
  pub number_is : k.number ≡ p

pub record IsCoordinatorAt (c : Script) (who : Incarnation) (k : Coordinator) : Type 0 where
  pub sound : IsGoodCoordinator c k
  pub who_is : k.who ≡ who

pub record IsSoundNode (c : Script) (st : Node) : Type 0 where
  pub who_is : is_node c st.who ≡ true
  pub set_is : st.set ≡ setting c
  pub region : IsRegion c st.region
  pub region_who : st.region.who ≡ st.who
  pub different : are_of_different_nodes st.region.view ≡ true
  pub entities : IsEntities c st.entities
  pub entities_who : st.entities.who ≡ st.who
  pub producers_full : length st.producers ≡ c.config.producers
  pub producers : (p : ℕ) (k : Producer) → 0 < p → at st.producers (p - 1) ≡ Some k → IsProducerAt c st.who p k
  pub coordinator : IfSome st.coordinator (IsCoordinatorAt c st.who)

-- where it is the coordinator, each registered region is in its view: so between any two inputs
abbrev pub IsViewed : Node → Type 0
IsViewed st = IfSome st.coordinator (λ k. list_all (λ r. is_among r st.region.view) (regions k.entries) ≡ true)

-- what the node has in hand: the lists of the slots that it holds, and the names that are live at it
pub record NodeInHand (c : Script) (h : Hand) (st : Node) : Type 0 where
  pub entities : InHand c h st.entities
  pub queues_there : length h.lists.queues ≡ c.config.producers
  pub producers : (p : ℕ) (k : Producer) → 0 < p → at st.producers (p - 1) ≡ Some k → queue_list h.lists p ≡ k.entries
  pub coordinator : IfSome st.coordinator (λ k. h.lists.coordinator ≡ k.entries)

-- where a fact tells of the incarnation that does something, it tells of this one; and none tells that one is up or gone, or that shards or versions are others
abbrev pub is_own_fact : Incarnation → Fact → Bool
is_own_fact who (fact.Up x) = false
is_own_fact who (fact.Gone x) = false
is_own_fact who (fact.Reshard n k) = false
is_own_fact who (fact.Resharded s n k) = false
is_own_fact who (fact.Upgrade v) = false
is_own_fact who (fact.View x v) = is_same x who
is_own_fact who (fact.Home x s k) = is_same x who
is_own_fact who (fact.Forget x s) = is_same x who
is_own_fact who (fact.Kept x m) = is_same x who
is_own_fact who (fact.Dropped x m) = is_same x who
is_own_fact who (fact.Stashed x m) = is_same x who
is_own_fact who (fact.Held s x n) = is_same x who
is_own_fact who (fact.Start x e) = is_same x who
is_own_fact who (fact.Active x e n s) = is_same x who
is_own_fact who (fact.Stop x e) = is_same x who
is_own_fact who (fact.WriteFailed x e) = is_same x who
is_own_fact who (fact.Granted s n x) = is_same x who
is_own_fact who f = true
