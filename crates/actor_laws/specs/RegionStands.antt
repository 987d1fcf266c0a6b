-- What stands of a region between its rules, and that each rule keeps it, posts only its own and tells only free facts of its own.
use Rattle.std.specs.Prelude.{◌≡◌, ℕ, Bool, true, false, ◌==◌, ◌&&◌, List, [], ◌∷◌, ◌++◌, length, fold, Some, IfSome, IsTrue}
use Rattle.std.specs.List.{list_all, slice_get}
use Rattle.yard_model.specs.declared.fact.Fact.{Fact}
use Rattle.yard_model.specs.declared.fact.Fact.TheVariants as fact
use Rattle.yard_model.specs.declared.incarnation.Incarnation.{Incarnation}
use Rattle.yard_model.specs.declared.incarnation.Stamp.{Stamp}
use Rattle.yard_model.specs.declared.packet.Body.{Body}
use Rattle.yard_model.specs.declared.packet.Message.{Message}
use Rattle.yard_model.specs.Genuine.{is_node, is_shard, is_genuine, is_genuine_body}
use Rattle.yard_model.specs.Move.{Move, released, post}
use Rattle.yard_model.specs.Region as region
use Rattle.yard_model.specs.Region.{Region, region_after}
use Rattle.yard_model.specs.Script.{Script, Setting, IsScript, setting}
use Rattle.yard_model.specs.Setting.{shard_of}
use Rattle.yard_model.specs.Words.{is_same}
use Rattle.yard_laws.specs.Free.{is_free_move}
use Rattle.actor_laws.specs.Moves.{is_own_move, facts_of}

-- a genuine message of this shard
abbrev pub is_kept_well : Script → Setting → ℕ → Message → Bool
is_kept_well c set s m = is_genuine c m && (shard_of set m.entity == s)

-- what stands of a region between its rules
pub record IsRegion (c : Script) (st : Region) : Type 0 where
  pub who_is : is_node c st.who ≡ true
  pub set_is : st.set ≡ setting c
  pub view_is : IsTrue (list_all (is_node c) st.view)
  -- where it is registered, it is with a node of the script
  pub registered_is : IfSome st.registered (λ x. is_node c x ≡ true)
  pub homes_are : (s : ℕ) (h : Incarnation) → region.home st s ≡ Some h → is_node c h ≡ true
  -- every kept message is genuine and of its shard
  pub kept_are : (s : ℕ) → IsTrue (list_all (is_kept_well c st.set s) (region.kept_of st.kept s))
  -- each table has a place for each shard
  pub homes_full : length st.homes ≡ c.config.shards
  pub marks_full : length st.marks ≡ c.config.shards
  pub asked_full : length st.asked ≡ c.config.shards
  pub kept_full : length st.kept ≡ c.config.shards

-- the facts that a region tells: of its own incarnation
abbrev pub is_region_fact : Incarnation → Fact → Bool
is_region_fact who (fact.View x v) = is_same x who
is_region_fact who (fact.Home x s h) = is_same x who
is_region_fact who (fact.Forget x s) = is_same x who
is_region_fact who (fact.Kept x m) = is_same x who
is_region_fact who (fact.Dropped x m) = is_same x who
is_region_fact who f = false

-- after these moves it stands, and they post only what is its own and tell only free facts, of its own incarnation
pub record KeepsRegion (c : Script) (st : Region) (ms : List Move) : Type 0 where
  pub stands : IsRegion c (fold region_after st ms)
  pub posts_are : IsTrue (list_all (is_own_move c st.who) ms)
  pub free_are : IsTrue (list_all is_free_move ms)
  pub facts_are : list_all (is_region_fact st.who) (facts_of ms) ≡ true

-- its rules, each under what its input promises
pub record Rules (c : Script) (st : Region) : Type 0 where
  pub views : (v : ℕ) (xs : List Incarnation) → IsTrue (list_all (is_node c) xs) → KeepsRegion c st (region.take_view v xs st)
  pub registers : KeepsRegion c st (region.register st)
  pub registered : (from : Incarnation) → is_node c from ≡ true → KeepsRegion c st (region.registered_by from st)
  pub learns : (s : ℕ) (h : Incarnation) (stamp : Stamp) → is_shard c s ≡ true → is_node c h ≡ true → KeepsRegion c st (region.learn s h stamp st)
  pub hands_off : (s : ℕ) (stamp : Stamp) (from : Incarnation) → is_shard c s ≡ true → is_node c from ≡ true → KeepsRegion c st (region.begin_hand_off s stamp from st)
  pub leaves : KeepsRegion c st (region.leave st)
  pub ticks : KeepsRegion c st (region.tick_region st)
  pub routes : (m : Message) → is_genuine c m ≡ true → KeepsRegion c st (region.route_away m st)
  -- the oldest kept message of a shard is taken out, and it is genuine and of that shard
  pub releases : (s : ℕ) → KeepsRegion c st (released s ∷ [])
  pub oldest_kept : (s : ℕ) → IfSome (slice_get (region.kept_of st.kept s) 0) (λ m. (is_genuine c m ≡ true) × (shard_of st.set m.entity ≡ s))
  -- what the node has it answer
  pub answers : (to : Incarnation) (b : Body) → is_node c to ≡ true → is_genuine_body c b ≡ true → KeepsRegion c st (post st.who to b ∷ [])

abbrev pub RegionKeeps : Type 0
RegionKeeps = (c : Script) (st : Region) → IsScript c → IsRegion c st → Rules c st

-- moves that are kept one list after another are kept together
abbrev pub RegionJoins : Type 0
RegionJoins = (c : Script) (st : Region) (xs ys : List Move) → KeepsRegion c st xs → KeepsRegion c (fold region_after st xs) ys → KeepsRegion c st (xs ++ ys)

-- a node that comes up
abbrev pub RegionBegins : Type 0
RegionBegins = (c : Script) (who : Incarnation) → is_node c who ≡ true → IsRegion c (region.new_region (setting c) who)

-- the shard of any name is one of the script's
abbrev pub ShardsAreThere : Type 0
ShardsAreThere = (c : Script) (e : List ℕ) → IsScript c → is_shard c (shard_of (setting c) e) ≡ true
