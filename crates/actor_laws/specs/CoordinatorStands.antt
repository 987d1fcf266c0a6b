-- A coordinator by itself: what stands of it between its rules, and that each rule keeps it, whatever the other actors and nodes do.
use Rattle.std.specs.Prelude.{◌≡◌, ℕ, ◌<◌, Bool, true, false, ◌&&◌, List, [], ◌∷◌, ◌++◌, length, fold, Option, Some, None, IsTrue}
use Rattle.std.specs.List.{list_all}
use Rattle.yard_model.specs.declared.fact.Fact.{Fact}
use Rattle.yard_model.specs.declared.fact.Fact.TheVariants as fact
use Rattle.yard_model.specs.declared.incarnation.Incarnation.{Incarnation}
use Rattle.yard_model.specs.declared.incarnation.Stamp.{Stamp}
use Rattle.yard_model.specs.declared.incarnation.Slot.TheVariants as slot
use Rattle.yard_model.specs.declared.packet.Body.{Body}
use Rattle.yard_model.specs.Script.{Script, setting}
use Rattle.yard_model.specs.Genuine.{is_node, is_shard, is_genuine_body}
use Rattle.yard_model.specs.Lawful.{own}
use Rattle.yard_model.specs.SlotReads.{holder, regions, allocation}
use Rattle.yard_model.specs.Words.{is_at, is_among}
use Rattle.yard_model.specs.Move.{Move}
use Rattle.yard_model.specs.Coordinator as coordinator
use Rattle.yard_model.specs.Coordinator.{Coordinator, Moving, coordinator_after}
use Rattle.actor_laws.specs.Moves.{is_own_move, facts_of}

-- there is an owner, and it is this home
abbrev pub is_owned : Option Incarnation → Option Incarnation → Bool
is_owned None home = false
is_owned (Some x) home = is_at x home

-- a shard of the open round is the script's, its owner is its home by the list, and those that are awaited are the script's nodes
abbrev pub is_sound_moving : Script → List Fact → Moving → Bool
is_sound_moving c list x = is_shard c x.shard && is_owned x.owner (allocation x.shard list) && list_all (is_node c) x.awaited

-- what stands of a coordinator between its rules: it is a node of the script and holds its slot, its list is lawful by itself, each shard that moves has its owner for its home, and those that leave are the script's nodes
pub record IsGoodCoordinator (c : Script) (st : Coordinator) : Type 0 where
  pub who_is : IsTrue (is_node c st.who)
  pub set_is : st.set ≡ setting c
  pub own_is : IsTrue (own c slot.Coordinator st.entries)
  pub held_is : holder st.entries ≡ Some st.who
  pub moving_is : IsTrue (list_all (is_sound_moving c st.entries) st.moving)
  pub quitting_is : IsTrue (list_all (is_node c) st.quitting)

-- the facts that a coordinator tells
abbrev pub is_coordinator_fact : Fact → Bool
is_coordinator_fact (fact.Registered r) = true
is_coordinator_fact (fact.Terminated r) = true
is_coordinator_fact (fact.Allocated s r) = true
is_coordinator_fact (fact.Deallocated s) = true
is_coordinator_fact (fact.Moving s stamp) = true
is_coordinator_fact fact.Nothing = true
is_coordinator_fact f = false

-- its list after one of them
abbrev pub entered : List Fact → Fact → List Fact
entered old (fact.Registered r) = old ++ fact.Registered r ∷ []
entered old (fact.Terminated r) = old ++ fact.Terminated r ∷ []
entered old (fact.Allocated s r) = old ++ fact.Allocated s r ∷ []
entered old (fact.Deallocated s) = old ++ fact.Deallocated s ∷ []
entered old f = old

-- moves of a coordinator keep it sound, post from it what is made of the script, and tell its facts alone; its list is then the list before with the entries told
pub record KeepsCoordinator (c : Script) (st : Coordinator) (ms : List Move) : Type 0 where
  pub sound : IsGoodCoordinator c (fold coordinator_after st ms)
  pub posts_are : IsTrue (list_all (is_own_move c st.who) ms)
  pub facts_are : IsTrue (list_all is_coordinator_fact (facts_of ms))
  pub list_is : (fold coordinator_after st ms).entries ≡ fold entered st.entries (facts_of ms)

-- what the rules keep: a region of the view is registered already or there is room; the shard that is asked for is the script's
pub record KeepsRules (c : Script) (st : Coordinator) : Type 0 where
  pub terminates : (view : List Incarnation) → KeepsCoordinator c st (coordinator.terminate_lost view st)
  pub registers : (from : Incarnation) (view : List Incarnation) → IsTrue (is_node c from) → (is_among from view ≡ true → is_among from (regions st.entries) ≡ false → length (regions st.entries) < 16) → KeepsCoordinator c st (coordinator.register_from from view st)
  pub gets : (from : Incarnation) (s : ℕ) → IsTrue (is_shard c s) → KeepsCoordinator c st (coordinator.get_home from s st)
  pub starts : (from : Incarnation) (s : ℕ) → KeepsCoordinator c st (coordinator.shard_started from s st)
  pub quits : (from : Incarnation) → KeepsCoordinator c st (coordinator.quit from st)
  pub acknowledges : (from : Incarnation) (s : ℕ) (stamp : Stamp) → KeepsCoordinator c st (coordinator.acknowledge from s stamp st)
  pub stops : (from : Incarnation) (s : ℕ) (stamp : Stamp) → KeepsCoordinator c st (coordinator.shard_stopped from s stamp st)
  pub rebalances : (limit : ℕ) → KeepsCoordinator c st (coordinator.rebalance limit st)
  pub ticks : KeepsCoordinator c st (coordinator.tick_coordinator st)

-- each rule keeps what stands of a coordinator
abbrev pub CoordinatorKeeps : Type 0
CoordinatorKeeps = (c : Script) (st : Coordinator) → IsGoodCoordinator c st → KeepsRules c st

-- and so does any packet for it that is made of the script
abbrev pub CoordinatorTakes : Type 0
CoordinatorTakes = (c : Script) (st : Coordinator) (from : Incarnation) (b : Body) (view : List Incarnation) → IsGoodCoordinator c st → IsTrue (is_node c from) → IsTrue (is_genuine_body c b)
    → (is_among from view ≡ true → is_among from (regions st.entries) ≡ false → length (regions st.entries) < 16) → KeepsCoordinator c st (coordinator.coordinate from b view st)

-- it stands once the slot is granted to a node of the script
abbrev pub CoordinatorBegins : Type 0
CoordinatorBegins = (c : Script) (who : Incarnation) (list : List Fact) → IsTrue (is_node c who) → IsTrue (own c slot.Coordinator list) → holder list ≡ Some who → IsGoodCoordinator c (coordinator.new_coordinator (setting c) who list)
