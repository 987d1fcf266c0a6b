-- The rules of a coordinator: most tell free facts alone; one that registers a region or allocates a shard keeps its list lawful.
use Rattle.std.specs.Prelude.{ℕ, ◌<◌, List, length, fold, is_none, is_some, IsTrue}
use Rattle.std.specs.List.{list_all}
use Rattle.yard_model.specs.declared.incarnation.Incarnation.{Incarnation}
use Rattle.yard_model.specs.declared.incarnation.Stamp.{Stamp}
use Rattle.yard_model.specs.declared.incarnation.Slot.TheVariants as slot
use Rattle.yard_model.specs.Script.{Script}
use Rattle.yard_model.specs.Genuine.{is_node, is_shard}
use Rattle.yard_model.specs.Lawful.{own, is_held}
use Rattle.yard_model.specs.SlotReads.{regions, allocation}
use Rattle.yard_model.specs.Coordinator as coordinator
use Rattle.yard_model.specs.Coordinator.{Coordinator, coordinator_step}
use Rattle.yard_laws.specs.Free.{is_free_move}

-- what these rules give is free
pub record IsCoordinatorFree (st : Coordinator) : Type 0 where
  pub rebalances : (limit : ℕ) → IsTrue (list_all is_free_move (coordinator.rebalance limit st))
  pub ticks : IsTrue (list_all is_free_move (coordinator.tick_coordinator st))
  pub tells : (from : Incarnation) (s : ℕ) → IsTrue (list_all is_free_move (coordinator.tell_home from s st))
  pub starts : (from : Incarnation) (s : ℕ) → IsTrue (list_all is_free_move (coordinator.shard_started from s st))
  pub quits : (from : Incarnation) → IsTrue (list_all is_free_move (coordinator.quit from st))
  pub acknowledges : (from : Incarnation) (s : ℕ) (stamp : Stamp) → IsTrue (list_all is_free_move (coordinator.acknowledge from s stamp st))

abbrev pub CoordinatorIsFree : Type 0
CoordinatorIsFree = (st : Coordinator) → IsCoordinatorFree st

-- a coordinator that holds its slot, and whose list is lawful by itself
pub record IsCoordinatorHeld (c : Script) (st : Coordinator) : Type 0 where
  pub own_is : IsTrue (own c slot.Coordinator st.entries)
  pub held_is : IsTrue (is_held st.entries)

-- it keeps that where it registers a region of the script's nodes while there is room, and where it allocates a shard without a home
pub record KeepsHomes (c : Script) (st : Coordinator) : Type 0 where
  pub registers : (from : Incarnation) (view : List Incarnation) → IsTrue (is_node c from) → length (regions st.entries) < 16 → IsTrue (own c slot.Coordinator (fold coordinator_step st.entries (coordinator.register_from from view st)))
  pub allocates : (s : ℕ) → IsTrue (is_shard c s) → IsTrue (is_none (allocation s st.entries)) → IsTrue (own c slot.Coordinator (fold coordinator_step st.entries (coordinator.allocate s st)))

abbrev pub CoordinatorKeepsHomes : Type 0
CoordinatorKeepsHomes = (c : Script) (st : Coordinator) → IsCoordinatorHeld c st → KeepsHomes c st

-- and where it terminates the regions that are not in the view, where a shard with a home has stopped, and where it is asked for the home of a shard
pub record KeepsList (c : Script) (st : Coordinator) : Type 0 where
  pub terminates : (view : List Incarnation) → IsTrue (own c slot.Coordinator (fold coordinator_step st.entries (coordinator.terminate_lost view st)))
  pub stops : (from : Incarnation) (s : ℕ) (stamp : Stamp) → IsTrue (is_shard c s) → IsTrue (is_some (allocation s st.entries)) → IsTrue (own c slot.Coordinator (fold coordinator_step st.entries (coordinator.shard_stopped from s stamp st)))
  pub gets : (from : Incarnation) (s : ℕ) → IsTrue (is_shard c s) → IsTrue (own c slot.Coordinator (fold coordinator_step st.entries (coordinator.get_home from s st)))

abbrev pub CoordinatorKeepsList : Type 0
CoordinatorKeepsList = (c : Script) (st : Coordinator) → IsCoordinatorHeld c st → KeepsList c st
