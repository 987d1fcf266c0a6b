-- What the moves of a coordinator owe of guards, whatever else its node has in hand.
use Rattle.std.specs.Prelude.{◌≡◌, ℕ, Bool, List, fold, IsTrue}
use Rattle.yard_model.specs.declared.incarnation.Incarnation.{Incarnation}
use Rattle.yard_model.specs.Script.{Script}
use Rattle.yard_model.specs.Move.{Move}
use Rattle.yard_model.specs.Coordinator.{Coordinator, coordinator_after}
use Rattle.actor_laws.specs.Owes.{Hand, hand_after, guarded_in_hand}
use Rattle.actor_laws.specs.Moves.{facts_of}
use Rattle.actor_laws.specs.CoordinatorStands.{KeepsCoordinator}

-- each fact is guarded by what is in hand when it is told; afterwards the slot's list in hand is the coordinator's, and the rest of the hand is as it was
pub record IsGuarded (c : Script) (vouches : List ℕ → ℕ → ℕ → Bool) (who : Incarnation) (h : Hand) (st : Coordinator) (ms : List Move) : Type 0 where
  pub guarded_are : IsTrue (guarded_in_hand c vouches who h (facts_of ms))
  pub hand_is : fold (hand_after c) h (facts_of ms) ≡ record h { lists = record h.lists { coordinator = (fold coordinator_after st ms).entries } }

-- moves that keep what stands are guarded where the slot's list in hand is the coordinator's
abbrev pub CoordinatorIsGuarded : Type 0
CoordinatorIsGuarded = (c : Script) (vouches : List ℕ → ℕ → ℕ → Bool) (who : Incarnation) (h : Hand) (st : Coordinator) (ms : List Move) → KeepsCoordinator c st ms → h.lists.coordinator ≡ st.entries → IsGuarded c vouches who h st ms
