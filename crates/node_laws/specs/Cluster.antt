-- All nodes together, and the trace of what they told.
use Rattle.yard_laws.specs.Guarded.{GoesSafely}
use Rattle.yard_model.specs.Era.{version_in}
use Rattle.std.specs.Prelude.{◌≡◌, ℕ, ◌+◌, ◌<◌, true, false, List, [], length, ◌∷◌, ◌++◌, fold, Option, None, Some, is_some, slice_set, not}
use Rattle.std.specs.List.{list_all}
use Rattle.yard_model.specs.declared.fact.Fact.{Fact}
use Rattle.yard_model.specs.declared.fact.Fact.TheVariants as fact
use Rattle.yard_model.specs.declared.input.Input.{Input}
use Rattle.yard_model.specs.Node.{Node, Act, after, items_of, turn, crash, new_node}
use Rattle.yard_model.specs.Genuine.{is_node, is_slot_of}
use Rattle.yard_model.specs.declared.incarnation.Incarnation.{Incarnation}
use Rattle.yard_model.specs.declared.incarnation.Slot.{Slot}
use Rattle.yard_model.specs.Safe.{live_at}
use Rattle.yard_model.specs.Guards.{guarded, opens}
use Rattle.yard_model.specs.Script.{Script, IsScript, setting, is_version}
use Rattle.yard_model.specs.SlotLists.{SlotLists}
use Rattle.yard_model.specs.SlotReads.{holder}
use Rattle.yard_model.specs.Trace.{lists_of, list_at}
use Rattle.yard_model.specs.Words.{is_among, at}
use Rattle.yard_model.specs.World.{all_sends}
use Rattle.yard_laws.specs.Free.{is_free}
use Rattle.actor_laws.specs.Hands.{held_list}
use Rattle.actor_laws.specs.Owes.{Hand, facts_in}
use Rattle.node_laws.specs.NodeStands.{IsSoundNode, IsViewed}
use Rattle.node_laws.specs.NodeTurns.{MayTake}
use Rattle.node_laws.specs.Traces.{recorded, HasInHand}

-- a node at its place, with its part of the trace in hand
pub record IsMember (c : Script) (trace : List Fact) (k : ℕ) (st : Node) : Type 0 where
  pub node_is : st.who.node ≡ k + 1
  pub sound : IsSoundNode c st
  pub viewed : IsViewed st
  pub hand : Hand
  pub has : HasInHand c trace st hand

-- a node of this incarnation is up, and has the store of this slot in hand
pub record IsHeldBy (nodes : List (Option Node)) (s : Slot) (x : Incarnation) : Type 0 where
  pub place : ℕ
  pub st : Node
  pub here : at nodes place ≡ Some st
  pub who_is : st.who ≡ x
  pub held : is_some (held_list s st) ≡ true

-- so is each slot by its holder
abbrev pub AreHeld : Script → SlotLists → List (Option Node) → Type 0
AreHeld c lists nodes = (s : Slot) (x : Incarnation) → is_slot_of c s ≡ true → holder (list_at lists s) ≡ Some x → IsHeldBy nodes s x

-- the trace is guarded, each node that is up stands by it, and who holds a slot is up
pub record IsCluster (c : Script) (trace : List Fact) (nodes : List (Option Node)) : Type 0 where
  pub guarded_are : guarded c trace ≡ true
  pub members : (k : ℕ) (st : Node) → at nodes k ≡ Some st → IsMember c trace k st
  pub held : AreHeld c (lists_of (setting c) trace) nodes

-- a turn of one of them, with the leases of the trace; what a packet confirms is recorded in it
abbrev pub ClusterTurns : Type 0
ClusterTurns = (c : Script) (trace : List Fact) (nodes : List (Option Node)) (k : ℕ) (st : Node) (i : Input) → IsScript c → IsCluster c trace nodes → at nodes k ≡ Some st → MayTake c (recorded c trace) st i
    → let acts : List Act = turn (all_sends c) (lists_of (setting c) trace) i st in IsCluster c (trace ++ facts_in (items_of acts)) (slice_set nodes k (Some (fold after st acts)))

-- the crash of one of them
abbrev pub ClusterLoses : Type 0
ClusterLoses = (c : Script) (trace : List Fact) (nodes : List (Option Node)) (k : ℕ) (st : Node) → IsCluster c trace nodes → at nodes k ≡ Some st → IsCluster c (trace ++ (fact.Gone st.who ∷ crash st)) (slice_set nodes k None)

-- facts of no slot, that tell nothing of live entities, wherever they come from
abbrev pub ClusterHears : Type 0
ClusterHears = (c : Script) (trace : List Fact) (nodes : List (Option Node)) (fs : List Fact) → list_all is_free fs ≡ true → IsCluster c trace nodes → IsCluster c (trace ++ fs) nodes

-- a node comes up at its place, which is free, with the version in force, and nothing is live at its incarnation
abbrev pub ClusterGains : Type 0
ClusterGains = (c : Script) (trace : List Fact) (nodes : List (Option Node)) (k : ℕ) (who : Incarnation) → is_node c who ≡ true → who.node ≡ k + 1 → k < length nodes → at nodes k ≡ None → ((e : List ℕ) → is_among who (live_at e trace) ≡ false)
    → is_version c (version_in trace) ≡ true → IsCluster c trace nodes → IsCluster c trace (slice_set nodes k (Some (new_node (setting c) (version_in trace) who)))

-- before any node is up, with a guarded trace after which no slot is held: the empty one, or facts that lead to given lists
abbrev pub ClusterBegins : Type 0
ClusterBegins = (c : Script) (trace : List Fact) (nodes : List (Option Node)) → guarded c trace ≡ true → ((s : Slot) → is_slot_of c s ≡ true → holder (list_at (lists_of (setting c) trace) s) ≡ None)
    → ((k : ℕ) (st : Node) → at nodes k ≡ Some st → ⊥) → IsCluster c trace nodes

-- what was told since an earlier trace of it is safe at each prefix, within the era
abbrev pub ClusterIsSafe : Type 0
ClusterIsSafe = (c : Script) (trace fs : List Fact) (nodes : List (Option Node)) → guarded c trace ≡ true → list_all (λ f. not (opens f)) fs ≡ true → IsCluster c (trace ++ fs) nodes → GoesSafely c trace fs

-- another version comes into force while no node is up
abbrev pub ClusterUpgrades : Type 0
ClusterUpgrades = (c : Script) (trace : List Fact) (nodes : List (Option Node)) (v : ℕ) → ((k : ℕ) (st : Node) → at nodes k ≡ Some st → ⊥) → IsCluster c trace nodes → IsCluster c (trace ++ fact.Upgrade v ∷ []) nodes
