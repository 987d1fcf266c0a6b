-- What a node has in hand, of a trace: so facts that are guarded by what it has in hand are guarded after that trace.
use Rattle.yard_model.specs.Era.{version_in}
use Rattle.std.specs.Prelude.{◌≡◌, ℕ, Bool, true, false, nat_le, List, ◌++◌, fold}
use Rattle.std.specs.List.{list_all}
use Rattle.yard_model.specs.declared.fact.Fact.{Fact}
use Rattle.yard_model.specs.declared.incarnation.Incarnation.{Incarnation}
use Rattle.yard_model.specs.declared.input.Input.{Input}
use Rattle.yard_model.specs.Node.{Node, Act, after, items_of, turn}
use Rattle.yard_model.specs.Safe.{live_at, shard_list_of}
use Rattle.yard_model.specs.Guards.{guarded}
use Rattle.yard_model.specs.Script.{Script, IsScript, setting}
use Rattle.yard_model.specs.SlotReads.{journal, position}
use Rattle.yard_model.specs.Trace.{lists_of}
use Rattle.yard_model.specs.Words.{is_same, is_among}
use Rattle.yard_model.specs.World.{all_sends}
use Rattle.actor_laws.specs.Owes.{Hand, has_name, facts_in, hand_after, guarded_in_hand, is_own_post}
use Rattle.actor_laws.specs.Held.{held_in_hand}
use Rattle.node_laws.specs.NodeStands.{is_own_fact, IsSoundNode, IsViewed, NodeInHand}
use Rattle.node_laws.specs.NodeTurns.{MayTake}

-- its lists and its version are the trace's, and its live names are those that the trace says are live at this incarnation
pub record IsHandOf (c : Script) (trace : List Fact) (who : Incarnation) (h : Hand) : Type 0 where
  pub lists_are : h.lists ≡ lists_of (setting c) trace
  pub version_is : h.version ≡ version_in trace
  pub live_are : (e : List ℕ) → has_name e h.live ≡ is_among who (live_at e trace)

-- a number that is vouched for is recorded, and stays so
abbrev pub AreVouched : Script → List Fact → (List ℕ → ℕ → ℕ → Bool) → Type 0
AreVouched c trace vouches = (more : List Fact) → guarded c (trace ++ more) ≡ true → (e : List ℕ) (p n : ℕ) → vouches e p n ≡ true → nat_le n (position p (journal e (shard_list_of c e (trace ++ more)))) ≡ true

-- a number is recorded in its entity's journal
abbrev pub recorded : Script → List Fact → List ℕ → ℕ → ℕ → Bool
recorded c trace e p n = nat_le n (position p (journal e (shard_list_of c e trace)))

-- what is recorded stays so: a trace vouches for it
abbrev pub RecordedStays : Type 0
RecordedStays = (c : Script) (trace : List Fact) → AreVouched c trace (recorded c trace)

pub record GoesOn (c : Script) (trace : List Fact) (who : Incarnation) (h : Hand) (fs : List Fact) : Type 0 where
  pub guarded_are : guarded c (trace ++ fs) ≡ true
  pub in_hand : IsHandOf c (trace ++ fs) who (fold (hand_after c) h fs)

-- facts of a node
abbrev pub HandIsGuarded : Type 0
HandIsGuarded = (c : Script) (trace : List Fact) (who : Incarnation) (vouches : List ℕ → ℕ → ℕ → Bool) (h : Hand) (fs : List Fact) → guarded c trace ≡ true → AreVouched c trace vouches → IsHandOf c trace who h
    → guarded_in_hand c vouches who h fs ≡ true → list_all (is_own_fact who) fs ≡ true → GoesOn c trace who h fs

-- a turn of a node with the leases of the trace
pub record TurnGoesOn (c : Script) (trace : List Fact) (vouches : List ℕ → ℕ → ℕ → Bool) (h : Hand) (st : Node) (acts : List Act) : Type 0 where
  pub stands : IsSoundNode c (fold after st acts)
  pub viewed : IsViewed (fold after st acts)
  pub goes_on : GoesOn c trace st.who h (facts_in (items_of acts))
  pub holds : NodeInHand c (fold (hand_after c) h (facts_in (items_of acts))) (fold after st acts)
  pub in_hand : guarded_in_hand c vouches st.who h (facts_in (items_of acts)) ≡ true
  pub own_are : list_all (is_own_fact st.who) (facts_in (items_of acts)) ≡ true
  pub held_are : held_in_hand c st.who h (facts_in (items_of acts)) ≡ true
  pub posts_are : list_all (is_own_post c st.who) (items_of acts) ≡ true

abbrev pub TurnIsGuarded : Type 0
TurnIsGuarded = (c : Script) (trace : List Fact) (vouches : List ℕ → ℕ → ℕ → Bool) (h : Hand) (st : Node) (i : Input) → IsScript c → IsSoundNode c st → IsViewed st → MayTake c vouches st i
    → guarded c trace ≡ true → AreVouched c trace vouches → IsHandOf c trace st.who h → NodeInHand c h st
    → TurnGoesOn c trace vouches h st (turn (all_sends c) (lists_of (setting c) trace) i st)

-- a node has its part of a trace in hand
pub record HasInHand (c : Script) (trace : List Fact) (st : Node) (h : Hand) : Type 0 where
  pub of_trace : IsHandOf c trace st.who h
  pub holds : NodeInHand c h st

-- facts of one incarnation leave what every other node has in hand, with the lists of the longer trace
abbrev pub OthersHold : Type 0
OthersHold = (c : Script) (trace : List Fact) (who : Incarnation) (vouches : List ℕ → ℕ → ℕ → Bool) (h : Hand) (fs : List Fact) (st : Node) (g : Hand) → guarded c trace ≡ true → AreVouched c trace vouches → IsHandOf c trace who h
    → guarded_in_hand c vouches who h fs ≡ true → list_all (is_own_fact who) fs ≡ true → held_in_hand c who h fs ≡ true
    → IsSoundNode c st → is_same st.who who ≡ false → HasInHand c trace st g → HasInHand c (trace ++ fs) st (record { lists = lists_of (setting c) (trace ++ fs); live = g.live; version = g.version })
