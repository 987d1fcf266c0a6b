-- What acts of a node keep that ask for no lease.
use Rattle.std.specs.Prelude.{◌≡◌, ℕ, Bool, true, List, fold}
use Rattle.std.specs.List.{list_all}
use Rattle.yard_model.specs.Node.{Node, Act, after, items_of}
use Rattle.yard_model.specs.Script.{Script}
use Rattle.actor_laws.specs.Owes.{Hand, facts_in, hand_after, guarded_in_hand, is_own_post}
use Rattle.actor_laws.specs.Held.{held_in_hand}
use Rattle.node_laws.specs.NodeStands.{is_own_fact, IsSoundNode, NodeInHand}

-- after these acts it stands; what they post is its own; and each fact is guarded by what it has in hand, which goes along
pub record NodeKeeps (c : Script) (vouches : List ℕ → ℕ → ℕ → Bool) (st : Node) (acts : List Act) : Type 0 where
  pub stands : IsSoundNode c (fold after st acts)
  pub posts_are : list_all (is_own_post c st.who) (items_of acts) ≡ true
  pub own_are : list_all (is_own_fact st.who) (facts_in (items_of acts)) ≡ true
  pub held_are : (h : Hand) → NodeInHand c h st → held_in_hand c st.who h (facts_in (items_of acts)) ≡ true
  pub guarded_are : (h : Hand) → NodeInHand c h st → guarded_in_hand c vouches st.who h (facts_in (items_of acts)) ≡ true
  pub goes_along : (h : Hand) → NodeInHand c h st → NodeInHand c (fold (hand_after c) h (facts_in (items_of acts))) (fold after st acts)
