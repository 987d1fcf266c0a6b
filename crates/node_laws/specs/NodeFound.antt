-- What a node keeps where it asks for leases: with hands that agree with the lists that it finds.
use Rattle.std.specs.Prelude.{◌≡◌, ℕ, ◌-◌, Bool, true, List, fold, None}
use Rattle.std.specs.List.{list_all}
use Rattle.yard_model.specs.declared.incarnation.Slot.TheVariants as slot
use Rattle.yard_model.specs.Entities.{hosted}
use Rattle.yard_model.specs.Genuine.{is_shard, is_producer}
use Rattle.yard_model.specs.Lawful.{own}
use Rattle.yard_model.specs.Node.{Node, Act, after, items_of}
use Rattle.yard_model.specs.Script.{Script}
use Rattle.yard_model.specs.SlotLists.{SlotLists, shard_list, queue_list}
use Rattle.yard_model.specs.Words.{at}
use Rattle.actor_laws.specs.Owes.{Hand, facts_in, hand_after, guarded_in_hand, is_own_post}
use Rattle.actor_laws.specs.Held.{held_in_hand}
use Rattle.node_laws.specs.NodeStands.{is_own_fact, IsSoundNode, NodeInHand}

-- after these acts it stands; what they post is its own; what they tell of an incarnation is of its own; and with hands of this kind each fact is guarded by what it has in hand, which goes along
pub record NodeKeepsIf (P : Hand → Type 0) (c : Script) (vouches : List ℕ → ℕ → ℕ → Bool) (st : Node) (acts : List Act) : Type 0 where
  pub stands : IsSoundNode c (fold after st acts)
  pub posts_are : list_all (is_own_post c st.who) (items_of acts) ≡ true
  pub own_are : list_all (is_own_fact st.who) (facts_in (items_of acts)) ≡ true
  pub held_are : (h : Hand) → NodeInHand c h st → P h → held_in_hand c st.who h (facts_in (items_of acts)) ≡ true
  pub guarded_are : (h : Hand) → NodeInHand c h st → P h → guarded_in_hand c vouches st.who h (facts_in (items_of acts)) ≡ true
  pub goes_along : (h : Hand) → NodeInHand c h st → P h → NodeInHand c (fold (hand_after c) h (facts_in (items_of acts))) (fold after st acts)

-- what is in hand of a slot that the node doesn't hold is what it finds
abbrev pub FindsOffice : SlotLists → Node → Hand → Type 0
FindsOffice lists st h = st.coordinator ≡ None → h.lists.coordinator ≡ lists.coordinator

abbrev pub FindsShard : SlotLists → ℕ → Node → Hand → Type 0
FindsShard lists s st h = hosted st.entities s ≡ None → shard_list h.lists s ≡ shard_list lists s

abbrev pub FindsQueue : SlotLists → ℕ → Node → Hand → Type 0
FindsQueue lists p st h = at st.producers (p - 1) ≡ None → queue_list h.lists p ≡ queue_list lists p

pub record Finds (lists : SlotLists) (st : Node) (h : Hand) : Type 0 where
  pub office : FindsOffice lists st h
  pub shards : (s : ℕ) → FindsShard lists s st h
  pub queues : (p : ℕ) → FindsQueue lists p st h

-- the lists that it finds are lawful
pub record AreLawful (c : Script) (lists : SlotLists) : Type 0 where
  pub coordinator : own c slot.Coordinator lists.coordinator ≡ true
  pub shards : (s : ℕ) → is_shard c s ≡ true → own c (slot.Shard s) (shard_list lists s) ≡ true
  pub queues : (p : ℕ) → is_producer c p ≡ true → own c (slot.Queue p) (queue_list lists p) ≡ true
