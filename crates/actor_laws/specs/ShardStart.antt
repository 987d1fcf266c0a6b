-- The start of a shard that a node doesn't hold, by the list that it finds.
use Rattle.std.specs.Prelude.{◌≡◌, ℕ, Bool, true, List, fold, None}
use Rattle.std.specs.List.{list_all}
use Rattle.yard_model.specs.declared.fact.Fact.{Fact}
use Rattle.yard_model.specs.declared.incarnation.Slot.TheVariants as slot
use Rattle.yard_model.specs.Entities as entities
use Rattle.yard_model.specs.Entities.{Entities, hosted, entities_after}
use Rattle.yard_model.specs.Genuine.{is_shard}
use Rattle.yard_model.specs.Lawful.{own}
use Rattle.yard_model.specs.Move.{Move}
use Rattle.yard_model.specs.Node.{acquire}
use Rattle.yard_model.specs.Script.{Script}
use Rattle.yard_model.specs.SlotLists.{shard_list}
use Rattle.yard_model.specs.Turns.{in_turn}
use Rattle.actor_laws.specs.Owes.{Hand, hand_after, guarded_in_hand}
use Rattle.actor_laws.specs.Held.{held_in_hand}
use Rattle.actor_laws.specs.Moves.{is_own_move, facts_of}
use Rattle.actor_laws.specs.EntitiesStand.{IsEntities, InHand, is_entity_fact}

-- as these moves keep what stands, where this is the list that the node found of the shard
pub record KeepsFound (c : Script) (s : ℕ) (list : List Fact) (st : Entities) (ms : List Move) : Type 0 where
  pub stands : IsEntities c (fold entities_after st ms)
  pub posts_are : list_all (is_own_move c st.who) ms ≡ true
  pub facts_are : list_all (is_entity_fact st.who) (facts_of ms) ≡ true
  pub held_are : (h : Hand) → InHand c h st → shard_list h.lists s ≡ list → held_in_hand c st.who h (facts_of ms) ≡ true
  pub guarded_are : (vouches : List ℕ → ℕ → ℕ → Bool) (h : Hand) → InHand c h st → shard_list h.lists s ≡ list → guarded_in_hand c vouches st.who h (facts_of ms) ≡ true
  pub goes_along : (h : Hand) → InHand c h st → shard_list h.lists s ≡ list → InHand c (fold (hand_after c) h (facts_of ms)) (fold entities_after st ms)

-- the shard is acquired, and where it is granted its remembered entities start
abbrev pub ShardStarts : Type 0
ShardStarts = (c : Script) (st : Entities) (s : ℕ) (list : List Fact) → IsEntities c st → hosted st s ≡ None → is_shard c s ≡ true → own c (slot.Shard s) list ≡ true
    → KeepsFound c s list st (in_turn entities_after (λ st. acquire (slot.Shard s) st.who list) (entities.start_remembered s) st)
