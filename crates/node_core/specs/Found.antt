-- What a step of a node finds that nobody tells: lists of the slots that it asks for. Its acts depend on these alone.
use Rattle.std.specs.Prelude.{◌≡◌, ◌≢◌, ℕ, Bool, true, false, ◌||◌, ◌==◌, List, length, Option, None, IfSome, IsTrue}
use Rattle.std.specs.Option.{option_map}
use Rattle.yard_model.specs.declared.fact.Fact.{Fact}
use Rattle.yard_model.specs.declared.incarnation.Slot.{Slot}
use Rattle.yard_model.specs.declared.incarnation.Slot.TheVariants as slot
use Rattle.yard_model.specs.Genuine.{is_slot_of}
use Rattle.yard_model.specs.Node.{Node, Act}
use Rattle.yard_model.specs.Script.{Script}
use Rattle.yard_model.specs.SlotLists.{SlotLists}
use Rattle.yard_model.specs.SlotReads.{holder}
use Rattle.yard_model.specs.Trace.{list_at}
use Rattle.shard_lease.specs.Meaning.{Meaning}
use Rattle.actor_laws.specs.Hands.{held_list, AreInHand}
use Rattle.actor_laws.specs.Owes.{AreElseLawful}

-- Which slots a step asks for.

abbrev pub none : Slot → Bool
none s = false

-- this one
abbrev pub asks : Slot → Slot → Bool
asks (slot.Shard s) (slot.Shard t) = s == t
asks slot.Coordinator slot.Coordinator = true
asks (slot.Queue p) (slot.Queue q) = p == q
asks s t = false

abbrev pub either : (Slot → Bool) → (Slot → Bool) → Slot → Bool
either one two s = one s || two s

-- Lists of a slot that one who asks for it can't tell apart.

-- the node that holds the slot
abbrev pub held_at : List Fact → Option ℕ
held_at list = option_map (λ x. x.node) (holder list)

-- the same node holds the slot; where none does, it is the same list
pub record IsAlike (a b : List Fact) : Type 0 where
  pub node_is : held_at a ≡ held_at b
  pub list_is : held_at b ≡ None → a ≡ b

-- so of each slot that is asked for and that the node doesn't hold
abbrev pub AreAlike : Script → (Slot → Bool) → Node → SlotLists → SlotLists → Type 0
AreAlike c asked st a b = (s : Slot) → IsTrue (is_slot_of c s) → asked s ≡ true → held_list s st ≡ None → IsAlike (list_at a s) (list_at b s)

-- each slot has its list
pub record AreThere (c : Script) (lists : SlotLists) : Type 0 where
  pub shards : length lists.shards ≡ c.config.shards
  pub queues : length lists.queues ≡ c.config.producers

-- who holds a slot that the node doesn't hold is of another node, which may have it
abbrev pub AreElseOthers : Meaning → Script → SlotLists → Node → Type 0
AreElseOthers m c lists st = (s : Slot) → IsTrue (is_slot_of c s) → held_list s st ≡ None → IfSome (holder (list_at lists s)) (λ x. (x.node ≢ st.who.node) × (m.admits x.node s ≡ true))

-- there are lists, of which the node has its own in hand, for which these are its acts, and for all that are alike
pub record Found (m : Meaning) (c : Script) (asked : Slot → Bool) (acts : SlotLists → List Act) (st : Node) (told : List Act) : Type 0 where
  pub lists : SlotLists
  pub there : AreThere c lists
  pub hands_are : AreInHand c lists st
  pub else_are : AreElseLawful c lists st
  pub others_are : AreElseOthers m c lists st
  pub same : (alike : SlotLists) → AreAlike c asked st alike lists → acts alike ≡ told
