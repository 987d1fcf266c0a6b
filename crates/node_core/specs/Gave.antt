-- What a step of a node gave: from one moment of it to another.
use Rattle.std.specs.Prelude.{◌≡◌, ◌≢◌, ℕ, Bool, false, ◌&&◌, List, [], ◌++◌, map, fold, None, is_none, IsTrue, if◌then◌else◌}
use Rattle.yard_model.specs.declared.incarnation.Slot.{Slot}
use Rattle.yard_model.specs.declared.incarnation.Slot.TheVariants as slot
use Rattle.yard_model.specs.declared.out.Item.{Item}
use Rattle.yard_model.specs.declared.packet.Message.{Message}
use Rattle.yard_model.specs.Genuine.{is_slot_of}
use Rattle.yard_model.specs.Node.{Node, Act, Rule, by_coordinator, acquire, after, is_running, items_of}
use Rattle.yard_model.specs.Region.{is_home, oldest}
use Rattle.yard_model.specs.Script.{Script, setting}
use Rattle.yard_model.specs.Setting.{shard_of}
use Rattle.yard_model.specs.SlotLists.{SlotLists}
use Rattle.yard_model.specs.Trace.{lists_step}
use Rattle.yard_model.specs.Words.{is_at}
use Rattle.shard_lease.specs.Meaning.{Meaning, Stays}
use Rattle.actor_laws.specs.Hands.{held_list, AreInHand}
use Rattle.actor_laws.specs.Owes.{facts_in}
use Rattle.node_core.specs.Found.{asks, AreThere, AreAlike, Found}
use Rattle.node_core.specs.Leased.{Rests, Tells}

-- a node between two steps: what its leases mean, its state, and the items so far
pub record Moment : Type 0 where
  pub meaning : Meaning
  pub node : Node
  pub items : List Item

abbrev pub moment : Meaning → Node → List Item → Moment
moment m st items = record { meaning = m; node = st; items = items }

-- the lists with the entries of these acts
abbrev pub lists_after : Script → SlotLists → List Act → SlotLists
lists_after c lists acts = fold (lists_step (setting c)) lists (facts_in (items_of acts))

-- for any lists that the leases tell and of which the node has its own in hand
abbrev pub ForLists : Script → Moment → (SlotLists → Type 0) → Type 0
ForLists c now P = (lists : SlotLists) → AreThere c lists → Tells now.meaning c lists → AreInHand c lists now.node → P lists

-- nothing is changed of other nodes
abbrev pub AreOthersSame : ℕ → Meaning → Meaning → Type 0
AreOthersSame node old new = (n : ℕ) (s : Slot) → n ≢ node → new.holds n s ≡ old.holds n s

-- a slot that isn't held still isn't, and the same is told of it
pub record IsLeft (old new : Moment) (s : Slot) : Type 0 where
  pub held_is : held_list s new.node ≡ None
  pub tells_is : new.meaning.tells s ≡ old.meaning.tells s

pub record Gave (c : Script) (asked : Slot → Bool) (acts : SlotLists → List Act) (old new : Moment) : Type 0 where
  pub told : List Act
  pub items_are : new.items ≡ old.items ++ items_of told
  pub node_is : new.node ≡ fold after old.node told
  pub found : Found old.meaning c asked acts old.node told
  -- where the leases tell lists, these are alike what it found, and then they tell them with its entries
  pub alike : ForLists c old (λ lists. AreAlike c asked old.node lists found.lists)
  pub tells : ForLists c old (λ lists. Tells new.meaning c (lists_after c lists told))
  pub in_hand : ForLists c old (λ lists. AreInHand c (lists_after c lists told) new.node)
  -- it leaves what it neither holds nor asks for
  pub left : (s : Slot) → IsTrue (is_slot_of c s) → asked s ≡ false → held_list s old.node ≡ None → IsLeft old new s
  pub rests : Rests new.meaning c new.node
  pub stays : Stays old.meaning new.meaning
  pub others : AreOthersSame old.node.who.node old.meaning new.meaning

-- Lead.

-- it is the oldest of its view and isn't the coordinator
abbrev pub is_to_lead : Node → Bool
is_to_lead st = is_at st.who (oldest st.region) && is_none st.coordinator

-- the first part of Lead: it asks for the coordinator's slot
abbrev pub take_lead : SlotLists → Rule
take_lead lists st = if is_to_lead st then map by_coordinator (acquire slot.Coordinator st.who lists.coordinator) else []

abbrev pub office : Slot → Bool
office = asks slot.Coordinator

-- the slot that Lead asks for, if it asks
abbrev pub asks_lead : Node → Slot → Bool
asks_lead st s = is_to_lead st && office s

-- Route.

-- the message's shard is running at this node, which is its home
abbrev pub is_local : Message → Node → Bool
is_local m st = let s : ℕ = shard_of st.set m.entity in is_home st.region s && is_running st s
