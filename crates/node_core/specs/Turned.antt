-- What an input, and the end, gives of a node.
use Rattle.std.specs.Prelude.{◌≡◌, false, List, [], ◌++◌, map, fold, IsTrue}
use Rattle.yard_model.specs.declared.incarnation.Slot.{Slot}
use Rattle.yard_model.specs.declared.out.Item.{Item}
use Rattle.yard_model.specs.declared.out.Item.TheVariants as item
use Rattle.yard_model.specs.Genuine.{is_slot_of}
use Rattle.yard_model.specs.Node.{Act, after, items_of, crash}
use Rattle.yard_model.specs.Script.{Script, setting}
use Rattle.yard_model.specs.SlotLists.{SlotLists}
use Rattle.yard_model.specs.Trace.{lists_step}
use Rattle.shard_lease.specs.Meaning.{Meaning, Stays}
use Rattle.actor_laws.specs.Hands.{AreInHand}
use Rattle.actor_laws.specs.Owes.{Hand}
use Rattle.node_laws.specs.NodeFound.{NodeKeepsIf, Finds, AreLawful}
use Rattle.node_laws.specs.NodeStands.{NodeInHand}
use Rattle.node_laws.specs.NodeTurns.{CrashIs}
use Rattle.node_core.specs.Found.{AreThere, AreElseOthers}
use Rattle.node_core.specs.Gave.{Moment, ForLists, AreOthersSame, lists_after}
use Rattle.node_core.specs.Leased.{Rests, Tells}

-- lists as a node may find them: its own in hand, each lawful by itself, and what it doesn't hold held by others that may
pub record MayFind (m : Meaning) (c : Script) (lists : SlotLists) (now : Moment) : Type 0 where
  pub there : AreThere c lists
  pub hands_are : AreInHand c lists now.node
  pub lawful : AreLawful c lists
  pub others_are : AreElseOthers m c lists now.node

-- it told the acts of the definition's turn, and is after them
pub record Turned (c : Script) (acts : SlotLists → List Act) (old new : Moment) : Type 0 where
  pub told : List Act
  pub items_are : new.items ≡ old.items ++ items_of told
  pub node_is : new.node ≡ fold after old.node told
  -- so for any lists that the leases tell; they tell them with its entries then, and it has its own in hand
  pub acts_are : ForLists c old (λ lists. acts lists ≡ told)
  pub tells : ForLists c old (λ lists. Tells new.meaning c (lists_after c lists told))
  pub in_hand : ForLists c old (λ lists. AreInHand c (lists_after c lists told) new.node)
  -- and whatever they tell, for some lists, as it found them
  pub lists : SlotLists
  pub found : MayFind old.meaning c lists old
  pub found_acts : acts lists ≡ told
  -- for all lawful lists for which they are: it stands again, its posts are its own and genuine, and each fact is guarded by what it has in hand
  pub keeps : (found : SlotLists) → AreLawful c found → acts found ≡ told → NodeKeepsIf (Finds found old.node) c old.meaning.vouches old.node told
  pub rests : Rests new.meaning c new.node
  pub stays : Stays old.meaning new.meaning
  pub others : AreOthersSame old.node.who.node old.meaning new.meaning

-- every slot that it held is freed as its list stood, and each may be
pub record Ended (c : Script) (old : Moment) (meaning : Meaning) (items : List Item) : Type 0 where
  pub items_are : items ≡ old.items ++ map item.Fact (crash old.node)
  pub tells : ForLists c old (λ lists. Tells meaning c (fold (lists_step (setting c)) lists (crash old.node)))
  pub free : (s : Slot) → IsTrue (is_slot_of c s) → meaning.holds old.node.who.node s ≡ false
  pub keeps : (h : Hand) → NodeInHand c h old.node → CrashIs c old.meaning.vouches old.node (record { lists = h.lists; live = []; version = h.version }) (crash old.node)
  pub stays : Stays old.meaning meaning
  pub others : AreOthersSame old.node.who.node old.meaning meaning
