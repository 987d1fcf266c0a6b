-- Slots that are freed: what is told, and what the leases and the node are then.
use Rattle.std.specs.Prelude.{◌≡◌, ◌+◌, ◌≤◌, Bool, List, [], ◌∷◌, ◌++◌, map, fold, length, true, false, IsTrue, Option, None, MatchOption}
use Rattle.std.specs.List.{flat_map, list_any}
use Rattle.yard_model.specs.declared.fact.Fact.{Fact}
use Rattle.yard_model.specs.declared.fact.Fact.TheVariants as fact
use Rattle.yard_model.specs.declared.incarnation.Cause.TheVariants as cause
use Rattle.yard_model.specs.declared.incarnation.Incarnation.{Incarnation}
use Rattle.yard_model.specs.declared.incarnation.Slot.{Slot}
use Rattle.yard_model.specs.declared.incarnation.Slot.TheVariants as slot
use Rattle.yard_model.specs.declared.out.Item.{Item}
use Rattle.yard_model.specs.declared.out.Item.TheVariants as item
use Rattle.yard_model.specs.Genuine.{is_slot_of}
use Rattle.yard_model.specs.Node.{Node, crash, freed_stopped}
use Rattle.yard_model.specs.Script.{Script, setting}
use Rattle.yard_model.specs.SlotLists.{SlotLists}
use Rattle.yard_model.specs.SlotReads.{epoch}
use Rattle.yard_model.specs.Spared.{Spared}
use Rattle.yard_model.specs.Trace.{lists_step}
use Rattle.yard_model.specs.Turns.{where_some}
use Rattle.shard_lease.specs.Meaning.{Meaning, Stays}
use Rattle.actor_laws.specs.Hands.{held_list, AreInHand}
use Rattle.node_core.specs.Found.{asks}
use Rattle.node_core.specs.Gave.{Moment, moment, ForLists, AreOthersSame}
use Rattle.node_core.specs.Leased.{Rests, IsFreed, Tells}
use Rattle.node_core.specs.Standing.{Standing, IsEnding}

-- the lists with these entries
abbrev pub lists_then : Script → SlotLists → List Fact → SlotLists
lists_then c lists fs = fold (lists_step (setting c)) lists fs

-- from one moment to another these facts were told, each of which frees a slot that was held
pub record LetGo (c : Script) (fs : List Fact) (old new : Moment) : Type 0 where
  pub who_is : new.node.who ≡ old.node.who
  pub items_are : new.items ≡ old.items ++ map item.Fact fs
  pub tells : ForLists c old (λ lists. Tells new.meaning c (lists_then c lists fs))
  pub in_hand : ForLists c old (λ lists. AreInHand c (lists_then c lists fs) new.node)
  pub rests : Rests new.meaning c new.node
  pub stays : Stays old.meaning new.meaning
  pub others : AreOthersSame old.node.who.node old.meaning new.meaning

-- what a crash frees of a slot, and of slots
abbrev pub slot_ends : Slot → Node → List Fact
slot_ends s st = where_some (freed_stopped s) (held_list s st)

abbrev pub slots_end : List Slot → Node → List Fact
slots_end ss st = flat_map (λ s. slot_ends s st) ss

abbrev pub is_in : List Slot → Slot → Bool
is_in ss s = list_any (asks s) ss

-- these slots were freed, as stopped, if they were held, and no other was changed
pub record AreFreed (gone : List Slot) (old new : Standing) (m n : Meaning) (before late : Spared Item) : Type 0 where
  pub script_is : new.script ≡ old.script
  pub goes : LetGo old.script (slots_end gone old.state) (moment m old.state before.items) (moment n new.state late.items)
  pub gone_are : (s : Slot) → IsTrue (is_slot_of old.script s) → is_in gone s ≡ true → held_list s new.state ≡ None
  pub else_are : (s : Slot) → IsTrue (is_slot_of old.script s) → is_in gone s ≡ false → held_list s new.state ≡ held_list s old.state
  pub ending : IsEnding new
  pub room : before.spare ≤ late.spare + length gone

-- the end: all that a crash frees is freed, and the node holds nothing any more
pub record IsGone (c : Script) (old : Moment) (meaning : Meaning) (items : List Item) : Type 0 where
  pub items_are : items ≡ old.items ++ map item.Fact (crash old.node)
  pub tells : ForLists c old (λ lists. Tells meaning c (lists_then c lists (crash old.node)))
  pub free : (s : Slot) → IsTrue (is_slot_of c s) → meaning.holds old.node.who.node s ≡ false
  pub stays : Stays old.meaning meaning
  pub others : AreOthersSame old.node.who.node old.meaning meaning

-- a slot was freed, as stopped, whose list was this
pub record SlotFreed (s : Slot) (who : Incarnation) (list : List Fact) (old new : Meaning) (before late : Spared Item) : Type 0 where
  pub items_are : late.items ≡ before.items ++ item.Fact (fact.Freed s (epoch list) cause.Stopped) ∷ []
  pub spare_is : late.spare + 1 ≡ before.spare
  pub stays : Stays old new
  pub freed : IsFreed old who s (list ++ fact.Freed s (epoch list) cause.Stopped ∷ []) new

-- where it was held
abbrev pub IsSlotFreed : Slot → Incarnation → Option (List Fact) → Meaning → Meaning → Spared Item → Spared Item → Type 0
IsSlotFreed s who o old new before late = MatchOption o ((new ≡ old) × (late ≡ before)) (λ list. SlotFreed s who list old new before late)
