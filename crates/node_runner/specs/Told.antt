-- What a turn told, and what others may see of it.
use Rattle.std.specs.Prelude.{◌≡◌, ◌⊎◌, true, List, [], ◌∷◌, Some}
use Rattle.yard_model.specs.declared.fact.Fact.{Fact}
use Rattle.yard_model.specs.declared.incarnation.Slot.{Slot}
use Rattle.yard_model.specs.declared.out.Item.{Item}
use Rattle.yard_model.specs.declared.out.Item.TheVariants as item
use Rattle.yard_model.specs.Genuine.{is_slot_of}
use Rattle.yard_model.specs.Node.{Node}
use Rattle.yard_model.specs.Script.{Script, Setting, setting}
use Rattle.yard_model.specs.Trace.{slot_of}
use Rattle.actor_laws.specs.Hands.{held_list}
use Rattle.shard_store.specs.Stores.{place_of}
use Rattle.lease_table.specs.Leasing.{Pass}
use Rattle.lease_table.specs.Lists.{seen_at}

-- an entry of this slot is among the items
abbrev pub IsTold : Setting → Slot → List Item → Type 0
IsTold set s [] = ⊥
IsTold set s (item.Fact f ∷ is) = (slot_of set f ≡ Some s) ⊎ IsTold set s is
IsTold set s (item.Post p ∷ is) = IsTold set s is

-- where the node holds this slot, its pass has seen the list that the node has
abbrev pub IsShownAt : Script → Pass → Node → Slot → Type 0
IsShownAt c p st s = (list : List Fact) → is_slot_of c s ≡ true → held_list s st ≡ Some list → seen_at p.view.seen (place_of c.config s) ≡ list

-- so it is of each slot of which no entry is among the items
abbrev pub AreShownBut : Script → Pass → Node → List Item → Type 0
AreShownBut c p st items = (s : Slot) (list : List Fact) → is_slot_of c s ≡ true → held_list s st ≡ Some list → (seen_at p.view.seen (place_of c.config s) ≡ list) ⊎ IsTold (setting c) s items

-- what the one pass has so seen the other has too
abbrev pub StayShown : Script → Pass → Pass → Node → Type 0
StayShown c p q st = (s : Slot) (list : List Fact) → is_slot_of c s ≡ true → held_list s st ≡ Some list → seen_at p.view.seen (place_of c.config s) ≡ list → seen_at q.view.seen (place_of c.config s) ≡ list

-- each slot of which an entry is among the items is shown
abbrev pub AreToldShown : Script → Pass → Node → List Item → Type 0
AreToldShown c p st items = (s : Slot) → IsTold (setting c) s items → IsShownAt c p st s
