-- What becomes of an answer about the coordinator's slot.
use Rattle.std.specs.Prelude.{◌≡◌, ◌≤◌, List, [], ◌∷◌, ◌++◌, Option, Some, None}
use Rattle.yard_model.specs.declared.fact.Fact.TheVariants as fact
use Rattle.yard_model.specs.declared.incarnation.Incarnation.{Incarnation}
use Rattle.yard_model.specs.declared.incarnation.Slot.TheVariants as slot
use Rattle.yard_model.specs.declared.out.Item.{Item}
use Rattle.yard_model.specs.declared.out.Item.TheVariants as item
use Rattle.yard_model.specs.Coordinator.{new_coordinator}
use Rattle.yard_model.specs.Script.{Script, setting}
use Rattle.yard_model.specs.SlotReads.{holder, epoch}
use Rattle.coordinator_actor.specs.Held.{Held}
use Rattle.shard_store.specs.declared.store.Store.{Store}
use Rattle.shard_store.specs.Stores.{script_of, slot_of, entries_of, spare_of}
use Rattle.shard_lease.specs.declared.leases.Acquire.{Acquire}
use Rattle.shard_lease.specs.declared.leases.Acquire.TheVariants as answer

-- a store of the coordinator's slot, that is leased to this incarnation
pub record IsGrantOf (c : Script) (who : Incarnation) (x : Store) : Type 0 where
  pub script_is : script_of x ≡ c
  pub slot_is : slot_of x ≡ slot.Coordinator
  pub spare_is : 99 ≤ spare_of x
  pub leased : holder (entries_of x) ≡ Some who

abbrev pub IsGrant : Script → Incarnation → Acquire → Type 0
IsGrant c who (answer.Granted x) = IsGrantOf c who x
IsGrant c who (answer.Held h) = Unit {0}

-- where it is granted it is told, and the coordinator is there; else it is told who holds it
abbrev pub Took : Script → Incarnation → Acquire → Option Held → List Item → List Item → Type 0
Took c who (answer.Granted x) office before now = (office ≡ Some (record { script = script_of x; state = new_coordinator (setting c) who (entries_of x); spare = spare_of x; places = 0 })) × (now ≡ before ++ item.Fact (fact.Granted slot.Coordinator (epoch (entries_of x)) who) ∷ [])
Took c who (answer.Held h) office before now = (office ≡ None) × (now ≡ before ++ item.Fact (fact.Held slot.Coordinator who h) ∷ [])

abbrev pub IsGranted : Acquire → Type 0
IsGranted (answer.Granted x) = Unit {0}
IsGranted (answer.Held h) = ⊥
