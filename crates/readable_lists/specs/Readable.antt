-- Lists that a reader reads off their text: each entry is one that its line tells, with numbers that fit what keeps them.
use Rattle.std.specs.Prelude.{◌≡◌, ◌<◌, ◌≤◌, ◌^◌, true, List, [], ◌∷◌, length}
use Rattle.yard_model.specs.declared.fact.Fact.{Fact}
use Rattle.yard_model.specs.declared.fact.Fact.TheVariants as fact
use Rattle.yard_model.specs.declared.incarnation.Slot.{Slot}
use Rattle.yard_model.specs.declared.incarnation.Slot.TheVariants as slot
use Rattle.yard_model.specs.Genuine.{is_slot_of}
use Rattle.yard_model.specs.Script.{Script}
use Rattle.yard_model.specs.SlotLists.{SlotLists}
use Rattle.yard_model.specs.Trace.{list_at}
use Rattle.fact_lines.specs.Readable.{IsReadable}
use Rattle.fact_lines.specs.Reads.{byte, long}

-- an entry of a slot's list that its line tells there. The line of a change of the number of shards doesn't say whose list it stands in: in a shard's list it is that shard's
abbrev pub IsTold : Slot → Fact → Type 0
IsTold (slot.Shard s) (fact.Resharded t n k) = (t ≡ s) × (n ≤ byte) × (k ≤ long)
IsTold (slot.Shard s) (fact.Reshard n k) = ⊥
IsTold s f = IsReadable f

abbrev pub AreTold : Slot → List Fact → Type 0
AreTold s [] = Unit {0}
AreTold s (f ∷ fs) = IsTold s f × AreTold s fs

-- a list of a slot that is read off its text
pub record IsReadableList (s : Slot) (list : List Fact) : Type 0 where
  pub fits : length list < 2 ^ 64
  pub each : AreTold s list

-- so is the list of each of the script's slots
abbrev pub AreReadable : Script → SlotLists → Type 0
AreReadable c lists = (s : Slot) → is_slot_of c s ≡ true → IsReadableList s (list_at lists s)
