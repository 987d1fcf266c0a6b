-- What a log comes to: the lists of its entries, with what was held freed.
use Rattle.std.specs.Prelude.{◌≡◌, ◌<◌, ◌≤◌, ℕ, ◌-◌, Bool, true, false, ◌&&◌, nat_le, List, [], ◌∷◌, ◌++◌, length, map, take, fold, Option, Some, None, if◌then◌else◌}
use Rattle.std.specs.List.{flat_map, list_all}
use Rattle.yard_model.specs.declared.fact.Fact.{Fact}
use Rattle.yard_model.specs.declared.fact.Fact.TheVariants as fact
use Rattle.yard_model.specs.declared.incarnation.Cause.TheVariants as cause
use Rattle.yard_model.specs.declared.incarnation.Slot.{Slot}
use Rattle.yard_model.specs.declared.incarnation.Slot.TheVariants as slot
use Rattle.yard_model.specs.Follow.{each_follows}
use Rattle.yard_model.specs.Genuine.{is_slot_of}
use Rattle.yard_model.specs.Lawful.{is_held, lawful}
use Rattle.yard_model.specs.Limits.{number_limit}
use Rattle.yard_model.specs.Script.{Script, setting}
use Rattle.yard_model.specs.Setting.{shards, producers}
use Rattle.yard_model.specs.SlotLists.{SlotLists}
use Rattle.yard_model.specs.SlotReads.{epoch}
use Rattle.yard_model.specs.Trace.{list_at, lists_of, slot_of, with_entry}

-- all entries, in order
abbrev pub entries : List (List Fact) → List Fact
entries batches = flat_map (λ b. b) batches

-- it is a slot of the script
abbrev pub has_slot : Script → Option Slot → Bool
has_slot c None = false
has_slot c (Some s) = is_slot_of c s

-- an entry may stand behind these: its slot is the script's, and the lists with it are lawful
abbrev pub is_taken : Script → List Fact → Fact → Bool
is_taken c before f = has_slot c (slot_of (setting c) f) && lawful c (lists_of (setting c) (before ++ f ∷ []))

-- each may stand behind those before it
abbrev pub are_taken : Script → List Fact → Bool
are_taken c facts = each_follows (is_taken c) [] facts

-- batch k, from 1, is the first with an entry that may not
pub record IsForeign (c : Script) (batches : List (List Fact)) (k : ℕ) : Type 0 where
  pub first : 0 < k
  pub there : k ≤ length batches
  pub before : are_taken c (entries (take (k - 1) batches)) ≡ true
  pub with_it : are_taken c (entries (take k batches)) ≡ false

-- the slots of a script
abbrev pub slots : Script → List Slot
slots c = map slot.Shard (shards (setting c)) ++ slot.Coordinator ∷ map slot.Queue (producers (setting c))

-- with an entry more that frees the slot, where it is held
abbrev pub freed : SlotLists → Slot → SlotLists
freed lists s =
    if is_held (list_at lists s) then with_entry (fact.Freed s (epoch (list_at lists s)) cause.Stopped) lists (Some s) else lists

-- Restored: the lists of all entries, and each open grant is freed
abbrev pub restored : Script → List (List Fact) → SlotLists
restored c batches = fold freed (lists_of (setting c) (entries batches)) (slots c)

-- an incarnation that was granted a slot, or registered, has a number within the limit
abbrev pub is_numbered : Fact → Bool
is_numbered (fact.Granted s n x) = nat_le x.number number_limit
is_numbered (fact.Registered x) = nat_le x.number number_limit
is_numbered f = true

-- lists that a run may go on from: lawful, nobody holds a slot, and numbers are within the limit
pub record MayGoOn (c : Script) (lists : SlotLists) : Type 0 where
  pub lawful_is : lawful c lists ≡ true
  pub unheld : (s : Slot) → is_slot_of c s ≡ true → is_held (list_at lists s) ≡ false
  pub numbered : (s : Slot) → is_slot_of c s ≡ true → list_all is_numbered (list_at lists s) ≡ true
