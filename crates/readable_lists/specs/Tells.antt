-- Different lists have different texts.
use Rattle.std.specs.Prelude.{◌≡◌, true}
use Rattle.yard_model.specs.declared.incarnation.Slot.{Slot}
use Rattle.yard_model.specs.Genuine.{is_slot_of}
use Rattle.yard_model.specs.Script.{IsScript, Script, setting}
use Rattle.yard_model.specs.SlotLists.{SlotLists}
use Rattle.yard_model.specs.Text.{lists_text}
use Rattle.yard_model.specs.Trace.{list_at}
use Rattle.readable_lists.specs.Readable.{AreReadable}

-- lists that have one text are the same in each of the script's slots
abbrev pub TextsTellLists : Type 0
TextsTellLists = (c : Script) (l m : SlotLists) → IsScript c → AreReadable c l → AreReadable c m → lists_text (setting c) l ≡ lists_text (setting c) m → (s : Slot) → is_slot_of c s ≡ true → list_at l s ≡ list_at m s
