-- What `live` may write of a script. Threads have no common trace, so it is told of the lists that are written.
use Rattle.std.specs.Prelude.{◌≡◌, ℕ, IsTrue}
use Rattle.yard_model.specs.Lawful.{lawful}
use Rattle.yard_model.specs.Script.{Script, setting}
use Rattle.yard_model.specs.Settled.{settled}
use Rattle.yard_model.specs.SlotLists.{SlotLists}
use Rattle.yard_model.specs.Text.{Bytes, lists_text}
use Rattle.yard_model.specs.Workers.{worked}
use Rattle.yard_model.specs.World.{all_sends}
use Rattle.readable_lists.specs.Readable.{AreReadable}

-- lists that may stand at the end of a run in which each node had so many turns at most: they are lawful, so each slot has one holder at a time, who alone writes to it, and each pair's commands are recorded once and in order; every send of the script is queued, recorded and confirmed; and what a steady producer sends was queued by its own node
pub record AreLive (c : Script) (turns : ℕ) (lists : SlotLists) : Type 0 where
  pub lawful_is : IsTrue (lawful c lists)
  pub settled_is : IsTrue (settled c (all_sends c) lists)
  pub worked_is : IsTrue (worked c turns lists)

-- such lists of all slots, and their report. A reader reads them off the text: of each slot no other list has this text (readable_lists: Tells.antt)
pub record LiveText (c : Script) (turns : ℕ) (text : Bytes) : Type 0 where
  pub lists : SlotLists
  pub are_live : AreLive c turns lists
  pub readable : AreReadable c lists
  pub text_is : text ≡ lists_text (setting c) lists
