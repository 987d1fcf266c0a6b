-- What `resume` may write of a script and a log.
use Rattle.std.specs.Prelude.{◌≡◌, ℕ, Bool, true, List, ◌++◌, IsTrue}
use Rattle.yard_model.specs.declared.fact.Fact.{Fact}
use Rattle.yard_model.specs.Script.{Script, setting}
use Rattle.yard_model.specs.SlotLists.{SlotLists}
use Rattle.yard_model.specs.Text.{Bytes, lists_text, report}
use Rattle.yard_model.specs.Trace.{lists_of}
use Rattle.disk_log.specs.Spelled.{Spells}
use Rattle.log_resume.specs.Restored.{IsForeign, are_taken, entries, restored}
use Rattle.readable_lists.specs.Readable.{AreReadable}
use Rattle.world_sim.specs.Played.{AreSettled}

-- Each entry of the log may stand behind those before it. First comes the report of exactly the log's lists. Then come
-- lists that go on from these, where what was held is freed: they are lawful, no slot is held, and every send of the
-- script is queued, recorded and confirmed; and their report. A reader reads these lists off the text behind the first
-- report: of each slot no other list has this text (readable_lists: Tells.antt).
pub record ResumeText (c : Script) (log : List (List Fact)) (text : Bytes) : Type 0 where
  pub taken : are_taken c (entries log) ≡ true
  pub lists : SlotLists
  pub settled : AreSettled c (restored c log) lists
  pub readable : AreReadable c lists
  pub text_is : text ≡ report (setting c) (lists_of (setting c) (entries log)) ++ lists_text (setting c) lists

-- it is the text of the batches that the image spells, where the disk tells its bytes
pub record Resumes (tells : Bool) (image : Bytes) (c : Script) (text : Bytes) : Type 0 where
  pub log : List (List Fact)
  pub spells : IsTrue tells → Spells image log
  pub text_of : ResumeText c log text

-- of the batches that the image spells, this one, from 1, is the first with an entry that may not stand behind those before it
pub record IsForeignLog (tells : Bool) (image : Bytes) (c : Script) (batch : ℕ) : Type 0 where
  pub log : List (List Fact)
  pub spells : IsTrue tells → Spells image log
  pub foreign : IsForeign c log batch

-- the text behind the first report, of lists that go on from these
pub record GoneOn (c : Script) (given : SlotLists) (text : Bytes) : Type 0 where
  pub lists : SlotLists
  pub settled : AreSettled c given lists
  pub readable : AreReadable c lists
  pub text_is : text ≡ report (setting c) given ++ lists_text (setting c) lists
