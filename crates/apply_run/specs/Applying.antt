-- What a run of `apply` does with a log, and what it writes of it.
use Rattle.std.specs.Prelude.{◌≡◌, ◌≤◌, ◌⊎◌, ℕ, Bool, true, List, [], ◌++◌, length, IsTrue, if◌then◌else◌}
use Rattle.yard_model.specs.declared.fact.Fact.{Fact}
use Rattle.yard_model.specs.Script.{Script, setting}
use Rattle.yard_model.specs.SlotLists.{SlotLists}
use Rattle.yard_model.specs.Text.{Bytes, report}
use Rattle.yard_model.specs.World.{settled_from}
use Rattle.disk_log.specs.Images.{Images, LeavesOnly}
use Rattle.disk_log.specs.Spelled.{Spells, SpellsPrefix}
use Rattle.log_resume.specs.Restored.{are_taken, entries, restored}
use Rattle.resume_run.specs.declared.fault.ResumeError.{ResumeError}
use Rattle.resume_run.specs.declared.fault.ResumeError.TheVariants as error
use Rattle.grow_laws.specs.Once.{EachOnce}
use Rattle.apply_laws.specs.Applied.{frees, is_done, lists_in, log_after}

-- what is told of a run: nothing where all is done; else what was held is freed, and all starts anew on node 1 and settles
abbrev pub told_behind : Script → List (List Fact) → List Fact
told_behind c log = if is_done c log then [] else frees c (lists_in c log) ++ (settled_from c 1 (restored c log)).facts

-- and the lists that this leads to; what was held is freed in them
abbrev pub lists_behind : Script → List (List Fact) → SlotLists
lists_behind c log = if is_done c log then restored c log else (settled_from c 1 (restored c log)).world.lists

-- what a disk had: these batches, and each crash would have left at least the first n
pub record Had (content : List ℕ) (images : Images) (log : List (List Fact)) (n : ℕ) : Type 0 where
  pub spelled : Spells content log
  pub within : n ≤ length log
  pub crash : (image : List ℕ) → images.now image → SpellsPrefix log n image

-- Behind a run over this log: each crash leaves it with the run's batch, whose entries may stand behind one another, and
-- in that each send of the script is queued, recorded once and in order, and confirmed. The text is its report.
pub record Holds (tells : Bool) (images : Images) (c : Script) (log : List (List Fact)) (text : Bytes) : Type 0 where
  pub taken : are_taken c (entries (log_after c log)) ≡ true
  pub done : is_done c (log_after c log) ≡ true
  pub once : EachOnce c (lists_in c (log_after c log))
  pub on_disk : IsTrue tells → (image : List ℕ) → images.now image → Spells image (log_after c log)
  pub text_is : text ≡ report (setting c) (lists_in c (log_after c log))

-- the disk had this log
pub record Applied (tells : Bool) (content : List ℕ) (images : Images) (c : Script) (text : Bytes) : Type 0 where
  pub log : List (List Fact)
  pub spelled : IsTrue tells → Spells content log
  pub holds : Holds tells images c log text

-- a crash at any moment leaves what one might have left before, or that with the run's batch
abbrev pub GoesOnAs : List ℕ → Images → Images → Script → Type 0
GoesOnAs content old new c = (log : List (List Fact)) (n : ℕ) → Had content old log n → LeavesOnly old new (SpellsPrefix (log_after c log) n)

-- or without it
abbrev pub StaysAs : List ℕ → Images → Images → Type 0
StaysAs content old new = (log : List (List Fact)) (n : ℕ) → Had content old log n → LeavesOnly old new (SpellsPrefix log n)

-- the log is damaged, or of another script
abbrev pub IsRefusal : ResumeError → Type 0
IsRefusal error.Failed = ⊥
IsRefusal error.OutOfMemory = ⊥
IsRefusal (error.Damaged at) = Unit {0}
IsRefusal (error.Foreign batch) = Unit {0}
