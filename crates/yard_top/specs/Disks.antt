-- What `log`, `resume` and `apply` do with a disk, and what a crash leaves of it.
use Rattle.std.specs.Prelude.{◌≡◌, ◌<◌, ◌≤◌, ◌⊎◌, ℕ, Bool, true, List, [], length, take, Option, Some, IfSome, IsTrue}
use Rattle.yard_io.specs.Told.{TakesFront, followed_by}
use Rattle.script_text.specs.Reading.{Spelled, reading}
use Rattle.script_text.specs.declared.fault.Mode.TheVariants as mode
use Rattle.yard_model.specs.declared.fact.Fact.{Fact}
use Rattle.yard_model.specs.Script.{Script}
use Rattle.yard_model.specs.Text.{Bytes}
use Rattle.yard_model.specs.World.{trace_of}
use Rattle.disk_log.specs.Images.{Images, LeavesOnly, Only, SameNow}
use Rattle.disk_log.specs.Spelled.{IsDamaged, Spells, SpellsPrefix}
use Rattle.log_resume.specs.Restored.{are_taken, entries}
use Rattle.logged_lines.specs.Logged.{IsFresh, LogEnds, batches_of}
use Rattle.resume_run.specs.ResumeText.{IsForeignLog, Resumes}
use Rattle.apply_run.specs.Applying.{Applied, GoesOnAs, StaysAs}
use Rattle.run_parts.specs.Stops.{stop_in}
use Rattle.program_words.specs.declared.forms.Form.{Form}
use Rattle.program_words.specs.declared.forms.Form.TheVariants as form
use Rattle.program_words.specs.declared.status.Status.{Status}
use Rattle.program_words.specs.declared.status.Status.TheVariants as status
use Rattle.yard_top.specs.Ends.{Began, CameScript, IsUnwritten, NoneRose, Streams, end_of, most_read}

-- a disk: what reads give, what a crash may leave, and its faults so far
pub record Platter : Type 1 where
  pub content : List ℕ
  pub images : Images
  pub faults : ℕ

abbrev pub platter : List ℕ → Images → ℕ → Platter
platter content images faults = record { content = content; images = images; faults = faults }

-- nothing of it was changed
pub record IsKept (disk after : Platter) : Type 0 where
  pub content_stays : after.content ≡ disk.content
  pub images_stay : SameNow disk.images after.images

-- `log`.

-- a crash at any moment leaves nothing while there is no script; of a script it leaves the batches of its first orders
abbrev pub AnyMoment : Streams → Streams → Platter → Platter → Type 0
AnyMoment old new disk after =
    LeavesOnly disk.images after.images (λ c. c ≡ [])
    ⊎ ((c : Script) × CameScript mode.Log old.left new.left c × LeavesOnly disk.images after.images (SpellsPrefix (batches_of c) 0))

-- at the end, where nothing was written, nothing is left; else each crash leaves the batch of each order of which a line was written
abbrev pub AtExit : Streams → Streams → Platter → Type 0
AtExit old new after =
    (IsUnwritten old new × Only [] after.images)
    ⊎ ((c : Script) × CameScript mode.Log old.left new.left c × LogEnds c old.taken.bytes new.taken.bytes after.images)

-- the ends that a disk gives
abbrev pub LogEndsAs : Bool → Streams → Streams → Platter → Platter → Status → Type 0
LogEndsAs tells old new disk after status.DiskFault = (disk.faults < after.faults) × Began form.Log old.left new.left old.taken new.taken
LogEndsAs tells old new disk after status.LogThere = (IsTrue tells → 0 < length disk.content) × IsUnwritten old new × IsKept disk after
LogEndsAs tells old new disk after (status.LogDamaged at) = ⊥
LogEndsAs tells old new disk after (status.LogForeign batch) = ⊥
LogEndsAs tells old new disk after s = Unit {0}

-- with an empty disk a script is carried out, and with any other there is a log already; or there is no memory
abbrev pub IsLogged : Script → List ℕ → Status → Type 0
IsLogged c [] s = (s ≡ end_of (stop_in (trace_of c))) ⊎ (s ≡ status.OutOfMemory)
IsLogged c content s = (s ≡ status.LogThere) ⊎ (s ≡ status.OutOfMemory)

pub record LogEnded (tells : Bool) (old new : Streams) (disk after : Platter) (s : Status) : Type 0 where
  pub any_moment : IsTrue tells → Only [] disk.images → AnyMoment old new disk after
  pub at_exit : IsTrue tells → IsFresh disk.content disk.images → AtExit old new after
  pub ends : LogEndsAs tells old new disk after s
  pub never_falls : disk.faults ≤ after.faults
  pub complete : NoneRose old new → after.faults ≡ disk.faults → IsTrue tells
      → IfSome old.left (λ xs. (c : Script) → reading mode.Log (take most_read xs) ≡ Spelled c → IsLogged c disk.content s)

-- `resume`.

-- there is a script, and what was written and flushed is the text of what the disk has
pub record Resumed (tells : Bool) (old new : Streams) (content : List ℕ) : Type 0 where
  pub script : Script
  pub came : CameScript mode.Log old.left new.left script
  pub text : Bytes
  pub is_text : Resumes tells content script text
  pub written : new.taken.bytes ≡ followed_by old.taken.bytes text

-- there is a script, and an entry of this batch, from 1, is the first that no run of the script leaves there
abbrev pub IsOfAnother : Bool → Streams → Streams → List ℕ → ℕ → Type 0
IsOfAnother tells old new content batch = (c : Script) × CameScript mode.Log old.left new.left c × IsForeignLog tells content c batch

abbrev pub ResumeEndsAs : Bool → Streams → Streams → Platter → Platter → Status → Type 0
ResumeEndsAs tells old new disk after status.Ok = Resumed tells old new disk.content
ResumeEndsAs tells old new disk after status.DiskFault = (disk.faults < after.faults) × IsUnwritten old new
ResumeEndsAs tells old new disk after status.LogThere = ⊥
ResumeEndsAs tells old new disk after (status.LogDamaged at) = (IsTrue tells → IsDamaged disk.content at) × IsUnwritten old new
ResumeEndsAs tells old new disk after (status.LogForeign batch) = IsOfAnother tells old new disk.content batch × IsUnwritten old new
ResumeEndsAs tells old new disk after s = Unit {0}

pub record ResumeEnds (tells : Bool) (old new : Streams) (disk after : Platter) (s : Status) : Type 0 where
  pub ends : ResumeEndsAs tells old new disk after s
  pub content_stays : after.content ≡ disk.content
  pub images_stay : SameNow disk.images after.images
  pub never_falls : disk.faults ≤ after.faults
  pub complete : NoneRose old new → after.faults ≡ disk.faults → IsTrue tells
      → IfSome old.left (λ xs. (c : Script) (logged : List (List Fact)) → reading mode.Log (take most_read xs) ≡ Spelled c → Spells disk.content logged
      → are_taken c (entries logged) ≡ true → (s ≡ status.Ok) ⊎ (s ≡ status.OutOfMemory))

-- `apply`.

-- there is a script; each crash leaves the log with the run's batch, in which each send of the script is queued, recorded once and in order, and confirmed; and what was written and flushed is the report of that
pub record AppliedAll (tells : Bool) (old new : Streams) (disk after : Platter) : Type 0 where
  pub script : Script
  pub came : CameScript mode.Log old.left new.left script
  pub text : Bytes
  pub applied : Applied tells disk.content after.images script text
  pub written : new.taken.bytes ≡ followed_by old.taken.bytes text

-- the same, of which a front was written
pub record AppliedSome (tells : Bool) (old new : Streams) (disk after : Platter) : Type 0 where
  pub script : Script
  pub came : CameScript mode.Log old.left new.left script
  pub text : Bytes
  pub applied : Applied tells disk.content after.images script text
  pub begun : TakesFront old.taken.bytes new.taken.bytes text

-- a crash at any moment leaves what one might have left before, or, of the script that came, that with the run's batch
abbrev pub ApplyMoment : Streams → Streams → Platter → Platter → Type 0
ApplyMoment old new disk after =
    StaysAs disk.content disk.images after.images
    ⊎ ((c : Script) × CameScript mode.Log old.left new.left c × GoesOnAs disk.content disk.images after.images c)

-- where anything was written, each crash leaves all of it
abbrev pub ApplyExit : Bool → Streams → Streams → Platter → Platter → Type 0
ApplyExit tells old new disk after = IsUnwritten old new ⊎ AppliedSome tells old new disk after

-- a crash leaves what one might have left before, and the disk has the bytes that it had
pub record IsAsItWas (tells : Bool) (disk after : Platter) : Type 0 where
  pub content_stays : IsTrue tells → after.content ≡ disk.content
  pub stays : IsTrue tells → StaysAs disk.content disk.images after.images

abbrev pub ApplyEndsAs : Bool → Streams → Streams → Platter → Platter → Status → Type 0
ApplyEndsAs tells old new disk after status.Ok = AppliedAll tells old new disk after
ApplyEndsAs tells old new disk after status.WriteFault = AppliedSome tells old new disk after
ApplyEndsAs tells old new disk after status.OutOfMemory = IsTrue tells → StaysAs disk.content disk.images after.images
ApplyEndsAs tells old new disk after status.DiskFault = (disk.faults < after.faults) × IsUnwritten old new
ApplyEndsAs tells old new disk after status.LogThere = ⊥
ApplyEndsAs tells old new disk after (status.LogDamaged at) = (IsTrue tells → IsDamaged disk.content at) × IsUnwritten old new × IsAsItWas tells disk after
ApplyEndsAs tells old new disk after (status.LogForeign batch) = IsOfAnother tells old new disk.content batch × IsUnwritten old new × IsAsItWas tells disk after
ApplyEndsAs tells old new disk after s = Unit {0}

pub record ApplyEnds (tells : Bool) (old new : Streams) (disk after : Platter) (s : Status) : Type 0 where
  pub any_moment : IsTrue tells → ApplyMoment old new disk after
  pub at_exit : ApplyExit tells old new disk after
  pub ends : ApplyEndsAs tells old new disk after s
  pub never_falls : disk.faults ≤ after.faults
  pub complete : NoneRose old new → after.faults ≡ disk.faults → IsTrue tells
      → IfSome old.left (λ xs. (c : Script) (logged : List (List Fact)) → reading mode.Log (take most_read xs) ≡ Spelled c → Spells disk.content logged
      → are_taken c (entries logged) ≡ true → (s ≡ status.Ok) ⊎ (s ≡ status.OutOfMemory))

-- what a form does with a disk: `log`, `resume` and `apply` alone use one
abbrev pub OnDisk : Option Form → Bool → Streams → Streams → Platter → Platter → Status → Type 0
OnDisk (Some form.Log) tells old new disk after s = LogEnded tells old new disk after s
OnDisk (Some form.Resume) tells old new disk after s = ResumeEnds tells old new disk after s
OnDisk (Some form.Apply) tells old new disk after s = ApplyEnds tells old new disk after s
OnDisk o tells old new disk after s = Unit {0}

-- a fact for words that use no disk
abbrev pub IfNoDisk : Option Form → Type 0 → Type 0
IfNoDisk (Some form.Log) P = Unit {0}
IfNoDisk (Some form.Resume) P = Unit {0}
IfNoDisk (Some form.Apply) P = Unit {0}
IfNoDisk o P = P

-- a fact where there is no script to carry out
abbrev pub IfNoScript : Status → Type 0 → Type 0
IfNoScript status.Usage P = P
IfNoScript (status.Refused line why) P = P
IfNoScript status.ReadFault P = P
IfNoScript s P = Unit {0}
