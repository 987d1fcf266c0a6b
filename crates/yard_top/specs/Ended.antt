-- How the program ends on its arguments.
use Rattle.std.specs.Prelude.{◌≡◌, ◌<◌, ◌↔◌, ℕ, Bool, Option}
use Rattle.yard_io.specs.Told.{followed_by, count_of}
use Rattle.yard_model.specs.Text.{Bytes}
use Rattle.program_words.specs.declared.forms.Form.{Form}
use Rattle.program_words.specs.Notices.{text_of}
use Rattle.program_words.specs.declared.notice.Notice.{Notice}
use Rattle.program_words.specs.declared.status.Status.{Status}
use Rattle.program_words.specs.declared.status.Status.TheVariants as status
use Rattle.yard_top.specs.Disks.{IfNoDisk, IfNoScript, OnDisk, Platter}
use Rattle.yard_top.specs.Ends.{EndsOf, IsComplete, NoneFell, ReadsNoMore, Streams, Taken}
use Rattle.yard_top.specs.Safely.{IsSafely}

-- the end of a run on words that are this form, if they are one: what the top call says of it; `same` says that the disk is as it was
pub record Ended (form : Option Form) (tells : Bool) (old new : Streams) (disk after : Platter) (same : Type 0) (result : Status) : Type 0 where
  pub ends : EndsOf form old new result
  pub number_reads_nothing : ReadsNoMore form old new
  pub safely : IsSafely form old new result
  pub complete : IsComplete form old new result
  pub faults : NoneFell old new
  pub on_disk : OnDisk form tells old new disk after result
  pub no_disk : IfNoDisk form same
  pub untouched : IfNoScript result same

-- the two ends of a notice of this text: it was written and flushed with status 0, or a write failed
abbrev pub IsTold : Bytes → Taken → Taken → ℕ → ℕ → Status → Type 0
IsTold text before after faults faults_after status.Ok = (after.bytes ≡ followed_by before.bytes text) × (after.flushed ≡ count_of after.bytes)
IsTold text before after faults faults_after status.WriteFault = faults < faults_after
IsTold text before after faults faults_after s = ⊥

-- this notice was asked for: nothing was read, the disk is as it was, and the notice's text was told
pub record Noticed (notice : Notice) (old new : Streams) (same : Type 0) (result : Status) : Type 0 where
  pub left_is : new.left ≡ old.left
  pub read_faults_are : new.read_faults ≡ old.read_faults
  pub disk_is : same
  pub told : IsTold (text_of notice) old.taken new.taken old.write_faults new.write_faults result

-- the two ends without words
abbrev pub IsEndWithoutWords : Status → Type 0
IsEndWithoutWords status.OutOfMemory = Unit {0}
IsEndWithoutWords status.Usage = Unit {0}
IsEndWithoutWords s = ⊥

-- there are no words: nothing was read or written, and the disk is as it was
pub record HasNoWords (old new : Streams) (is_memory same_disk : Type 0) (result : Status) : Type 0 where
  pub same : new ≡ old
  pub disk_is : same_disk
  pub memory : (result ≡ status.OutOfMemory) ↔ is_memory
  pub ends : IsEndWithoutWords result
