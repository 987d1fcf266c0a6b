-- How a run of the program may end, and what each end says.
use Rattle.std.specs.Prelude.{◌≡◌, ◌<◌, ◌≤◌, ◌⊎◌, ℕ, List, length, take, Option, Some, None, IfSome, IsTrue}
use Rattle.yard_io.specs.Told.{followed_by, without_first, count_of, TakesFront}
use Rattle.script_text.specs.Reading.{Reading, Spelled, Refused, reading}
use Rattle.script_text.specs.declared.fault.Mode.{Mode}
use Rattle.script_text.specs.declared.fault.Why.{Why}
use Rattle.yard_model.specs.declared.fact.Fact.{Fact}
use Rattle.yard_model.specs.Script.{Script, setting}
use Rattle.yard_model.specs.Replay.{replay_text}
use Rattle.yard_model.specs.Safe.{safe}
use Rattle.yard_model.specs.Solo.{solo_text}
use Rattle.yard_model.specs.Text.{Bytes, report}
use Rattle.yard_model.specs.World.{trace_of}
use Rattle.play_laws.specs.SafeText.{SafeText}
use Rattle.bulk_gen.specs.Bulk.{bulk_script}
use Rattle.bulk_gen.specs.SummaryText.{summary}
use Rattle.pull_laws.specs.Pulling.{pull_trace}
use Rattle.pull_laws.specs.PullSafe.{pull_safe}
use Rattle.pull_laws.specs.PullText.{pull_text}
use Rattle.daemon_process.specs.Daemon.{expanded}
use Rattle.daemon_process.specs.DaemonText.{daemon_text}
use Rattle.script_text.specs.Fit.{IsFit}
use Rattle.replay_run.specs.Daemons.{DaemonHolds}
use Rattle.live_run.specs.LiveText.{LiveText}
use Rattle.replay_run.specs.Replays.{replay_json}
use Rattle.replay_run.specs.Settling.{EachSettles}
use Rattle.resume_run.specs.ResumeText.{ResumeText}
use Rattle.apply_laws.specs.Applied.{lists_in, log_after}
use Rattle.solo_run.specs.Sound.{IsSound, solo_journal}
use Rattle.run_parts.specs.Stops.{stop_in}
use Rattle.program_words.specs.Forms.{from_of}
use Rattle.program_words.specs.declared.forms.Form.{Form}
use Rattle.program_words.specs.declared.forms.Form.TheVariants as form
use Rattle.program_words.specs.declared.forms.ScriptFrom.{ScriptFrom}
use Rattle.program_words.specs.declared.forms.ScriptFrom.TheVariants as script_from
use Rattle.program_words.specs.declared.status.Status.{Status}
use Rattle.program_words.specs.declared.status.Status.TheVariants as status

-- What a form is to do.

-- this is the text that it writes of a script; of `live`, one of the texts; of `resume` and `apply`, that of some log
abbrev pub IsText : Form → Script → Bytes → Type 0
IsText form.Solo c text = text ≡ solo_text c
IsText form.Replay c text = text ≡ replay_text c
IsText form.ReplayJson c text = text ≡ replay_json c
IsText (form.Bulk n) c text = text ≡ summary n (trace_of c)
IsText (form.Live n s) c text = LiveText c n text
IsText form.Pull c text = text ≡ pull_text c
IsText (form.Daemon n) c text = text ≡ daemon_text n c
IsText form.Log c text = text ≡ replay_text c
IsText form.Resume c text = (log : List (List Fact)) × ResumeText c log text
IsText form.Apply c text = (log : List (List Fact)) × (text ≡ report (setting c) (lists_in c (log_after c log)))

-- what is so of what it writes: each journal is sound; the trace is safe, what is printed is the text of a safe trace, and each settle comes to its end; each job is at one worker at most, and is done before it is confirmed; each instance is live at one node at most; of `live` and `resume` the text says all, of `apply` what stands on the disk
abbrev pub Holds : Form → Script → Type 0
Holds form.Solo c = (e : List ℕ) → IsSound c e (solo_journal c e)
Holds form.Replay c = SafeText c (replay_text c) × IsTrue (safe c (trace_of c)) × EachSettles c
Holds form.ReplayJson c = IsTrue (safe c (trace_of c))
Holds (form.Bulk n) c = IsTrue (safe c (trace_of c))
Holds (form.Live n s) c = Unit {0}
Holds form.Pull c = IsTrue (pull_safe c (pull_trace c))
Holds (form.Daemon n) c = DaemonHolds n c
Holds form.Log c = SafeText c (replay_text c) × IsTrue (safe c (trace_of c)) × EachSettles c
Holds form.Resume c = Unit {0}
Holds form.Apply c = Unit {0}

-- the line with which it stops, where a packet too many would be posted
abbrev pub stops_at : Form → Script → Option ℕ
stops_at form.Solo c = None
stops_at form.Replay c = stop_in (trace_of c)
stops_at form.ReplayJson c = stop_in (trace_of c)
stops_at (form.Bulk n) c = stop_in (trace_of c)
stops_at (form.Live n s) c = None
stops_at form.Pull c = stop_in (pull_trace c)
stops_at (form.Daemon n) c = stop_in (trace_of (expanded n c))
stops_at form.Log c = stop_in (trace_of c)
stops_at form.Resume c = None
stops_at form.Apply c = None

-- the most bytes that are read of an input: one more than a script may have
abbrev pub most_read : ℕ
most_read = 4194305

-- these bytes came of a source, which had and then has these left, where it tells: all to the end of the input, or the most that is read
pub record Came (had has : Option (List ℕ)) (bytes : List ℕ) : Type 0 where
  pub bytes_are : IfSome had (λ xs. bytes ≡ take most_read xs)
  pub end : IfSome had (λ xs. (bytes ≡ xs) ⊎ (length bytes ≡ most_read))
  pub left : has ≡ without_first most_read had

-- what a sink had taken and flushed, where it tells
pub record Taken : Type 0 where
  pub bytes : Option (List ℕ)
  pub flushed : Option ℕ

-- a source and a sink: what is left to be read and what was taken, where they tell, and their faults so far
pub record Streams : Type 0 where
  pub left : Option (List ℕ)
  pub read_faults : ℕ
  pub taken : Taken
  pub write_faults : ℕ

abbrev pub streams : Option (List ℕ) → ℕ → Option (List ℕ) → Option ℕ → ℕ → Streams
streams left read_faults bytes flushed write_faults =
    record { left = left; read_faults = read_faults; taken = record { bytes = bytes; flushed = flushed }; write_faults = write_faults }

-- nothing was written
abbrev pub IsUnwritten : Streams → Streams → Type 0
IsUnwritten old new = new.taken ≡ old.taken

-- nothing was read
abbrev pub IsUnread : Streams → Streams → Type 0
IsUnread old new = (new.left ≡ old.left) × (new.read_faults ≡ old.read_faults)

-- a script came, of this command
pub record CameScript (m : Mode) (had has : Option (List ℕ)) (script : Script) : Type 0 where
  pub input : List ℕ
  pub came : Came had has input
  pub all : IfSome had (λ xs. input ≡ xs)
  pub spelled : reading m input ≡ Spelled script

-- what came is no script of this command, for this reason
pub record CameRefused (m : Mode) (had has : Option (List ℕ)) (line : ℕ) (why : Why) : Type 0 where
  pub input : List ℕ
  pub came : Came had has input
  pub refused : reading m input ≡ Refused line why

-- a script is fit for the command, or that of the number that it is from
abbrev pub IsOf : ScriptFrom → Script → Type 0
IsOf (script_from.Input m) script = IsFit m script × (length script.orders ≤ 20000)
IsOf (script_from.Number n) script = script ≡ bulk_script n

-- a fact for a script from a number alone
abbrev pub IfNumber : ScriptFrom → Type 0 → Type 0
IfNumber (script_from.Input m) P = Unit {0}
IfNumber (script_from.Number n) P = P

-- there is a script: one that came, or that of a number
abbrev pub HasScript : ScriptFrom → Option (List ℕ) → Option (List ℕ) → Script → Type 0
HasScript (script_from.Input m) had has script = CameScript m had has script
HasScript (script_from.Number n) had has script = script ≡ bulk_script n

-- there is none, for this reason; a number always has one
abbrev pub HasNone : ScriptFrom → Option (List ℕ) → Option (List ℕ) → ℕ → Why → Type 0
HasNone (script_from.Input m) had has line why = CameRefused m had has line why
HasNone (script_from.Number n) had has line why = ⊥

-- there is a script, whose trace stops at this line or at none, and its whole text was written and flushed
pub record Wrote (f : Form) (stop : Option ℕ) (had has : Option (List ℕ)) (before after : Taken) : Type 0 where
  pub script : Script
  pub came : HasScript (from_of f) had has script
  pub stops : stops_at f script ≡ stop
  pub text : Bytes
  pub is_text : IsText f script text
  pub written : after.bytes ≡ followed_by before.bytes text
  pub flushed : after.flushed ≡ count_of after.bytes
  pub holds : Holds f script

-- there is a script, and a front of its text was written
pub record Began (f : Form) (had has : Option (List ℕ)) (before after : Taken) : Type 0 where
  pub script : Script
  pub came : HasScript (from_of f) had has script
  pub text : Bytes
  pub is_text : IsText f script text
  pub begun : TakesFront before.bytes after.bytes text

-- nothing was written, or a front of the text of a script; of `live`, `resume` and `apply` nothing
abbrev pub WroteFront : Form → Option (List ℕ) → Option (List ℕ) → Taken → Taken → Type 0
WroteFront (form.Live n s) had has before after = after.bytes ≡ before.bytes
WroteFront form.Resume had has before after = after.bytes ≡ before.bytes
WroteFront form.Apply had has before after = after.bytes ≡ before.bytes
WroteFront f had has before after = (after.bytes ≡ before.bytes) ⊎ Began f had has before after

-- how a run ends whose text was written
abbrev pub end_of : Option ℕ → Status
end_of None = status.Ok
end_of (Some line) = status.WireFull line

-- a form that works on a disk
abbrev pub IsOfDisk : Form → Type 0
IsOfDisk form.Log = Unit {0}
IsOfDisk form.Resume = Unit {0}
IsOfDisk form.Apply = Unit {0}
IsOfDisk f = ⊥

-- How a run of a form ends, status by status.
-- Ok: there is a script, its trace goes to the end, and exactly its text was written and flushed. WireFull: the same of a script whose trace stops at this line.
-- Refused: what came is no script, or is more than 4 MiB; nothing was written. ReadFault: the source's faults rose; nothing was written.
-- WriteFault: the sink's faults rose; a front of the script's text was written. OutOfMemory: nothing was written but such a front, and nothing was flushed.
-- What is so of the ends of a disk stands in `Disks`.
abbrev pub EndsAs : Form → Streams → Streams → Status → Type 0
EndsAs f old new status.Ok = Wrote f None old.left new.left old.taken new.taken
EndsAs f old new status.Usage = ⊥
EndsAs f old new (status.Refused line why) = HasNone (from_of f) old.left new.left line why × IsUnwritten old new
EndsAs f old new status.ReadFault = (old.read_faults < new.read_faults) × IsUnwritten old new
EndsAs f old new status.WriteFault = (old.write_faults < new.write_faults) × Began f old.left new.left old.taken new.taken
EndsAs f old new status.OutOfMemory = WroteFront f old.left new.left old.taken new.taken × (new.taken.flushed ≡ old.taken.flushed)
EndsAs f old new (status.WireFull line) = Wrote f (Some line) old.left new.left old.taken new.taken
EndsAs f old new status.DiskFault = IsOfDisk f
EndsAs f old new status.LogThere = IsOfDisk f
EndsAs f old new (status.LogDamaged at) = IsOfDisk f
EndsAs f old new (status.LogForeign batch) = IsOfDisk f

-- words that are no form are answered by Usage, and then nothing was read or written; no form is
abbrev pub EndsOf : Option Form → Streams → Streams → Status → Type 0
EndsOf None old new s = (s ≡ status.Usage) × (new ≡ old)
EndsOf (Some f) old new s = EndsAs f old new s

-- of a number nothing is read
abbrev pub ReadsNoMore : Option Form → Streams → Streams → Type 0
ReadsNoMore o old new = IfSome o (λ f. IfNumber (from_of f) (IsUnread old new))

-- no count of faults fell
abbrev pub NoneFell : Streams → Streams → Type 0
NoneFell old new = (old.read_faults ≤ new.read_faults) × (old.write_faults ≤ new.write_faults)

-- no fault rose
abbrev pub NoneRose : Streams → Streams → Type 0
NoneRose old new = (new.read_faults ≡ old.read_faults) × (new.write_faults ≡ old.write_faults)

-- a script is answered by its whole text, or there is no memory; with a disk, what stands on it counts too (`Disks`)
abbrev pub IsCarriedOut : Form → Script → Status → Type 0
IsCarriedOut form.Log script s = Unit {0}
IsCarriedOut form.Resume script s = Unit {0}
IsCarriedOut form.Apply script s = Unit {0}
IsCarriedOut f script s = (s ≡ end_of (stops_at f script)) ⊎ (s ≡ status.OutOfMemory)

-- what is no script is answered by its first fault, or there is no memory
abbrev pub Answers : Form → Reading → Status → Type 0
Answers f (Spelled script) s = IsCarriedOut f script s
Answers f (Refused line why) s = (s ≡ status.Refused line why) ⊎ (s ≡ status.OutOfMemory)

-- what is to be done: of what is read, where its source tells its bytes; of a number always
abbrev pub IsAnswered : Form → ScriptFrom → Option (List ℕ) → Status → Type 0
IsAnswered f (script_from.Input m) told s = IfSome told (λ xs. Answers f (reading m (take most_read xs)) s)
IsAnswered f (script_from.Number n) told s = IsCarriedOut f (bulk_script n) s

-- where no fault rose, a form is carried out, or there is no memory
abbrev pub IsComplete : Option Form → Streams → Streams → Status → Type 0
IsComplete o old new s = NoneRose old new → IfSome o (λ f. IsAnswered f (from_of f) old.left s)

-- how the reading of a script ends where there is none to go on with: what a source had and then has left, and its faults
abbrev pub EndsEarly : ScriptFrom → Option (List ℕ) → Option (List ℕ) → ℕ → ℕ → Status → Type 0
EndsEarly from had has faults after (status.Refused line why) = HasNone from had has line why
EndsEarly from had has faults after status.ReadFault = faults < after
EndsEarly from had has faults after status.OutOfMemory = Unit {0}
EndsEarly from had has faults after s = ⊥
