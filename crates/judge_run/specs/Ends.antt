-- How a run of the judge may end, and what each end says.
use Rattle.std.specs.Prelude.{◌≡◌, ◌<◌, ◌≤◌, ◌⊎◌, ℕ, Bool, true, false, nat_lt, List, ◌++◌, length, Option, Some, IfSome, if◌then◌else◌}
use Rattle.yard_io.specs.Told.{followed_by, count_of, TakesFront}
use Rattle.yard_io.specs.declared.transfer.ReadError.{ReadError}
use Rattle.yard_io.specs.declared.transfer.ReadError.TheVariants as read_error
use Rattle.yard_model.specs.Script.{Script}
use Rattle.script_text.specs.Reading.{Reading, Spelled, Refused, reading}
use Rattle.script_text.specs.declared.fault.Mode.TheVariants as mode
use Rattle.script_text.specs.declared.fault.Why.{Why}
use Rattle.script_text.specs.declared.fault.Why.TheVariants as why
use Rattle.judge_text.specs.Reads.{IsJudged, ahead, left_of}
use Rattle.judge_laws.specs.declared.breach.Breach.{Breach}
use Rattle.judge_laws.specs.declared.breach.Breach.TheVariants as breach
use Rattle.verdict_laws.specs.declared.answer.Answer.{Answer}
use Rattle.verdict_laws.specs.declared.answer.Answer.TheVariants as answer
use Rattle.verdict_laws.specs.Meaning.{Means}
use Rattle.verdict_laws.specs.Verdict.{verdict}
use Rattle.judge_run.specs.declared.status.Status.{Status}
use Rattle.judge_run.specs.declared.status.Status.TheVariants as status
use Rattle.judge_run.specs.Input.{ends_line, has_trace, put_together, script_in, trace_in}
use Rattle.judge_run.specs.Texts.{answer_text}

-- the exit status of the program
abbrev pub code_of : Status → ℕ
code_of status.Safe = 0
code_of status.Unsafe = 1
code_of status.Usage = 2
code_of (status.Refused line why) = 3
code_of status.NoTrace = 3
code_of status.NoFact = 3
code_of status.NotJudged = 3
code_of status.ReadFault = 4
code_of status.WriteFault = 5
code_of status.OutOfMemory = 6

-- how a run ends that answered with a breach
abbrev pub status_by : Breach → Status
status_by breach.NotJudged = status.NotJudged
status_by why = status.Unsafe

-- how a run ends whose answer was written
abbrev pub status_of : Answer → Status
status_of (answer.Safe n) = status.Safe
status_of (answer.Broken n why q) = status_by why
status_of (answer.NoFact n q) = status.NoFact

-- what is to be answered of a script and a trace
abbrev pub wanted_of : Reading → List ℕ → Status
wanted_of (Spelled c) trace = status_of (verdict c trace)
wanted_of (Refused line y) trace = status.Refused line y

-- so many bytes are read before a line `trace` is missed: those of a script, and more than that line
abbrev pub most_read : ℕ
most_read = 4194311

-- what of an input without it, of so many bytes: it is none of a script and a trace, or too long for a script
abbrev pub wanted_alone : ℕ → Status
wanted_alone n = if nat_lt n most_read then status.NoTrace else status.Refused 0 why.TooLong

-- what is to be answered of an input
abbrev pub wanted : List ℕ → Status
wanted input = if has_trace input then wanted_of (reading mode.Replay (script_in input)) (trace_in input) else wanted_alone (length input)

-- this is what a source gave and still has: where it tells its bytes, all that it had
pub record IsInput (had has : Option (List ℕ)) (input : List ℕ) : Type 0 where
  pub bytes : List ℕ
  pub told : had ≡ ahead bytes has
  pub input_is : input ≡ bytes ++ left_of has
  pub all : IfSome had (λ xs. input ≡ xs)

-- an input whose script is read, and what is answered of its trace
pub record Answers (had has : Option (List ℕ)) (a : Answer) : Type 0 where
  pub input : List ℕ
  pub input_is : IsInput had has input
  pub there : has_trace input ≡ true
  pub script : Script
  pub spelled : reading mode.Replay (script_in input) ≡ Spelled script
  pub some : 0 < script.config.shards
  pub answer_is : verdict script (trace_in input) ≡ a
  pub means : Means script (trace_in input) a

-- an input whose script is refused
pub record Refuses (had has : Option (List ℕ)) (line : ℕ) (why : Why) : Type 0 where
  pub input : List ℕ
  pub input_is : IsInput had has input
  pub refused : reading mode.Replay (script_in input) ≡ Refused line why
  pub exact : wanted input ≡ status.Refused line why

-- an input without a line `trace`
pub record Lacks (had has : Option (List ℕ)) : Type 0 where
  pub input : List ℕ
  pub input_is : IsInput had has input
  pub none : has_trace input ≡ false
  pub exact : wanted input ≡ status.NoTrace

-- a run that was answered
abbrev pub IfAnswered : Status → Type 0 → Type 0
IfAnswered status.Safe P = P
IfAnswered status.Unsafe P = P
IfAnswered status.NoFact P = P
IfAnswered status.NotJudged P = P
IfAnswered s P = Unit {0}

abbrev pub IfRefused : Status → (ℕ → Why → Type 0) → Type 0
IfRefused (status.Refused line why) P = P line why
IfRefused s P = Unit {0}

abbrev pub IfNoTrace : Status → Type 0 → Type 0
IfNoTrace status.NoTrace P = P
IfNoTrace s P = Unit {0}

-- a run never ends as one with words, which reads nothing
abbrev pub HasRun : Status → Type 0
HasRun status.Usage = ⊥
HasRun s = Unit {0}

abbrev pub IfReadFault : Status → Type 0 → Type 0
IfReadFault status.ReadFault P = P
IfReadFault s P = Unit {0}

abbrev pub IfWriteFault : Status → Type 0 → Type 0
IfWriteFault status.WriteFault P = P
IfWriteFault s P = Unit {0}

-- nothing is written by a run that ends so
abbrev pub IfUnwritten : Status → Type 0 → Type 0
IfUnwritten (status.Refused line why) P = P
IfUnwritten status.NoTrace P = P
IfUnwritten status.ReadFault P = P
IfUnwritten status.OutOfMemory P = P
IfUnwritten s P = Unit {0}

-- what a sink had taken and flushed, where it tells
pub record Taken : Type 0 where
  pub bytes : Option (List ℕ)
  pub flushed : Option ℕ

-- exactly the text of an answer was written and flushed
pub record Wrote (had has : Option (List ℕ)) (s : Status) (before after : Taken) : Type 0 where
  pub it : Answer
  pub answers : Answers had has it
  pub status_is : s ≡ status_of it
  pub written : after.bytes ≡ followed_by before.bytes (answer_text it)
  pub flushed : after.flushed ≡ count_of after.bytes

-- a front of it was written
pub record Began (had has : Option (List ℕ)) (before after : Taken) : Type 0 where
  pub it : Answer
  pub answers : Answers had has it
  pub begun : TakesFront before.bytes after.bytes (answer_text it)

-- this is what was to be answered, or there is no memory
abbrev pub IsComplete : Option (List ℕ) → Status → Type 0
IsComplete told s = IfSome told (λ xs. (s ≡ wanted xs) ⊎ (s ≡ status.OutOfMemory))

-- exactly the text of this answer was written and flushed
pub record Says (a : Answer) (s : Status) (before after : Taken) : Type 0 where
  pub status_is : s ≡ status_of a
  pub written : after.bytes ≡ followed_by before.bytes (answer_text a)
  pub flushed : after.flushed ≡ count_of after.bytes

-- Of whole lines that spell a script, the line between and any text, exactly what is so of that text is written, or there
-- is no memory.
abbrev pub JudgesWhole : Option (List ℕ) → Status → Taken → Taken → Type 0
JudgesWhole told s before after =
    (script text : List ℕ) (c : Script) (a : Answer) → told ≡ Some (put_together script text) → ends_line script ≡ true → reading mode.Replay script ≡ Spelled c → Means c text a → Says a s before after ⊎ (s ≡ status.OutOfMemory)

-- The two halves of a run.

-- one that ends before there is an answer
abbrev pub IsEarly : Status → Type 0
IsEarly (status.Refused line why) = Unit {0}
IsEarly status.NoTrace = Unit {0}
IsEarly status.ReadFault = Unit {0}
IsEarly status.OutOfMemory = Unit {0}
IsEarly s = ⊥

-- one behind whose line `trace` there is no answer
abbrev pub IsUnheard : Status → Type 0
IsUnheard (status.Refused line why) = Unit {0}
IsUnheard status.ReadFault = Unit {0}
IsUnheard status.OutOfMemory = Unit {0}
IsUnheard s = ⊥

-- one whose script is refused, or isn't read for want of memory
abbrev pub IsScriptEnd : Status → Type 0
IsScriptEnd (status.Refused line why) = Unit {0}
IsScriptEnd status.OutOfMemory = Unit {0}
IsScriptEnd s = ⊥

abbrev pub status_without : ReadError → Status
status_without read_error.Failed = status.ReadFault
status_without read_error.OutOfMemory = status.OutOfMemory

-- a script, and a trace that begins with these bytes
pub record Behind (text first : List ℕ) (had has : Option (List ℕ)) (a : Answer) : Type 0 where
  pub script : Script
  pub spelled : reading mode.Replay text ≡ Spelled script
  pub some : 0 < script.config.shards
  pub judged : IsJudged script first had has a

-- a sink, with its faults so far
pub record Sunk : Type 0 where
  pub taken : Taken
  pub faults : ℕ

-- what became of the text of an answer
abbrev pub Tells : Answer → Status → Sunk → Sunk → Type 0
Tells a status.WriteFault old new = TakesFront old.taken.bytes new.taken.bytes (answer_text a) × (old.faults < new.faults)
Tells a status.OutOfMemory old new = new ≡ old
Tells a s old new = (s ≡ status_of a) × (new.taken.bytes ≡ followed_by old.taken.bytes (answer_text a)) × (new.taken.flushed ≡ count_of new.taken.bytes) × (old.faults ≤ new.faults)
