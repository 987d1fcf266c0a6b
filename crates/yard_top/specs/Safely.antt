-- What is so of what `replay` and `log` wrote, said without a machine: a reader of this clause need believe no rule of nodes, packets or handoffs.
use Rattle.std.specs.Prelude.{◌≡◌, ℕ, List, Option, IfSome}
use Rattle.yard_io.specs.Told.{followed_by}
use Rattle.script_text.specs.Reading.{Spelled, reading}
use Rattle.script_text.specs.declared.fault.Mode.{Mode}
use Rattle.script_text.specs.declared.fault.Mode.TheVariants as mode
use Rattle.yard_model.specs.Script.{Script}
use Rattle.yard_model.specs.Text.{Bytes}
use Rattle.play_laws.specs.SafeText.{SafeText}
use Rattle.program_words.specs.declared.forms.Form.{Form}
use Rattle.program_words.specs.declared.forms.Form.TheVariants as form
use Rattle.program_words.specs.declared.status.Status.{Status}
use Rattle.program_words.specs.declared.status.Status.TheVariants as status
use Rattle.yard_top.specs.Ends.{Streams}

-- the whole text of a script was written, of a trace that goes to its end or stops
abbrev pub IfWritten : Status → Type 0 → Type 0
IfWritten status.Ok P = P
IfWritten (status.WireFull line) P = P
IfWritten s P = Unit {0}

-- the forms that write a trace and its report, each with the command that its script is read for
abbrev pub IfTraced : Form → (Mode → Type 0) → Type 0
IfTraced form.Replay P = P mode.Replay
IfTraced form.Log P = P mode.Log
IfTraced f P = Unit {0}

-- what the source had spells a script, and what was written, behind what the sink had taken, is the text of a safe trace of it; where source and sink tell their bytes
pub record WroteSafely (had before after : Option (List ℕ)) (m : Mode) : Type 0 where
  pub script : Script
  pub spelled : IfSome had (λ xs. reading m xs ≡ Spelled script)
  pub text : Bytes
  pub written : after ≡ followed_by before text
  pub safe : SafeText script text

-- what is so of what `replay` and `log` wrote
abbrev pub IsSafely : Option Form → Streams → Streams → Status → Type 0
IsSafely o old new s = IfWritten s (IfSome o (λ f. IfTraced f (WroteSafely old.left old.taken.bytes new.taken.bytes)))
