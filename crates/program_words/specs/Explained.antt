-- In words: what is wrong where a run didn't write the whole text, and where to read on. The texts stand with the code.
use Rattle.std.specs.Prelude.{Bool, true, false, Option, Some, None}
use Rattle.yard_model.specs.Text.{Bytes}
use Rattle.script_text.specs.declared.fault.Why.{Why}
use Rattle.script_text.specs.declared.fault.Why.TheVariants as why
use Rattle.program_words.specs.Forms.{from_of}
use Rattle.program_words.specs.declared.forms.Form.{Form}
use Rattle.program_words.specs.declared.forms.ScriptFrom.{ScriptFrom}
use Rattle.program_words.specs.declared.forms.ScriptFrom.TheVariants as script_from
use Rattle.program_words.specs.declared.status.Status.{Status}
use Rattle.program_words.specs.declared.status.Status.TheVariants as status
use Rattle.program_words.specs.declared.explain.TheConstants as text

-- why a script is refused
abbrev pub explanation_of_reason : Why → Bytes
explanation_of_reason why.NotText = text.NOT_TEXT.now
explanation_of_reason why.LongLine = text.LONG_LINE.now
explanation_of_reason why.NoConfig = text.NO_CONFIG.now
explanation_of_reason why.SecondConfig = text.SECOND_CONFIG.now
explanation_of_reason why.UnknownWord = text.UNKNOWN_WORD.now
explanation_of_reason why.MissingWord = text.MISSING_WORD.now
explanation_of_reason why.ExtraWord = text.EXTRA_WORD.now
explanation_of_reason why.BadNumber = text.BAD_NUMBER.now
explanation_of_reason why.OutOfRange = text.OUT_OF_RANGE.now
explanation_of_reason why.BadName = text.BAD_NAME.now
explanation_of_reason why.TooManyLines = text.TOO_MANY_LINES.now
explanation_of_reason why.TooLong = text.TOO_LONG.now
explanation_of_reason why.WrongMode = text.WRONG_MODE.now
explanation_of_reason why.SecondJob = text.SECOND_JOB.now
explanation_of_reason why.WrongKind = text.WRONG_KIND.now
explanation_of_reason why.TooManyPings = text.TOO_MANY_PINGS.now

-- what is wrong
abbrev pub explanation_of : Status → Bytes
explanation_of status.Ok = text.NOTHING.now
explanation_of status.Usage = text.USAGE.now
explanation_of (status.Refused line why) = explanation_of_reason why
explanation_of status.ReadFault = text.READ_FAULT.now
explanation_of status.WriteFault = text.WRITE_FAULT.now
explanation_of status.OutOfMemory = text.OUT_OF_MEMORY.now
explanation_of (status.WireFull line) = text.WIRE_FULL.now
explanation_of status.DiskFault = text.DISK_FAULT.now
explanation_of status.LogThere = text.LOG_THERE.now
explanation_of (status.LogDamaged at) = text.LOG_DAMAGED.now
explanation_of (status.LogForeign batch) = text.LOG_FOREIGN.now

-- where to read on
abbrev pub place_of : Status → Bytes
place_of status.Ok = text.NOTHING.now
place_of status.Usage = text.COMMANDS.now
place_of (status.Refused line why) = text.REFUSALS.now
place_of status.ReadFault = text.ENDS.now
place_of status.WriteFault = text.ENDS.now
place_of status.OutOfMemory = text.ENDS.now
place_of (status.WireFull line) = text.ENDS.now
place_of status.DiskFault = text.ON_DISK.now
place_of status.LogThere = text.ON_DISK.now
place_of (status.LogDamaged at) = text.ON_DISK.now
place_of (status.LogForeign batch) = text.ON_DISK.now

abbrev pub is_input : ScriptFrom → Bool
is_input (script_from.Input m) = true
is_input (script_from.Number n) = false

-- whether a form reads a script, where the words are one
abbrev pub reads_script : Option Form → Bool
reads_script None = false
reads_script (Some f) = is_input (from_of f)
