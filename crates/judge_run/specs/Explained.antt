-- In words: what is wrong where no answer was written, and where to read on. The texts stand with the code.
use Rattle.yard_model.specs.Text.{Bytes}
use Rattle.program_words.specs.Explained.{explanation_of_reason}
use Rattle.judge_run.specs.declared.status.Status.{Status}
use Rattle.judge_run.specs.declared.status.Status.TheVariants as status
use Rattle.judge_run.specs.declared.explain.TheConstants as text

-- what is wrong
abbrev pub explanation_of : Status → Bytes
explanation_of status.Usage = text.USAGE.now
explanation_of (status.Refused line why) = explanation_of_reason why
explanation_of status.NoTrace = text.NO_TRACE.now
explanation_of status.ReadFault = text.READ_FAULT.now
explanation_of status.WriteFault = text.WRITE_FAULT.now
explanation_of status.OutOfMemory = text.OUT_OF_MEMORY.now
explanation_of s = text.NOTHING.now

-- where to read on
abbrev pub place_of : Status → Bytes
place_of status.Usage = text.JUDGING.now
place_of (status.Refused line why) = text.REFUSALS.now
place_of status.NoTrace = text.JUDGING.now
place_of status.ReadFault = text.JUDGING.now
place_of status.WriteFault = text.JUDGING.now
place_of status.OutOfMemory = text.JUDGING.now
place_of s = text.NOTHING.now
