-- In words: what is wrong where the input wasn't served to its end, and where to read on. The texts stand with the code.
use Rattle.yard_model.specs.Text.{Bytes}
use Rattle.serve_run.specs.declared.status.Status.{Status}
use Rattle.serve_run.specs.declared.status.Status.TheVariants as status
use Rattle.serve_run.specs.declared.explain.TheConstants as text

-- what is wrong
abbrev pub explanation_of : Status → Bytes
explanation_of status.Served = text.NOTHING.now
explanation_of status.Usage = text.USAGE.now
explanation_of status.ReadFault = text.READ_FAULT.now
explanation_of status.WriteFault = text.WRITE_FAULT.now
explanation_of status.OutOfMemory = text.OUT_OF_MEMORY.now
explanation_of status.DiskFault = text.DISK_FAULT.now
explanation_of (status.LogDamaged at) = text.DAMAGED.now
explanation_of (status.LogForeign frame) = text.FOREIGN.now

-- where to read on
abbrev pub place_of : Status → Bytes
place_of status.Served = text.NOTHING.now
place_of s = text.SERVING.now
