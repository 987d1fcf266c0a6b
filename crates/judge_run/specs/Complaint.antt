-- What stands on standard error beside a status, without the end of its line.
use Rattle.std.specs.Prelude.{Bool, true, false, [], ◌++◌, codes, decimal}
use Rattle.script_text.specs.Faults.{number_of}
use Rattle.yard_model.specs.Text.{Bytes}
use Rattle.judge_run.specs.declared.status.Status.{Status}
use Rattle.judge_run.specs.declared.status.Status.TheVariants as status

-- nothing where an answer was written
abbrev pub complaint : Status → Bytes
complaint status.Safe = []
complaint status.Unsafe = []
complaint status.NoFact = []
complaint status.NotJudged = []
complaint status.Usage = codes "usage: judge, with a script, a line `trace` and a trace on standard input"
complaint (status.Refused line why) = codes "judge: line " ++ decimal line ++ codes ": reason " ++ decimal (number_of why)
complaint status.NoTrace = codes "judge: no line trace"
complaint status.ReadFault = codes "judge: read fault"
complaint status.WriteFault = codes "judge: write fault"
complaint status.OutOfMemory = codes "judge: out of memory"

-- whether there is a line
abbrev pub complains : Status → Bool
complains status.Safe = false
complains status.Unsafe = false
complains status.NoFact = false
complains status.NotJudged = false
complains s = true
