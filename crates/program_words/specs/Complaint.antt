-- What a run leaves beside its text: the exit status, and the line on standard error without its end.
use Rattle.std.specs.Prelude.{ℕ, [], ◌++◌, codes, decimal}
use Rattle.script_text.specs.Faults.{number_of}
use Rattle.yard_model.specs.Text.{Bytes}
use Rattle.program_words.specs.declared.status.Status.{Status}
use Rattle.program_words.specs.declared.status.Status.TheVariants as status

-- the exit status of the program
abbrev pub code_of : Status → ℕ
code_of status.Ok = 0
code_of status.Usage = 2
code_of (status.Refused line why) = 3
code_of status.ReadFault = 4
code_of status.WriteFault = 5
code_of status.OutOfMemory = 6
code_of (status.WireFull line) = 7
code_of status.DiskFault = 8
code_of status.LogThere = 9
code_of (status.LogDamaged at) = 10
code_of (status.LogForeign batch) = 11

-- nothing where the whole text was written
abbrev pub complaint : Status → Bytes
complaint status.Ok = []
complaint status.Usage = codes "usage: sharder solo or replay [json] or live TURNS SEED or bulk NUMBER or log or resume or apply or pull or daemon COUNT"
complaint (status.Refused line why) = codes "sharder: line " ++ decimal line ++ codes ": reason " ++ decimal (number_of why)
complaint status.ReadFault = codes "sharder: read fault"
complaint status.WriteFault = codes "sharder: write fault"
complaint status.OutOfMemory = codes "sharder: out of memory"
complaint (status.WireFull line) = codes "sharder: line " ++ decimal line ++ codes ": wire full"
complaint status.DiskFault = codes "sharder: disk fault"
complaint status.LogThere = codes "sharder: log is there"
complaint (status.LogDamaged at) = codes "sharder: log damaged at " ++ decimal at
complaint (status.LogForeign batch) = codes "sharder: log of another script, batch " ++ decimal batch
