-- How a run ends.
use Rattle.std.specs.Prelude.{ℕ, Bool, true, false, [], ◌++◌, codes, decimal, Result, Ok, Err}
use Rattle.yard_model.specs.Text.{Bytes}
use Rattle.serve_run.specs.declared.status.Status.{Status}
use Rattle.serve_run.specs.declared.status.Status.TheVariants as status
use Rattle.serve_service.specs.declared.fault.OpenFault.{OpenFault}
use Rattle.serve_service.specs.declared.fault.OpenFault.TheVariants as fault
use Rattle.serve_run.specs.declared.stop.Stop.{Stop}
use Rattle.serve_run.specs.declared.stop.Stop.TheVariants as stop

-- the exit status of the program
abbrev pub code_of : Status → ℕ
code_of status.Served = 0
code_of status.Usage = 2
code_of status.ReadFault = 4
code_of status.WriteFault = 5
code_of status.OutOfMemory = 6
code_of status.DiskFault = 8
code_of (status.LogDamaged at) = 10
code_of (status.LogForeign frame) = 11

abbrev pub of_stop : Stop → Status
of_stop stop.Read = status.ReadFault
of_stop stop.Write = status.WriteFault
of_stop stop.Disk = status.DiskFault
of_stop stop.OutOfMemory = status.OutOfMemory

-- of a run whose log was opened
abbrev pub of_end : {T : Type 0} → Result T Stop → Status
of_end (Ok x) = status.Served
of_end (Err why) = of_stop why

abbrev pub of_open : OpenFault → Status
of_open fault.Failed = status.DiskFault
of_open fault.OutOfMemory = status.OutOfMemory
of_open (fault.Damaged at) = status.LogDamaged at
of_open (fault.Foreign frame) = status.LogForeign frame

-- what stands on standard error beside it, without the end of its line
abbrev pub complaint : Status → Bytes
complaint status.Served = []
complaint status.Usage = codes "usage: serve, with lines on standard input and its log, sharder.log, in the current folder"
complaint status.ReadFault = codes "serve: read fault"
complaint status.WriteFault = codes "serve: write fault"
complaint status.OutOfMemory = codes "serve: out of memory"
complaint status.DiskFault = codes "serve: disk fault"
complaint (status.LogDamaged at) = codes "serve: log damaged at " ++ decimal at
complaint (status.LogForeign frame) = codes "serve: log of another script, batch " ++ decimal frame

-- whether there is a line
abbrev pub complains : Status → Bool
complains status.Served = false
complains s = true
