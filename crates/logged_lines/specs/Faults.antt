-- Faults of what `log` stands on, as its own.
use Rattle.disk_log.specs.declared.log.MakeFault.{MakeFault}
use Rattle.disk_log.specs.declared.log.MakeFault.TheVariants as make
use Rattle.log_orders.specs.declared.orders.CommitFault.{CommitFault}
use Rattle.log_orders.specs.declared.orders.CommitFault.TheVariants as commit
use Rattle.run_parts.specs.declared.writing.WriteError.{WriteError}
use Rattle.run_parts.specs.declared.writing.WriteError.TheVariants as write
use Rattle.logged_lines.specs.declared.log_fault.LogError.{LogError}
use Rattle.logged_lines.specs.declared.log_fault.LogError.TheVariants as fault

abbrev pub of_make : MakeFault → LogError
of_make make.Failed = fault.Disk
of_make make.There = fault.There

abbrev pub of_commit : CommitFault → LogError
of_commit commit.Failed = fault.Disk
of_commit commit.OutOfMemory = fault.OutOfMemory

abbrev pub of_write : WriteError → LogError
of_write write.Failed = fault.Failed
of_write write.OutOfMemory = fault.OutOfMemory
