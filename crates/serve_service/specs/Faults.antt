-- Which fault comes of which.
use Rattle.std.specs.Prelude.{◌+◌, min}
use Rattle.disk_log.specs.declared.headed.HeadedFault.{HeadedFault}
use Rattle.disk_log.specs.declared.headed.HeadedFault.TheVariants as headed
use Rattle.log_orders.specs.declared.orders.CommitFault.{CommitFault}
use Rattle.log_orders.specs.declared.orders.CommitFault.TheVariants as commit
use Rattle.log_resume.specs.declared.fault.ResumeFault.{ResumeFault}
use Rattle.log_resume.specs.declared.fault.ResumeFault.TheVariants as resume
use Rattle.serve_service.specs.declared.fault.OpenFault.{OpenFault}
use Rattle.serve_service.specs.declared.fault.OpenFault.TheVariants as fault

abbrev pub opening_of_commit : CommitFault → OpenFault
opening_of_commit commit.Failed = fault.Failed
opening_of_commit commit.OutOfMemory = fault.OutOfMemory

abbrev pub of_headed : HeadedFault → OpenFault
of_headed headed.Failed = fault.Failed
of_headed headed.OutOfMemory = fault.OutOfMemory
of_headed (headed.Damaged at) = fault.Damaged at
of_headed headed.LongHead = fault.Foreign 1

-- (the settings' frame stands before the batches)
abbrev pub of_resume : ResumeFault → OpenFault
of_resume resume.OutOfMemory = fault.OutOfMemory
of_resume (resume.Foreign batch) = fault.Foreign (min (batch + 1) 4294967295)
