-- Why a log isn't resumed, by what was found out of it.
use Rattle.disk_log.specs.declared.reading.ReadLogFault.{ReadLogFault}
use Rattle.disk_log.specs.declared.reading.ReadLogFault.TheVariants as reading
use Rattle.log_resume.specs.declared.fault.ResumeFault.{ResumeFault}
use Rattle.log_resume.specs.declared.fault.ResumeFault.TheVariants as log
use Rattle.resume_run.specs.declared.fault.ResumeError.{ResumeError}
use Rattle.resume_run.specs.declared.fault.ResumeError.TheVariants as error

abbrev pub of_reading : ReadLogFault → ResumeError
of_reading reading.Failed = error.Failed
of_reading reading.OutOfMemory = error.OutOfMemory
of_reading (reading.Damaged at) = error.Damaged at

abbrev pub of_log : ResumeFault → ResumeError
of_log (log.Foreign batch) = error.Foreign batch
of_log log.OutOfMemory = error.OutOfMemory
