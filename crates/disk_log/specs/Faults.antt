-- Why a log with a head isn't opened, by what reading says.
use Rattle.disk_log.specs.declared.headed.HeadedFault.{HeadedFault}
use Rattle.disk_log.specs.declared.headed.HeadedFault.TheVariants as headed
use Rattle.disk_log.specs.declared.reading.ReadLogFault.{ReadLogFault}
use Rattle.disk_log.specs.declared.reading.ReadLogFault.TheVariants as reading

abbrev pub of_reading : ReadLogFault → HeadedFault
of_reading reading.Failed = headed.Failed
of_reading reading.OutOfMemory = headed.OutOfMemory
of_reading (reading.Damaged at) = headed.Damaged at
