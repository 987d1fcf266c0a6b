-- Which fault comes of which.
use Rattle.log_orders.specs.declared.orders.CommitFault.{CommitFault}
use Rattle.log_orders.specs.declared.orders.CommitFault.TheVariants as commit
use Rattle.yard_io.specs.declared.transfer.ReadError.{ReadError}
use Rattle.yard_io.specs.declared.transfer.ReadError.TheVariants as read_error
use Rattle.serve_run.specs.declared.stop.Stop.{Stop}
use Rattle.serve_run.specs.declared.stop.Stop.TheVariants as stop

abbrev pub of_read : ReadError → Stop
of_read read_error.Failed = stop.Read
of_read read_error.OutOfMemory = stop.OutOfMemory

abbrev pub of_commit : CommitFault → Stop
of_commit commit.Failed = stop.Disk
of_commit commit.OutOfMemory = stop.OutOfMemory
