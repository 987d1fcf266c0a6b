-- What a run of `log` leaves, as a log that `apply` goes on with.
use Rattle.std.specs.Prelude.{ℕ, take, IsTrue}
use Rattle.yard_model.specs.Script.{Script, IsScript}
use Rattle.disk_log.specs.Spelled.{AreBatches}
use Rattle.log_resume.specs.Restored.{are_taken, entries}
use Rattle.logged_lines.specs.Logged.{batches_of}

-- whatever front of its batches a run of `log` left
abbrev pub LeftOfLogIsTaken : Type 0
LeftOfLogIsTaken = (c : Script) (k : ℕ) → IsScript c → AreBatches (take k (batches_of c)) → IsTrue (are_taken c (entries (take k (batches_of c))))
