use Rattle.std.proofs.Common.{◌≡◌, take}
use Rattle.log_resume.specs.Restored.{entries}
use Rattle.serve_service.specs.Openings.{script_of}
use Rattle.serve_service.proofs.opening.queued_in.Given as goal

-- what the batches so far queue was entered
abbrev pub invariant-loop-k : goal.invariant-loop-k
invariant-loop-k l = l.desk ≡ script_of l.fn.config (entries (take l.k l.batches))
