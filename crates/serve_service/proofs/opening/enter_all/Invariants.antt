use Rattle.std.proofs.Common.{◌≡◌, take}
use Rattle.serve_service.specs.Openings.{with_queued}
use Rattle.serve_service.proofs.opening.enter_all.Given as goal

-- what the entries so far queue was entered
abbrev pub invariant-loop-fact : goal.invariant-loop-fact
invariant-loop-fact l = l.desk ≡ with_queued l.fn.desk (take l.fact-index l.facts)
