use Rattle.std.proofs.Common.{◌≡◌, ◌++◌, take}
use Rattle.disk_log.proofs.batches.push_all.Given as goal

-- those before stand behind the others
abbrev pub invariant-loop-fact : goal.invariant-loop-fact
invariant-loop-fact l = l.all ≡ l.fn.all ++ take l.fact-index l.facts
