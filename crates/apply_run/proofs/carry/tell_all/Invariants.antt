use Rattle.std.proofs.Common.{◌≡◌, ◌++◌, take}
use Rattle.apply_run.proofs.carry.tell_all.Given as goal

-- those before are told
abbrev pub invariant-loop-fact : goal.invariant-loop-fact
invariant-loop-fact g l = l.out ≡ l.fn.out ++ take l.fact-index l.facts
