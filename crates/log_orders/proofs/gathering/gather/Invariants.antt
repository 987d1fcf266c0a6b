use Rattle.std.proofs.Common.{take}
use Rattle.log_orders.specs.Gathered.{Gathers}
use Rattle.log_orders.proofs.gathering.gather.Given as goal

-- the facts so far are gathered
abbrev pub invariant-loop-fact : goal.invariant-loop-fact
invariant-loop-fact l = Gathers (take l.fact-index l.facts) l.batch
