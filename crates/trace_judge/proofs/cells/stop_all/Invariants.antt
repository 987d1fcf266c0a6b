use Rattle.std.proofs.Common.{◌≡◌, take, drop, map}
use Rattle.trace_judge.specs.Judging.{stopped}
use Rattle.trace_judge.proofs.cells.stop_all.Given as goal

abbrev pub invariant-loop-cell : goal.invariant-loop-cell
invariant-loop-cell l = (take l.cell-index l.cells ≡ map (stopped l.who) (take l.cell-index l.fn.cells)) × (drop l.cell-index l.cells ≡ drop l.cell-index l.fn.cells)
