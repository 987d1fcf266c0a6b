use Rattle.std.proofs.Common.{◌≡◌, take, map}
use Rattle.trace_judge.specs.Judging.{new_cell}
use Rattle.trace_judge.proofs.cells.new_cells.Given as goal

abbrev pub invariant-loop-name : goal.invariant-loop-name
invariant-loop-name l = l.cells.items ≡ map (new_cell l.charter) (take l.name-index l.names)
