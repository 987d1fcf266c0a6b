use Rattle.std.proofs.Common.{◌≡◌, ◌++◌, ◌-◌, length}
use Rattle.std.specs.List.{flat_map}
use Rattle.yard_model.specs.Words.{numbers}
use Rattle.daemon_process.specs.Lines as lines
use Rattle.daemon_process.proofs.lines.moved_rows.Given as goal

abbrev pub invariant-loop-i : goal.invariant-loop-i
invariant-loop-i l = l.rows.items ++ flat_map (lines.moved_row l.watch) (numbers l.i (length l.watch.here - l.i)) ≡ lines.moved_rows l.watch
