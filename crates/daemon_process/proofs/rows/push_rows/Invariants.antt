use Rattle.std.proofs.Common.{◌≡◌, ◌++◌, drop}
use Rattle.daemon_process.specs.Lines.{rows_text}
use Rattle.daemon_process.proofs.rows.push_rows.Given as goal

abbrev pub invariant-loop-row : goal.invariant-loop-row
invariant-loop-row l = l.text.items ++ rows_text l.count (drop l.row-index l.rows) ≡ l.initial.text.items ++ rows_text l.count l.rows
