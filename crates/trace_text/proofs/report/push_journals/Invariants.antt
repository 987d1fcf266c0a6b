use Rattle.std.proofs.Common.{◌≡◌, ◌++◌, drop}
use Rattle.std.specs.Prelude.{map}
use Rattle.yard_model.specs.Script.{setting}
use Rattle.trace_text.specs.Places.{lent_all}
use Rattle.trace_text.specs.Rows.{rows}
use Rattle.trace_text.proofs.report.push_journals.Given as goal

abbrev pub invariant-loop-i : goal.invariant-loop-i
invariant-loop-i g l = g.R.ReportRows.parts l.out ++ rows (g.R.ReportRows.entity_parts (setting l.charter)) (drop l.i l.names) (drop l.i (map lent_all l.journals)) ≡ g.R.ReportRows.parts l.fn.out ++ rows (g.R.ReportRows.entity_parts (setting l.charter)) l.names (map lent_all l.journals)
