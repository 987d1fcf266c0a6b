use Rattle.std.proofs.Common.{◌≡◌, ◌++◌, drop}
use Rattle.trace_text.specs.Rows.{rows}
use Rattle.trace_text.proofs.queues.push_tallies.Given as goal

abbrev pub invariant-loop-i : goal.invariant-loop-i
invariant-loop-i g l = g.R.ReportRows.parts l.out ++ rows (g.R.ReportRows.pair_parts l.p) (drop l.i l.names) (drop l.i l.tallies) ≡ g.R.ReportRows.parts l.fn.out ++ rows (g.R.ReportRows.pair_parts l.p) l.names l.tallies
