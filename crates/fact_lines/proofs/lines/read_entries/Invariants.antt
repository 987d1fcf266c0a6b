use Rattle.std.proofs.Common.{length}
use Rattle.fact_lines.specs.Entries.{TookSo}
use Rattle.fact_lines.proofs.lines.read_entries.Given as goal

abbrev pub invariant-loop-rest : goal.invariant-loop-rest
invariant-loop-rest l = TookSo l.bytes l.facts l.rest

abbrev pub decreases-loop-rest : goal.decreases-loop-rest
decreases-loop-rest l = length l.rest
