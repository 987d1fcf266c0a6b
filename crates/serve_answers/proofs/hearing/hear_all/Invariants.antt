use Rattle.std.proofs.Common.{length}
use Rattle.std.specs.Str.Lines.{lines}
use Rattle.serve_answers.proofs.HearLaws.{Hearing}
use Rattle.serve_answers.proofs.hearing.hear_all.Given as goal

abbrev pub invariant-loop-cut : goal.invariant-loop-cut
invariant-loop-cut l = Hearing l.fn.desk l.desk (lines l.group) (lines l.rest) l.fn.answers.items l.answers.items l.changed

abbrev pub decreases-loop-cut : goal.decreases-loop-cut
decreases-loop-cut l = length l.rest
