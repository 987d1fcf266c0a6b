use Rattle.std.proofs.Common.{length}
use Rattle.judge_text.proofs.HearLaws.{GoesSo}
use Rattle.judge_text.proofs.hearing.Hearing.take_all.Given as goal

abbrev pub invariant-loop-line : goal.invariant-loop-line
invariant-loop-line l = GoesSo l.initial.self l.bytes l.self l.rest

abbrev pub decreases-loop-line : goal.decreases-loop-line
decreases-loop-line l = length l.rest
