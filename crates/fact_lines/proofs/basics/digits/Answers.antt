use Rattle.std.proofs.Common.{◌∙◌, sym}
use Rattle.fact_lines.proofs.NumberLaws.{over}
use Rattle.fact_lines.proofs.basics.digits.Goals as goal

pub returns-then-value-top-clause-read : goal.returns-then-value-top-clause-read
returns-then-value-top-clause-read c =
    over c.args.top c.loop-i.value c.loop-i.i c.args.line.now c.loop-i-test.true (sym c.is_digit.ensures ∙ c.if-is_digit.true) c.if-value-top.true c.loop-i.invariant.rest
