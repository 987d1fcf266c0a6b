use Rattle.std.proofs.Common.{◌∙◌, sym}
use Rattle.fact_lines.proofs.NumberLaws.{over}
use Rattle.state_lines.proofs.basics.digits.Goals as goal

pub returns-in_default-clause-read : goal.returns-in_default-clause-read
returns-in_default-clause-read c =
    over c.args.top c.loop-i.value c.loop-i.i c.args.line.now c.loop-i-test.true (sym c.is_digit.ensures ∙ c.if-is_digit.true) c.in_default.ensures c.loop-i.invariant.rest
