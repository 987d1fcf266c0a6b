use Rattle.fact_lines.proofs.NumberLaws.{text_short}
use Rattle.state_lines.proofs.basics.text.Goals as goal

pub returns-then-i-line : goal.returns-then-i-line
returns-then-i-line c = text_short c.args.text.now c.args.line.now c.loop-i.i c.loop-i-test.true c.if-i-line.true c.loop-i.invariant.rest
