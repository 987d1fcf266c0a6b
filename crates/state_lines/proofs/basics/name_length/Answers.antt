use Rattle.std.proofs.Common.{◌∙◌, sym, arith}
use Rattle.fact_lines.proofs.NumberLaws.{name_ends, name_stops}
use Rattle.state_lines.proofs.basics.name_length.Goals as goal

pub returns-else-is_name_byte-clause-read : goal.returns-else-is_name_byte-clause-read
returns-else-is_name_byte-clause-read c =
    name_stops c.loop-i.i c.args.line.now c.loop-i-test.true c.loop-i.invariant.each (sym c.is_name_byte.ensures ∙ c.if-is_name_byte.false)

pub returns-after-loop-i-clause-read : goal.returns-after-loop-i-clause-read
returns-after-loop-i-clause-read c =
    name_ends c.loop-i.i c.args.line.now (omega (arith, c.loop-i-test.false)) c.loop-i.invariant.each
