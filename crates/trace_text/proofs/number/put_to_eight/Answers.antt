use Rattle.std.proofs.Common.{arith, append_assoc}
use Rattle.trace_text.proofs.Decimal.{decimal_pair}
use Rattle.trace_text.proofs.number.put_to_eight.Goals as goal

pub returns-clause-items : goal.returns-clause-items
returns-clause-items c =
    rw (c.put_pair.ensures.items, c.put_to_six-at.ensures.items, decimal_pair c.args.n (omega (arith, c.requires.digits.0)) (omega (arith, c.ranges.n.fits)), append_assoc)
