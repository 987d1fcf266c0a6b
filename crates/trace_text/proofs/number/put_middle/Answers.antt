use Rattle.std.proofs.Common.{arith, append_assoc}
use Rattle.trace_text.proofs.Decimal.{decimal_pair}
use Rattle.trace_text.proofs.number.put_middle.Goals as goal

pub returns-clause-items : goal.returns-clause-items
returns-clause-items c =
    rw (c.put_pair.ensures.items, c.put_small-at.ensures.items, decimal_pair c.args.n c.requires.middle.0 (omega (arith, c.ranges.n.fits)), append_assoc)
