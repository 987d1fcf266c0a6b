use Rattle.trace_text.proofs.Decimal.{PAIRS_at}
use Rattle.trace_text.proofs.number.put_pair.Goals as goal

pub returns-clause-items : goal.returns-clause-items
returns-clause-items c = let p = PAIRS_at c.args.pair c.requires.pair in rw (c.put_two.ensures.items, p.0, p.1)
