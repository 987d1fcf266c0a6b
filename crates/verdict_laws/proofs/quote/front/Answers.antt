use Rattle.std.proofs.Common.{sym, arith, length-take-le}
use Rattle.std.proofs.lemmas.List.{take_all}
use Rattle.verdict_laws.specs.Lines.{most_shown}
use Rattle.verdict_laws.proofs.quote.front.Goals as goal

pub slice_bounds-result-end : goal.slice_bounds-result-end
slice_bounds-result-end c = sym (length-take-le 200 c.args.line.now (omega (arith, c.if-line-gt-MOST_SHOWN.true)))

pub returns-else-line-gt-MOST_SHOWN : goal.returns-else-line-gt-MOST_SHOWN
returns-else-line-gt-MOST_SHOWN c = sym (take_all most_shown c.args.line.now (omega (arith, c.if-line-gt-MOST_SHOWN.false)))
