use Rattle.std.proofs.Common.{sym}
use Rattle.verdict_laws.specs.Lines.{is_lf}
use Rattle.verdict_laws.proofs.CutLaws.{up_to_at, up_to_whole}
use Rattle.verdict_laws.proofs.quote.up_to_end.Goals as goal

pub returns-in-Some : goal.returns-in-Some
returns-in-Some c = sym (up_to_at is_lf c.args.bytes.now c.in-Some.end (sym c.in-Some.ensures.place))

pub returns-in-None : goal.returns-in-None
returns-in-None c = sym (up_to_whole is_lf c.args.bytes.now (sym c.in-None.ensures.place))
