use Rattle.std.proofs.Common.{arith, subst}
use Rattle.std.specs.Prelude.{MatchOption}
use Rattle.fact_lines.specs.Entries.{IsNoEntry, Took}
use Rattle.fact_lines.proofs.TextLaws.{other_text}
use Rattle.fact_lines.proofs.lines.read_entries.Goals as goal

pub returns-in-None : goal.returns-in-None
returns-in-None c =
    let rest = c.loop-rest.rest.now in
    let none : IsNoEntry rest = subst (λ o. MatchOption o (IsNoEntry rest) (λ r. Took rest c.loop-rest.facts c.take_entry.new.facts r.now)) c.in-None.is c.in_ok-behind.ensures in
    other_text c.args.bytes.now c.loop-rest.facts rest c.loop-rest.invariant (omega (arith, c.loop-rest-test.true)) none
