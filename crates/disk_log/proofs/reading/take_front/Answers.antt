use Rattle.std.proofs.Common.{subst, refl}
use Rattle.std.specs.Prelude.{MatchOption}
use Rattle.fact_lines.specs.Entries.{IsNoEntry, Took}
use Rattle.disk_log.proofs.ReadLaws.{took_front, took_less}
use Rattle.disk_log.proofs.reading.take_front.Goals as goal

pub overflow_sub-result : goal.overflow_sub-result
overflow_sub-result c =
    let b = c.args.bytes.now in
    took_less b c.args.facts.now c.take_entry.new.facts c.in-Some.rest.now
    (subst (λ o. MatchOption o (IsNoEntry b) (λ r. Took b c.args.facts.now c.take_entry.new.facts r.now)) c.in-Some.is c.in_ok-rest.ensures)

pub returns-in-Some : goal.returns-in-Some
returns-in-Some c =
    let b = c.args.bytes.now in
    took_front b c.args.facts.now c.take_entry.new.facts c.in-Some.rest.now _
    (subst (λ o. MatchOption o (IsNoEntry b) (λ r. Took b c.args.facts.now c.take_entry.new.facts r.now)) c.in-Some.is c.in_ok-rest.ensures) refl

pub returns-in-None : goal.returns-in-None
returns-in-None c =
    let b = c.args.bytes.now in
    subst (λ o. MatchOption o (IsNoEntry b) (λ r. Took b c.args.facts.now c.take_entry.new.facts r.now)) c.in-None.is c.in_ok-rest.ensures
