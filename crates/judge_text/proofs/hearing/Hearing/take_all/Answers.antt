use Rattle.std.proofs.Common.{ap, ◌∙◌}
use Rattle.verdict_laws.specs.Verdict.{next}
use Rattle.judge_text.specs.Hears.{Told}
use Rattle.judge_text.proofs.HearLaws.{too_long}
use Rattle.judge_text.proofs.hearing.Hearing.take_all.Goals as goal

pub returns-then-rest-gt-MOST : goal.returns-then-rest-gt-MOST
returns-then-rest-gt-MOST c =
    too_long c.args.self.now c.loop-line.self c.args.bytes.now c.loop-line.rest.now c.next.result c.in_ok-quote.quote c.loop-line.invariant c.in_default.ensures c.if-rest-gt-MOST.true (c.next.ensures ∙ ap (λ (h : Told). next h.lines) c.self.view_is) c.in_ok-quote.ensures
