use Rattle.std.proofs.Common.{◌≡◌, ◌+◌, false, ap, sym, subst, ◌∙◌}
use Rattle.std.specs.Prelude.{◌&&◌}
use Rattle.yard_model.specs.Script.{Script}
use Rattle.script_text.specs.Reading.{IsFitWithin, has_many_pings, is_over, is_pull, with_line}
use Rattle.script_text.proofs.FitLaws.{line_fits}
use Rattle.script_text.proofs.read.read_next.Goals as goal

pub returns-clause-within : goal.returns-clause-within
returns-clause-within c n w =
    let more : c.add.new.self ≡ with_line c.args.draft.now c.args.number c.in_ok-order.order = c.in_ok-is_sent.ensures.line in
    subst (IsFitWithin c.args.mode (n + 1)) (sym more)
    (line_fits c.args.mode n c.args.draft.now c.args.number c.in_ok-order.order w c.in_ok-order.ensures.known
    (subst (λ (s : Script). is_over c.args.mode s ≡ false) more (sym c.is_over.ensures ∙ c.if-is_over.false))
    (sym c.takes.ensures ∙ c.if-not-takes.false)
    (ap (λ b. is_pull c.args.mode && b) (sym c.in_ok-is_sent.ensures.sent) ∙ (sym c.is_second_job.ensures ∙ c.if-is_second_job.false))
    (subst (λ (s : Script). has_many_pings s ≡ false) more (sym c.has_many_pings.ensures ∙ c.if-has_many_pings.false)))
