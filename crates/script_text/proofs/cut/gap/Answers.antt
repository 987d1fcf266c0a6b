use Rattle.std.proofs.Common.{sym, ◌∙◌}
use Rattle.script_text.proofs.Gaps.{gap_none, gap_found}
use Rattle.script_text.proofs.cut.gap.Goals as goal

pub returns-in_err-low-clause-place : goal.returns-in_err-low-clause-place
returns-in_err-low-clause-place c = c.from_residual.ensures ∙ sym (gap_none c.args.text.now (sym c.in_err-low.ensures.place))

pub returns-then-is_gap-clause-place : goal.returns-then-is_gap-clause-place
returns-then-is_gap-clause-place c = sym (gap_found c.args.text.now c.in_ok-low.low (sym c.in_ok-low.ensures.place) (sym c.is_gap.ensures ∙ c.if-is_gap.true))
