use Rattle.std.proofs.Common.{sym, ◌∙◌, refl, rules}
use Rattle.judge_text.specs.Steps.{Cuts}
use Rattle.judge_run.proofs.InputLaws.{cut_here, one_passed, uncut}
use Rattle.judge_run.proofs.input.cut.Goals as goal

pub returns-then-is_between : goal.returns-then-is_between
returns-then-is_between c =
    let k : Cuts c.loop-line.rest.now c.in-Some.line.now c.in-Some.behind.now = search rules in
    cut_here c.args.input.now c.loop-line.rest.now c.in-Some.line.now c.in-Some.behind.now _ c.loop-line.invariant k (sym c.is_between.ensures ∙ c.if-is_between.true) refl

pub loop-line-preserved : goal.loop-line-preserved
loop-line-preserved c =
    let k : Cuts c.loop-line.rest.now c.in-Some.line.now c.in-Some.behind.now = search rules in
    one_passed c.args.input.now c.loop-line.rest.now c.in-Some.line.now c.in-Some.behind.now c.loop-line.invariant k (sym c.is_between.ensures ∙ c.if-is_between.false)

pub returns : goal.returns
returns c = uncut c.args.input.now c.loop-line.rest.now c.loop-line.invariant c.in_default.ensures
