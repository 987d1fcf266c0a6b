use Rattle.std.proofs.Common.{◌+◌, ◌<◌, ◌||◌, drop, sym, ap, ◌∙◌, arith, length}
use Rattle.yard_model.specs.Words.{is_among}
use Rattle.handoff_steps.specs.Awaited.{awaited_from}
use Rattle.handoff_steps.proofs.BitLaws.{among_more}
use Rattle.handoff_steps.proofs.waits.is_awaited.Goals as goal

pub returns-then-is_awaited_at : goal.returns-then-is_awaited_at
returns-then-is_awaited_at c =
    let rs = c.args.regions.now in
    let p = c.loop-place.place in
    let who = c.args.who.now in
    let more = among_more who rs p c.args.awaited (omega (arith, c.loop-place.invariant.end, c.loop-place-test.true)) in
    sym (sym c.loop-place.invariant.rest ∙ (more ∙ ap (λ b. b || is_among who (awaited_from (p + 1) (drop (p + 1) rs) c.args.awaited)) (sym c.is_awaited_at.ensures ∙ c.if-is_awaited_at.true)))

pub loop-place-preserved : goal.loop-place-preserved
loop-place-preserved c =
    let rs = c.args.regions.now in
    let p = c.loop-place.place in
    let who = c.args.who.now in
    let low : p < length rs = omega (arith, c.loop-place.invariant.end, c.loop-place-test.true) in
    let more = among_more who rs p c.args.awaited low in record {
      within = omega (arith, c.loop-place.invariant.end, c.loop-place-test.true);
      end = c.loop-place.invariant.end;
      rest = sym (more ∙ ap (λ b. b || is_among who (awaited_from (p + 1) (drop (p + 1) rs) c.args.awaited)) (sym c.is_awaited_at.ensures ∙ c.if-is_awaited_at.false)) ∙ c.loop-place.invariant.rest;
    }
