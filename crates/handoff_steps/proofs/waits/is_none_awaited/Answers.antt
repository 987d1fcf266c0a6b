use Rattle.std.proofs.Common.{◌+◌, ◌<◌, ◌&&◌, not, drop, sym, ap, ◌∙◌, arith, length}
use Rattle.yard_model.specs.Words.{is_empty}
use Rattle.handoff_steps.specs.Awaited.{awaited_from}
use Rattle.handoff_steps.proofs.BitLaws.{empty_more}
use Rattle.handoff_steps.proofs.waits.is_none_awaited.Goals as goal

pub returns-then-bit_of : goal.returns-then-bit_of
returns-then-bit_of c =
    let rs = c.args.regions.now in
    let p = c.loop-place.place in
    let more = empty_more rs p c.args.awaited (omega (arith, c.loop-place.invariant.end, c.loop-place-test.true)) in
    sym (sym c.loop-place.invariant.rest ∙ (more ∙ ap (λ b. not b && is_empty (awaited_from (p + 1) (drop (p + 1) rs) c.args.awaited)) (sym c.bit_of.ensures ∙ c.if-bit_of.true)))

pub loop-place-preserved : goal.loop-place-preserved
loop-place-preserved c =
    let rs = c.args.regions.now in
    let p = c.loop-place.place in
    let low : p < length rs = omega (arith, c.loop-place.invariant.end, c.loop-place-test.true) in
    let more = empty_more rs p c.args.awaited low in record {
      within = omega (arith, c.loop-place.invariant.end, c.loop-place-test.true);
      end = c.loop-place.invariant.end;
      rest = sym (more ∙ ap (λ b. not b && is_empty (awaited_from (p + 1) (drop (p + 1) rs) c.args.awaited)) (sym c.bit_of.ensures ∙ c.if-bit_of.false)) ∙ c.loop-place.invariant.rest;
    }
